use Rattle.std.proofs.Common.{◌≡◌, ◌∙◌, ◌++◌, ◌∷◌, [], sym, rules, Err}
use Rattle.td_canon.specs.TreeText.{literal_text}
use Rattle.tg_reader.specs.Naming.{literal_names}
use Rattle.tg_reader.specs.Reading.{AppendsLiteral, CanReadLiteral, IsKnownLiteral}
use Rattle.tg_reader.proofs.Rows.{all, next, none_yet, row}
use Rattle.tg_reader.proofs.Steps.{ate, known_more, passes_then, stops}
use Rattle.tg_reader.proofs.reader.Reader.literals.Goals as goal

pub row-init : goal.row-init
row-init c = record {
  so_far = λ text ls rest can end e. none_yet (literal_text text) 32 (literal_names text) (AppendsLiteral text) ls rest c.new-literals.result c.args.symbols.now c.args.self.now.rest.now e;
  known = λ later grows. rw c.new-literals.ensures tt;
  passes = search rules;
}

pub row-preserved : goal.row-preserved
row-preserved c = record {
  so_far = λ text ls rest can end e.
      let n = next (literal_text text) 32 (literal_names text) (AppendsLiteral text) (CanReadLiteral text) ls rest _ _ _ _ _ c.eat.new.self.rest.now can end c.row-test.ensures.yes (c.row.invariant.so_far text ls rest can end e) in
      let read = c.in_ok-next.ensures.takes text n.item (row (literal_text text) 32 n.left ++ rest) n.can tt n.behind in
      n.on _ _ _ c.literal.ensures.passes.grows read.0 (record { table = read.1.table; later = λ ts grows. (c.in_ok-next.next, read.1.later ts grows, c.in_ok-push.ensures.ok) });
  known = known_more (λ l texts. IsKnownLiteral texts l) _ _ _ _ _ c.literal.ensures.passes.grows c.in_ok-push.ensures.ok c.row.invariant.known c.in_ok-next.ensures.known;
  passes = passes_then _ _ _ _ _ _ c.row.invariant.passes (passes_then _ _ _ _ _ _ (ate _ (32 ∷ []) _ _ c.row-test.ensures.yes) c.literal.ensures.passes);
}

pub returns-in_err-next-clause-takes : goal.returns-in_err-next-clause-takes
returns-in_err-next-clause-takes c = λ text ls rest can end e.
    let is : c.from_residual.result ≡ Err c.in_err-next.field-0.0 = search rules in
    let n = next (literal_text text) 32 (literal_names text) (AppendsLiteral text) (CanReadLiteral text) ls rest _ _ _ _ _ c.eat.new.self.rest.now can end c.row-test.ensures.yes (c.row.invariant.so_far text ls rest can end e) in
    rw is (stops c.in_err-next.field-0.0 _ _ (c.in_err-next.ensures.takes text n.item (row (literal_text text) 32 n.left ++ rest) n.can tt n.behind))

pub returns-clause-takes : goal.returns-clause-takes
returns-clause-takes c = λ text ls rest can end e.
    let a = all (literal_text text) 32 (literal_names text) (AppendsLiteral text) ls rest _ _ _ _ _ c.row-test.ensures.no (c.row.invariant.so_far text ls rest can end e) in
    (c.row-test.ensures.same ∙ a.bytes_are, record { table = a.turns.table; later = λ later grows. rw (sym c.new-literals.ensures) (a.turns.later later grows) })
