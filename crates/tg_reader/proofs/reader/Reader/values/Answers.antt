use Rattle.std.proofs.Common.{◌≡◌, ◌∙◌, ◌++◌, ◌∷◌, [], rules, refl, Err}
use Rattle.td_canon.specs.TreeText.{label_text}
use Rattle.tg_reader.specs.Naming.{label_names}
use Rattle.tg_reader.specs.Reading.{AppendsValue, CanRead, IsKnownTerm}
use Rattle.tg_reader.specs.declared.reader.Run.TheVariants.{Word}
use Rattle.tg_reader.proofs.Rows.{all, ends_row, first_of, next, none_yet, row, with_first}
use Rattle.tg_reader.proofs.Steps.{ate, known_more, passes_then, stops}
use Rattle.tg_reader.proofs.reader.Reader.values.Goals as goal

pub returns-in_err-first-clause-takes : goal.returns-in_err-first-clause-takes
returns-in_err-first-clause-takes c = λ text vs rest can end e.
    let is : c.from_residual.result ≡ Err c.in_err-first.field-0.0 = search rules in
    let f = first_of (label_text text) 32 (label_names text) (AppendsValue text) (CanRead text) vs can in
    rw is (stops c.in_err-first.field-0.0 _ _ (c.in_err-first.ensures.takes text f.first (row (label_text text) 32 f.more ++ rest) f.can (ends_row (label_text text) 32 Word f.more rest refl end.word) (e ∙ f.joined rest)))

pub row-init : goal.row-init
row-init c = record {
  so_far = λ text vs rest can end e. none_yet (label_text text) 32 (label_names text) (AppendsValue text) vs rest c.push.new.self c.term.new.symbols c.term.new.self.rest.now e;
  known = λ h. h;
  passes = search rules;
}

pub row-preserved : goal.row-preserved
row-preserved c = record {
  so_far = λ text vs rest can end e.
      let n = next (label_text text) 32 (label_names text) (AppendsValue text) (CanRead text) vs rest _ _ _ _ _ c.eat.new.self.rest.now can end.space c.row-test.ensures.yes (c.row.invariant.so_far text vs rest can end e) in
      let read = c.in_ok-next.ensures.takes text n.item (row (label_text text) 32 n.left ++ rest) n.can (ends_row (label_text text) 32 Word n.left rest refl end.word) n.behind in
      n.on _ _ _ c.term-in-row.ensures.passes.grows read.0 (record { table = read.1.table; later = λ ts grows. (c.in_ok-next.next, read.1.later ts grows, c.in_ok-push-2.ensures.ok) });
  known = λ h. known_more (λ v texts. IsKnownTerm v texts) _ _ _ _ _ c.term-in-row.ensures.passes.grows c.in_ok-push-2.ensures.ok (c.row.invariant.known h) c.in_ok-next.ensures.known;
  passes = passes_then _ _ _ _ _ _ c.row.invariant.passes (passes_then _ _ _ _ _ _ (ate _ (32 ∷ []) _ _ c.row-test.ensures.yes) c.term-in-row.ensures.passes);
}

pub returns-in_err-next-clause-takes : goal.returns-in_err-next-clause-takes
returns-in_err-next-clause-takes c = λ text vs rest can end e.
    let is : c.from_residual-in_err-next.result ≡ Err c.in_err-next.field-0.0 = search rules in
    let f = first_of (label_text text) 32 (label_names text) (AppendsValue text) (CanRead text) vs can in
    let read = c.in_ok-first.ensures.takes text f.first (row (label_text text) 32 f.more ++ rest) f.can (ends_row (label_text text) 32 Word f.more rest refl end.word) (e ∙ f.joined rest) in
    let n = next (label_text text) 32 (label_names text) (AppendsValue text) (CanRead text) f.more rest _ _ _ _ _ c.eat.new.self.rest.now f.can_more end.space c.row-test.ensures.yes (c.row.invariant.so_far text f.more rest f.can_more end read.0) in
    rw is (stops c.in_err-next.field-0.0 _ _ (c.in_err-next.ensures.takes text n.item (row (label_text text) 32 n.left ++ rest) n.can (ends_row (label_text text) 32 Word n.left rest refl end.word) n.behind))

pub returns-clause-takes : goal.returns-clause-takes
returns-clause-takes c = λ text vs rest can end e.
    let f = first_of (label_text text) 32 (label_names text) (AppendsValue text) (CanRead text) vs can in
    let read = c.in_ok-first.ensures.takes text f.first (row (label_text text) 32 f.more ++ rest) f.can (ends_row (label_text text) 32 Word f.more rest refl end.word) (e ∙ f.joined rest) in
    let a = all (label_text text) 32 (label_names text) (AppendsValue text) f.more rest _ _ _ _ _ c.row-test.ensures.no (c.row.invariant.so_far text f.more rest f.can_more end read.0) in (
      c.row-test.ensures.same ∙ a.bytes_are,
      with_first (label_text text) 32 (label_names text) (AppendsValue text) (CanRead text) vs f _ c.push.new.self _ _ _ _ c.row.invariant.passes.grows
          (record { table = read.1.table; later = λ ts grows. (c.in_ok-first.first, read.1.later ts grows, c.in_ok-push.ensures.ok) }) a.turns,
    )

pub returns-clause-known : goal.returns-clause-known
returns-clause-known c = λ h. c.row.invariant.known (known_more (λ v texts. IsKnownTerm v texts) _ _ _ _ _ c.term.ensures.passes.grows c.in_ok-push.ensures.ok h c.in_ok-first.ensures.known)
