use Rattle.std.proofs.Common.{◌≡◌, ◌∙◌, ◌++◌, ◌∷◌, [], rules, refl, Err}
use Rattle.tg_reader.specs.Naming.{pair_names}
use Rattle.tg_reader.specs.Reading.{CanReadPair, PutsPair, pair_text}
use Rattle.tg_reader.specs.declared.reader.Run.TheVariants.{Word}
use Rattle.tg_reader.proofs.Rows.{all, ends_row, first_of, next, none_yet, row, with_first}
use Rattle.tg_reader.proofs.Steps.{ate, passes_then, stops}
use Rattle.tg_reader.proofs.reader.Reader.pairs.Goals as goal

pub returns-in_err-pair-clause-takes : goal.returns-in_err-pair-clause-takes
returns-in_err-pair-clause-takes c = λ text ps rest can end e.
    let is : c.from_residual.result ≡ Err c.in_err-pair.field-0.0 = search rules in
    let f = first_of (pair_text text) 44 (pair_names text) (PutsPair text) (CanReadPair text) ps can in
    rw is (stops c.in_err-pair.field-0.0 _ _ (c.in_err-pair.ensures.takes text f.first (row (pair_text text) 44 f.more ++ rest) f.can (ends_row (pair_text text) 44 Word f.more rest refl end.word) (e ∙ f.joined rest)))

pub row-init : goal.row-init
row-init c = record {
  so_far = λ text ps rest can end e. none_yet (pair_text text) 44 (pair_names text) (PutsPair text) ps rest c.pair.new.bag c.pair.new.symbols c.pair.new.self.rest.now e;
  known = λ h. h;
  passes = search rules;
}

pub row-preserved : goal.row-preserved
row-preserved c = record {
  so_far = λ text ps rest can end e.
      let n = next (pair_text text) 44 (pair_names text) (PutsPair text) (CanReadPair text) ps rest _ _ _ _ _ c.eat.new.self.rest.now can end.comma c.row-test.ensures.yes (c.row.invariant.so_far text ps rest can end e) in
      let read = c.in_ok-pair-2.ensures.takes text n.item (row (pair_text text) 44 n.left ++ rest) n.can (ends_row (pair_text text) 44 Word n.left rest refl end.word) n.behind in
      n.on _ _ _ c.pair-in-row.ensures.passes.grows read.0 read.1;
  known = λ h. c.in_ok-pair-2.ensures.known (c.row.invariant.known h);
  passes = passes_then _ _ _ _ _ _ c.row.invariant.passes (passes_then _ _ _ _ _ _ (ate _ (44 ∷ []) _ _ c.row-test.ensures.yes) c.pair-in-row.ensures.passes);
}

pub returns-in_err-pair-2-clause-takes : goal.returns-in_err-pair-2-clause-takes
returns-in_err-pair-2-clause-takes c = λ text ps rest can end e.
    let is : c.from_residual-in_err-pair-2.result ≡ Err c.in_err-pair-2.field-0.0 = search rules in
    let f = first_of (pair_text text) 44 (pair_names text) (PutsPair text) (CanReadPair text) ps can in
    let read = c.in_ok-pair.ensures.takes text f.first (row (pair_text text) 44 f.more ++ rest) f.can (ends_row (pair_text text) 44 Word f.more rest refl end.word) (e ∙ f.joined rest) in
    let n = next (pair_text text) 44 (pair_names text) (PutsPair text) (CanReadPair text) f.more rest _ _ _ _ _ c.eat.new.self.rest.now f.can_more end.comma c.row-test.ensures.yes (c.row.invariant.so_far text f.more rest f.can_more end read.0) in
    rw is (stops c.in_err-pair-2.field-0.0 _ _ (c.in_err-pair-2.ensures.takes text n.item (row (pair_text text) 44 n.left ++ rest) n.can (ends_row (pair_text text) 44 Word n.left rest refl end.word) n.behind))

pub returns-clause-takes : goal.returns-clause-takes
returns-clause-takes c = λ text ps rest can end e.
    let f = first_of (pair_text text) 44 (pair_names text) (PutsPair text) (CanReadPair text) ps can in
    let read = c.in_ok-pair.ensures.takes text f.first (row (pair_text text) 44 f.more ++ rest) f.can (ends_row (pair_text text) 44 Word f.more rest refl end.word) (e ∙ f.joined rest) in
    let a = all (pair_text text) 44 (pair_names text) (PutsPair text) f.more rest _ _ _ _ _ c.row-test.ensures.no (c.row.invariant.so_far text f.more rest f.can_more end read.0) in (
      c.row-test.ensures.same ∙ a.bytes_are,
      with_first (pair_text text) 44 (pair_names text) (PutsPair text) (CanReadPair text) ps f _ _ _ _ _ _ c.row.invariant.passes.grows read.1 a.turns,
    )

pub returns-clause-known : goal.returns-clause-known
returns-clause-known c = λ h. c.row.invariant.known (c.in_ok-pair.ensures.known h)
