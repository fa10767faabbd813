use Rattle.std.proofs.Common.{◌≡◌, ◌∙◌, ◌++◌, ◌∷◌, ℕ, List, length, sym, subst, ap, rules, refl, arith, Err, length-append}
use Rattle.std.proofs.lemmas.Bool.{false≢true}
use Rattle.gr_symbols.specs.Numbers.{Names, with_text, with_texts}
use Rattle.gr_symbols.proofs.NumberLemmas.{Grows-trans, Names-grows}
use Rattle.gr_text.specs.Words.{IsBareWord}
use Rattle.td_canon.specs.TreeText.{label_text}
use Rattle.tg_reader.specs.Naming.{label_names}
use Rattle.tg_reader.proofs.PairLemmas.{bare_length, bare_word, known_pair, pair_regroup, put_each, put_or_there}
use Rattle.tg_reader.proofs.Runs.{word_run}
use Rattle.tg_reader.proofs.Steps.{stops}
use Rattle.tg_reader.proofs.reader.Reader.pair.Goals as goal

pub returns-in_err-attribute-clause-takes : goal.returns-in_err-attribute-clause-takes
returns-in_err-attribute-clause-takes c = λ text p rest can end e.
    let is : c.from_residual.result ≡ Err c.in_err-attribute.field-0.0 = search rules in
    rw is (stops c.in_err-attribute.field-0.0 _ _ (c.in_err-attribute.ensures.takes (text p.0) (61 ∷ (label_text text p.1 ++ rest)) (word_run (text p.0) can.attribute) refl (e ∙ pair_regroup text p rest)))

pub returns-then-not-is_bare-clause-takes : goal.returns-then-not-is_bare-clause-takes
returns-then-not-is_bare-clause-takes c = λ text p rest can end e.
    let read = c.in_ok-attribute.ensures.takes (text p.0) (61 ∷ (label_text text p.1 ++ rest)) (word_run (text p.0) can.attribute) refl (e ∙ pair_regroup text p rest) in
    false≢true (sym c.if-not-is_bare.true ∙ c.is_bare.ensures.1 (subst IsBareWord (sym read.1) (bare_word (text p.0) can.attribute.word)))

pub returns-in_err-expect-clause-takes : goal.returns-in_err-expect-clause-takes
returns-in_err-expect-clause-takes c = λ text p rest can end e.
    let is : c.from_residual-in_err-expect.result ≡ Err c.in_err-expect.field-0.0 = search rules in
    let read = c.in_ok-attribute.ensures.takes (text p.0) (61 ∷ (label_text text p.1 ++ rest)) (word_run (text p.0) can.attribute) refl (e ∙ pair_regroup text p rest) in
    rw is (stops c.in_err-expect.field-0.0 _ _ (c.in_err-expect.ensures.takes (label_text text p.1 ++ rest) read.0))

pub returns-in_err-value-clause-takes : goal.returns-in_err-value-clause-takes
returns-in_err-value-clause-takes c = λ text p rest can end e.
    let is : c.from_residual-in_err-value.result ≡ Err c.in_err-value.field-0.0 = search rules in
    let read = c.in_ok-attribute.ensures.takes (text p.0) (61 ∷ (label_text text p.1 ++ rest)) (word_run (text p.0) can.attribute) refl (e ∙ pair_regroup text p rest) in
    rw is (stops c.in_err-value.field-0.0 _ _ (c.in_err-value.ensures.takes text p.1 rest can.value end (c.in_ok-expect.ensures.takes (label_text text p.1 ++ rest) read.0)))

pub returns-in_err-value-clause-passes : goal.returns-in_err-value-clause-passes
returns-in_err-value-clause-passes c =
    let some = bare_length c.in_ok-attribute.attribute.now (c.is_bare.ensures.0 c.if-not-is_bare.false) in
    record {
      grows = Grows-trans _ _ _ c.in_ok-number.ensures.grows c.term.ensures.passes.grows;
      shorter = omega (arith, c.term.ensures.passes.shorter, c.expect.ensures.shorter, c.text.ensures.shorter);
      few = omega (arith, some, c.term.ensures.passes.few, c.expect.ensures.shorter, c.intern.ensures.one_more_at_most, ap (λ (z : List ℕ). length z) c.in_ok-attribute.ensures.front, length-append c.in_ok-attribute.attribute.now c.text.new.self.rest.now);
    }

pub returns-clause-takes : goal.returns-clause-takes
returns-clause-takes c = λ text p rest can end e.
    let read = c.in_ok-attribute.ensures.takes (text p.0) (61 ∷ (label_text text p.1 ++ rest)) (word_run (text p.0) can.attribute) refl (e ∙ pair_regroup text p rest) in
    let value = c.in_ok-value.ensures.takes text p.1 rest can.value end (c.in_ok-expect.ensures.takes (label_text text p.1 ++ rest) read.0) in (
      value.0,
      record {
        table = value.1.table ∙ ap (λ z. with_texts z (label_names text p.1)) (c.in_ok-number.ensures.table ∙ ap (with_text c.args.symbols.now) read.1);
        later = λ later grows. (
          (c.in_ok-number.number, c.in_ok-value.value),
          (subst (λ z. Names later c.in_ok-number.number.0 z) read.1 (Names-grows _ later _ _ c.in_ok-number.ensures.named (Grows-trans _ _ later c.term.ensures.passes.grows grows)), value.1.later later grows),
          put_or_there c.in_ok-_added._added _ _ c.in_ok-number.number c.in_ok-value.value c.in_ok-_added.ensures.absent c.in_ok-_added.ensures.added c.in_ok-_added.ensures.there c.in_ok-_added.ensures.same,
        );
      },
    )

pub returns-clause-known : goal.returns-clause-known
returns-clause-known c = λ before later grows.
    let grows_all = Grows-trans _ _ later c.in_ok-number.ensures.grows (Grows-trans _ _ later c.term.ensures.passes.grows grows) in
    record {
      listed = c.add.ensures.listed;
      pairs = put_each c.in_ok-_added._added _ _ c.in_ok-number.number c.in_ok-value.value c.in_ok-_added.ensures.absent c.in_ok-_added.ensures.added c.in_ok-_added.ensures.there c.in_ok-_added.ensures.same _
          (known_pair later c.in_ok-number.number c.in_ok-value.value c.in_ok-attribute.attribute.now (Names-grows _ later _ _ c.in_ok-number.ensures.named (Grows-trans _ _ later c.term.ensures.passes.grows grows)) c.in_ok-attribute.ensures.name
          (c.is_bare.ensures.0 c.if-not-is_bare.false) (c.in_ok-value.ensures.known later grows))
          (before later grows_all).pairs;
    }
