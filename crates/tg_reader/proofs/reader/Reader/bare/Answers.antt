use Rattle.std.proofs.Common.{◌≡◌, ◌∙◌, ℕ, List, ◌∷◌, sym, subst, ap, rules, Err, length, arith}
use Rattle.std.proofs.lemmas.Bool.Decides.{Decides-eqb}
use Rattle.gr_symbols.specs.Numbers.{Names, with_text}
use Rattle.gr_symbols.proofs.NumberLemmas.{Names-grows}
use Rattle.tg_reader.proofs.Runs.{word_run, word_some}
use Rattle.tg_reader.proofs.Steps.{known_name, stops}
use Rattle.tg_reader.proofs.reader.Reader.bare.Goals as goal

pub returns-in_err-word-clause-takes : goal.returns-in_err-word-clause-takes
returns-in_err-word-clause-takes c = λ t rest word end e.
    let is : c.from_residual.result ≡ Err c.in_err-word.field-0.0 = search rules in
    rw is (stops c.in_err-word.field-0.0 _ _ (c.in_err-word.ensures.takes t rest (word_run t word) end e))

pub returns-then-is_empty-clause-takes : goal.returns-then-is_empty-clause-takes
returns-then-is_empty-clause-takes c = λ t rest word end e.
    let read = c.in_ok-word.ensures.takes t rest (word_run t word) end e in
    let some = word_some t word.word in
    let same : c.in_ok-word.word.now ≡ some.0 ∷ some.1 = read.1 ∙ some.2 in
    let empty : length c.in_ok-word.word.now ≡ 0 = (Decides-eqb (length c.in_ok-word.word.now) 0).0 (sym c.is_empty.ensures ∙ c.if-is_empty.true) in
    omega (arith, ap (λ (z : List ℕ). length z) same)

pub returns-clause-takes : goal.returns-clause-takes
returns-clause-takes c = λ t rest word end e.
    let read = c.in_ok-word.ensures.takes t rest (word_run t word) end e in (
      read.0,
      record {
        table = c.in_ok-name.ensures.table ∙ ap (with_text c.args.symbols.now) read.1;
        later = λ later grows. subst (λ z. Names later c.in_ok-name.name.0 z) read.1 (Names-grows _ later _ _ c.in_ok-name.ensures.named grows);
      },
    )

pub returns-clause-known : goal.returns-clause-known
returns-clause-known c = λ later grows. known_name later _ _ (Names-grows _ later _ _ c.in_ok-name.ensures.named grows) c.in_ok-word.ensures.name
