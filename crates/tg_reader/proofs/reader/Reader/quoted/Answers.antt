use Rattle.std.proofs.Common.{◌≡◌, ◌∙◌, ◌∷◌, [], subst, rules, refl, Err, append_assoc, ap}
use Rattle.gr_symbols.specs.Numbers.{Names, with_text}
use Rattle.gr_symbols.proofs.NumberLemmas.{Names-grows}
use Rattle.tg_reader.proofs.Runs.{inside_run}
use Rattle.tg_reader.proofs.Steps.{known_name, stops}
use Rattle.tg_reader.proofs.reader.Reader.quoted.Goals as goal

pub returns-in_err-inside-clause-takes : goal.returns-in_err-inside-clause-takes
returns-in_err-inside-clause-takes c = λ t rest name end e.
    let is : c.from_residual.result ≡ Err c.in_err-inside.field-0.0 = search rules in
    rw is (stops c.in_err-inside.field-0.0 _ _ (c.in_err-inside.ensures.takes t (34 ∷ rest) (inside_run t name) refl (e ∙ append_assoc t (34 ∷ []) rest)))

pub returns-in_err-expect-clause-takes : goal.returns-in_err-expect-clause-takes
returns-in_err-expect-clause-takes c = λ t rest name end e.
    let is : c.from_residual-in_err-expect.result ≡ Err c.in_err-expect.field-0.0 = search rules in
    let read = c.in_ok-inside.ensures.takes t (34 ∷ rest) (inside_run t name) refl (e ∙ append_assoc t (34 ∷ []) rest) in
    rw is (stops c.in_err-expect.field-0.0 _ _ (c.in_err-expect.ensures.takes rest read.0))

pub returns-clause-takes : goal.returns-clause-takes
returns-clause-takes c = λ t rest name end e.
    let read = c.in_ok-inside.ensures.takes t (34 ∷ rest) (inside_run t name) refl (e ∙ append_assoc t (34 ∷ []) rest) in (
      c.in_ok-expect.ensures.takes rest read.0,
      record {
        table = c.in_ok-name.ensures.table ∙ ap (with_text c.args.symbols.now) read.1;
        later = λ later grows. subst (λ z. Names later c.in_ok-name.name.0 z) read.1 (Names-grows _ later _ _ c.in_ok-name.ensures.named grows);
      },
    )

pub returns-clause-known : goal.returns-clause-known
returns-clause-known c = λ later grows. known_name later _ _ (Names-grows _ later _ _ c.in_ok-name.ensures.named grows) c.in_ok-inside.ensures.name
