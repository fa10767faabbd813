use Rattle.std.proofs.Common.{rules, ◌≡◌, Err, Some, refl, sym, ◌∙◌}
use Rattle.gr_grammar.specs.Grammars.{run_both, run_left, run_right, take_nothing}
use Rattle.mg_reader.proofs.Steps.{first_stops, then_stops, left_stops}
use Rattle.mg_reader.proofs.cursor.Cursor.predicate.Goals as goal

pub returns-in_err-_colon : goal.returns-in_err-_colon
returns-in_err-_colon c = let e : c.from_residual.result ≡ Err c.in_err-_colon.field-0.0 = search rules in rw e (left_stops (sym c.sees.ensures ∙ c.if-sees.true) (first_stops c.in_err-_colon.ensures))

pub returns-in_err-side : goal.returns-in_err-side
returns-in_err-side c = let e : c.from_residual-in_err-side.result ≡ Err c.in_err-side.field-0.0 = search rules in rw e (left_stops (sym c.sees.ensures ∙ c.if-sees.true) (then_stops c.in_ok-_colon.ensures.0 c.in_err-side.ensures))

pub returns-in_ok-side : goal.returns-in_ok-side
returns-in_ok-side c = (run_left (sym c.sees.ensures ∙ c.if-sees.true) (run_both c.in_ok-_colon.ensures.0 c.in_ok-side.ensures.0), (λ i. Some (c.in_ok-side.ensures.1 i)))

pub returns-else-sees : goal.returns-else-sees
returns-else-sees c = (run_right (sym c.sees.ensures ∙ c.if-sees.false) take_nothing, refl)
