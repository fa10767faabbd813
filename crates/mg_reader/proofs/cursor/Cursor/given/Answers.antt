use Rattle.std.proofs.Common.{rules, ◌≡◌, Err, Some, refl, sym, ◌∙◌}
use Rattle.gr_grammar.specs.Grammars.{run_both, run_left, run_right, take_nothing}
use Rattle.mg_reader.proofs.Steps.{first_stops, then_stops, left_stops}
use Rattle.mg_reader.proofs.cursor.Cursor.given.Goals as goal

pub returns-in_err-_equals : goal.returns-in_err-_equals
returns-in_err-_equals c = let e : c.from_residual.result ≡ Err c.in_err-_equals.field-0.0 = search rules in rw e (left_stops (sym c.sees.ensures ∙ c.if-sees.true) (first_stops c.in_err-_equals.ensures))

pub returns-in_err-name : goal.returns-in_err-name
returns-in_err-name c = let e : c.from_residual-in_err-name.result ≡ Err c.in_err-name.field-0.0 = search rules in rw e (left_stops (sym c.sees.ensures ∙ c.if-sees.true) (then_stops c.in_ok-_equals.ensures.0 c.in_err-name.ensures))

pub returns-in_ok-name : goal.returns-in_ok-name
returns-in_ok-name c = (run_left (sym c.sees.ensures ∙ c.if-sees.true) (run_both c.in_ok-_equals.ensures.0 c.in_ok-name.ensures.0), (λ i. Some (c.in_ok-name.ensures.1 i).name))

pub returns-else-sees : goal.returns-else-sees
returns-else-sees c = (run_right (sym c.sees.ensures ∙ c.if-sees.false) take_nothing, refl)
