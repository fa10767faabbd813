use Rattle.std.proofs.Common.{rules, ◌≡◌, Err, sym, ◌∙◌}
use Rattle.gr_grammar.specs.Grammars.{run_both, run_left, run_right, take_nothing}
use Rattle.mg_reader.proofs.Steps.{first_stops, then_stops, left_stops}
use Rattle.mg_reader.proofs.cursor.Cursor.exports.Goals as goal

pub returns-in_err-_export : goal.returns-in_err-_export
returns-in_err-_export c = let e : c.from_residual.result ≡ Err c.in_err-_export.field-0.0 = search rules in rw e (left_stops (sym c.sees.ensures ∙ c.if-sees.true) (first_stops c.in_err-_export.ensures))

pub returns-in_err-variables : goal.returns-in_err-variables
returns-in_err-variables c = let e : c.from_residual-in_err-variables.result ≡ Err c.in_err-variables.field-0.0 = search rules in rw e (left_stops (sym c.sees.ensures ∙ c.if-sees.true) (then_stops c.in_ok-_export.ensures.0 c.in_err-variables.ensures))

pub returns-in_ok-variables : goal.returns-in_ok-variables
returns-in_ok-variables c = (run_left (sym c.sees.ensures ∙ c.if-sees.true) (run_both c.in_ok-_export.ensures.0 c.in_ok-variables.ensures.0), c.in_ok-variables.ensures.1)

pub returns-else-sees : goal.returns-else-sees
returns-else-sees c = (run_right (sym c.sees.ensures ∙ c.if-sees.false) take_nothing, c.new.ensures)
