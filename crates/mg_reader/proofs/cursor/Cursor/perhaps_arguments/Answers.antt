use Rattle.std.proofs.Common.{rules, ◌≡◌, Err, sym, ◌∙◌}
use Rattle.gr_grammar.specs.Grammars.{run_left, run_right, take_nothing}
use Rattle.mg_reader.proofs.Steps.{left_stops}
use Rattle.mg_reader.proofs.cursor.Cursor.perhaps_arguments.Goals as goal

pub returns-in_err-arguments : goal.returns-in_err-arguments
returns-in_err-arguments c = let e : c.from_residual.result ≡ Err c.in_err-arguments.field-0.0 = search rules in rw e (left_stops (sym c.sees.ensures ∙ c.if-sees.true) c.in_err-arguments.ensures)

pub returns-in_ok-arguments : goal.returns-in_ok-arguments
returns-in_ok-arguments c = (run_left (sym c.sees.ensures ∙ c.if-sees.true) c.in_ok-arguments.ensures.0, c.in_ok-arguments.ensures.1)

pub returns-else-sees : goal.returns-else-sees
returns-else-sees c = (run_right (sym c.sees.ensures ∙ c.if-sees.false) take_nothing, c.new.ensures)
