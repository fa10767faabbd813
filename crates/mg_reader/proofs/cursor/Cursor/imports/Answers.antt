use Rattle.std.proofs.Common.{rules, ◌≡◌, Err, sym, ◌∙◌}
use Rattle.gr_grammar.specs.Grammars.{run_both, run_left, run_right, take_nothing}
use Rattle.mg_reader.proofs.Steps.{first_stops, then_stops, left_stops}
use Rattle.mg_reader.proofs.cursor.Cursor.imports.Goals as goal

pub returns-in_err-_import : goal.returns-in_err-_import
returns-in_err-_import c = let e : c.from_residual.result ≡ Err c.in_err-_import.field-0.0 = search rules in rw e (left_stops (sym c.sees.ensures ∙ c.if-sees.true) (first_stops c.in_err-_import.ensures))

pub returns-in_err-calls : goal.returns-in_err-calls
returns-in_err-calls c = let e : c.from_residual-in_err-calls.result ≡ Err c.in_err-calls.field-0.0 = search rules in rw e (left_stops (sym c.sees.ensures ∙ c.if-sees.true) (then_stops c.in_ok-_import.ensures.0 c.in_err-calls.ensures))

pub returns-in_ok-calls : goal.returns-in_ok-calls
returns-in_ok-calls c = (run_left (sym c.sees.ensures ∙ c.if-sees.true) (run_both c.in_ok-_import.ensures.0 c.in_ok-calls.ensures.0), c.in_ok-calls.ensures.1)

pub returns-else-sees : goal.returns-else-sees
returns-else-sees c = (run_right (sym c.sees.ensures ∙ c.if-sees.false) take_nothing, c.new.ensures)
