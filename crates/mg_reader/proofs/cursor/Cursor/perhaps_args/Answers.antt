use Rattle.std.proofs.Common.{rules, ◌≡◌, Err, sym, ◌∙◌}
use Rattle.gr_grammar.specs.Grammars.{run_left, run_right, take_nothing}
use Rattle.mg_reader.proofs.Steps.{left_stops}
use Rattle.mg_reader.proofs.cursor.Cursor.perhaps_args.Goals as goal

pub returns-in_err-args : goal.returns-in_err-args
returns-in_err-args c = let e : c.from_residual.result ≡ Err c.in_err-args.field-0.0 = search rules in rw e (left_stops (sym c.sees.ensures ∙ c.if-sees.true) c.in_err-args.ensures)

pub returns-in_ok-args : goal.returns-in_ok-args
returns-in_ok-args c = (run_left (sym c.sees.ensures ∙ c.if-sees.true) c.in_ok-args.ensures.0, c.in_ok-args.ensures.1)

pub returns-else-sees : goal.returns-else-sees
returns-else-sees c = (run_right (sym c.sees.ensures ∙ c.if-sees.false) take_nothing, c.new.ensures)
