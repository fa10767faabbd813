use Rattle.std.proofs.Common.{rules, ◌≡◌, Err, refl, sym, ◌∙◌}
use Rattle.gr_grammar.specs.Grammars.{run_left, run_right, take_nothing}
use Rattle.mg_reader.proofs.Steps.{left_stops}
use Rattle.mg_reader.proofs.reader.Reader.perhaps_features.Goals as goal

pub returns-in_err-features : goal.returns-in_err-features
returns-in_err-features c = let e : c.from_residual.result ≡ Err c.in_err-features.field-0.0 = search rules in rw e (left_stops (sym c.sees.ensures ∙ c.if-sees.true) c.in_err-features.ensures)

pub returns-in_ok-features : goal.returns-in_ok-features
returns-in_ok-features c = (run_left (sym c.sees.ensures ∙ c.if-sees.true) c.in_ok-features.ensures.0, c.in_ok-features.ensures.1, c.in_ok-features.ensures.2)

pub returns-else-sees : goal.returns-else-sees
returns-else-sees c = (run_right (sym c.sees.ensures ∙ c.if-sees.false) take_nothing, c.new.ensures, refl)
