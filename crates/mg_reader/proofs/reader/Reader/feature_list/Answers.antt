use Rattle.std.proofs.Common.{rules, ◌≡◌, Err, refl, sym, ◌∙◌}
use Rattle.gr_grammar.specs.Grammars.{run_both, run_left, run_right, take_nothing}
use Rattle.mg_reader.proofs.Steps.{first_stops, then_stops, left_stops}
use Rattle.mg_reader.proofs.reader.Reader.feature_list.Goals as goal

pub returns-in_err-_open : goal.returns-in_err-_open
returns-in_err-_open c = let e : c.from_residual.result ≡ Err c.in_err-_open.field-0.0 = search rules in rw e (left_stops (sym c.sees.ensures ∙ c.if-sees.true) (first_stops c.in_err-_open.ensures))

pub returns-in_err-features : goal.returns-in_err-features
returns-in_err-features c = let e : c.from_residual-in_err-features.result ≡ Err c.in_err-features.field-0.0 = search rules in rw e (left_stops (sym c.sees.ensures ∙ c.if-sees.true) (then_stops c.in_ok-_open.ensures.0 (first_stops c.in_err-features.ensures)))

pub returns-in_err-_close : goal.returns-in_err-_close
returns-in_err-_close c = let e : c.from_residual-in_err-_close.result ≡ Err c.in_err-_close.field-0.0 = search rules in rw e (left_stops (sym c.sees.ensures ∙ c.if-sees.true) (then_stops c.in_ok-_open.ensures.0 (then_stops c.in_ok-features.ensures.0 c.in_err-_close.ensures)))

pub returns-in_ok-_close : goal.returns-in_ok-_close
returns-in_ok-_close c = (run_left (sym c.sees.ensures ∙ c.if-sees.true) (run_both c.in_ok-_open.ensures.0 (run_both c.in_ok-features.ensures.0 c.in_ok-_close.ensures.0)), c.in_ok-features.ensures.1, c.in_ok-features.ensures.2)

pub returns-else-sees : goal.returns-else-sees
returns-else-sees c = (run_right (sym c.sees.ensures ∙ c.if-sees.false) take_nothing, c.new.ensures, refl)
