use Rattle.std.proofs.Common.{rules, ◌≡◌, Err, refl, sym, ap, ◌∙◌}
use Rattle.gr_grammar.specs.Grammars.{run_left, run_right, take_nothing}
use Rattle.mg_reader.specs.Values.{descent_of}
use Rattle.mg_reader.proofs.Steps.{left_stops}
use Rattle.mg_reader.proofs.cursor.Cursor.down.Goals as goal

pub returns-in_err-dots : goal.returns-in_err-dots
returns-in_err-dots c = let e : c.from_residual.result ≡ Err c.in_err-dots.field-0.0 = search rules in rw e (left_stops (sym c.sees.ensures ∙ c.if-sees.true) c.in_err-dots.ensures)

pub returns-in_ok-dots : goal.returns-in_ok-dots
returns-in_ok-dots c = (run_left (sym c.sees.ensures ∙ c.if-sees.true) c.in_ok-dots.ensures.0, c.descent_of.ensures ∙ ap (λ z. descent_of z.kind) c.in_ok-dots.ensures.1)

pub returns-else-sees : goal.returns-else-sees
returns-else-sees c = (run_right (sym c.sees.ensures ∙ c.if-sees.false) take_nothing, refl)
