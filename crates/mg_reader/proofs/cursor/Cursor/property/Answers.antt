use Rattle.std.proofs.Common.{rules, ◌≡◌, Err, sym, ap, ◌∙◌}
use Rattle.gr_grammar.specs.Grammars.{run_both, run_left, run_right}
use Rattle.mg_reader.specs.Values.{paint_of}
use Rattle.mg_syntax.specs.declared.body.Side.TheVariants as side
use Rattle.mg_reader.specs.declared.found.Given.TheVariants as given
use Rattle.mg_reader.proofs.Steps.{first_stops, then_stops, left_stops, right_stops}
use Rattle.mg_reader.proofs.cursor.Cursor.property.Goals as goal

pub returns-in_err-color : goal.returns-in_err-color
returns-in_err-color c = let e : c.from_residual.result ≡ Err c.in_err-color.field-0.0 = search rules in rw e (left_stops (sym c.sees.ensures ∙ c.if-sees.true) ((first_stops c.in_err-color.ensures)))

pub returns-in_err-_equals : goal.returns-in_err-_equals
returns-in_err-_equals c = let e : c.from_residual-in_err-_equals.result ≡ Err c.in_err-_equals.field-0.0 = search rules in rw e (left_stops (sym c.sees.ensures ∙ c.if-sees.true) ((then_stops c.in_ok-color.ensures.0 (first_stops c.in_err-_equals.ensures))))

pub returns-in_err-paint : goal.returns-in_err-paint
returns-in_err-paint c = let e : c.from_residual-in_err-paint.result ≡ Err c.in_err-paint.field-0.0 = search rules in rw e (left_stops (sym c.sees.ensures ∙ c.if-sees.true) ((then_stops c.in_ok-color.ensures.0 (then_stops c.in_ok-_equals.ensures.0 c.in_err-paint.ensures))))

pub returns-in_ok-paint : goal.returns-in_ok-paint
returns-in_ok-paint c = (run_left (sym c.sees.ensures ∙ c.if-sees.true) ((run_both c.in_ok-color.ensures.0 (run_both c.in_ok-_equals.ensures.0 c.in_ok-paint.ensures.0))), (λ i. record { key = c.in_ok-color.ensures.1 i; given = given.Paint ((c.paint_of.ensures ∙ ap (λ z. paint_of z.kind) c.in_ok-paint.ensures.1) i) }))

pub returns-in_err-mark : goal.returns-in_err-mark
returns-in_err-mark c = let e : c.from_residual-in_err-mark.result ≡ Err c.in_err-mark.field-0.0 = search rules in rw e (right_stops (sym c.sees.ensures ∙ c.if-sees.false) (left_stops (sym c.sees-else-sees.ensures ∙ c.if-sees-2.true) ((first_stops c.in_err-mark.ensures))))

pub returns-in_err-_is : goal.returns-in_err-_is
returns-in_err-_is c = let e : c.from_residual-in_err-_is.result ≡ Err c.in_err-_is.field-0.0 = search rules in rw e (right_stops (sym c.sees.ensures ∙ c.if-sees.false) (left_stops (sym c.sees-else-sees.ensures ∙ c.if-sees-2.true) ((then_stops c.in_ok-mark.ensures.0 (first_stops c.in_err-_is.ensures)))))

pub returns-in_err-marker : goal.returns-in_err-marker
returns-in_err-marker c = let e : c.from_residual-in_err-marker.result ≡ Err c.in_err-marker.field-0.0 = search rules in rw e (right_stops (sym c.sees.ensures ∙ c.if-sees.false) (left_stops (sym c.sees-else-sees.ensures ∙ c.if-sees-2.true) ((then_stops c.in_ok-mark.ensures.0 (then_stops c.in_ok-_is.ensures.0 c.in_err-marker.ensures)))))

pub returns-in_ok-marker : goal.returns-in_ok-marker
returns-in_ok-marker c = (run_right (sym c.sees.ensures ∙ c.if-sees.false) (run_left (sym c.sees-else-sees.ensures ∙ c.if-sees-2.true) ((run_both c.in_ok-mark.ensures.0 (run_both c.in_ok-_is.ensures.0 c.in_ok-marker.ensures.0)))), (λ i. record { key = c.in_ok-mark.ensures.1 i; given = given.Value (side.Name (c.in_ok-marker.ensures.1 i).name) }))

pub returns-in_err-key : goal.returns-in_err-key
returns-in_err-key c = let e : c.from_residual-in_err-key.result ≡ Err c.in_err-key.field-0.0 = search rules in rw e (right_stops (sym c.sees.ensures ∙ c.if-sees.false) (right_stops (sym c.sees-else-sees.ensures ∙ c.if-sees-2.false) ((first_stops c.in_err-key.ensures))))

pub returns-in_err-_sign : goal.returns-in_err-_sign
returns-in_err-_sign c = let e : c.from_residual-in_err-_sign.result ≡ Err c.in_err-_sign.field-0.0 = search rules in rw e (right_stops (sym c.sees.ensures ∙ c.if-sees.false) (right_stops (sym c.sees-else-sees.ensures ∙ c.if-sees-2.false) ((then_stops c.in_ok-key.ensures.0 (first_stops c.in_err-_sign.ensures)))))

pub returns-in_err-value : goal.returns-in_err-value
returns-in_err-value c = let e : c.from_residual-in_err-value.result ≡ Err c.in_err-value.field-0.0 = search rules in rw e (right_stops (sym c.sees.ensures ∙ c.if-sees.false) (right_stops (sym c.sees-else-sees.ensures ∙ c.if-sees-2.false) ((then_stops c.in_ok-key.ensures.0 (then_stops c.in_ok-_sign.ensures.0 c.in_err-value.ensures)))))

pub returns-in_ok-value : goal.returns-in_ok-value
returns-in_ok-value c = (run_right (sym c.sees.ensures ∙ c.if-sees.false) (run_right (sym c.sees-else-sees.ensures ∙ c.if-sees-2.false) ((run_both c.in_ok-key.ensures.0 (run_both c.in_ok-_sign.ensures.0 c.in_ok-value.ensures.0)))), (λ i. record { key = c.in_ok-key.ensures.1 i; given = given.Value (c.in_ok-value.ensures.1 i) }))
