use Rattle.std.proofs.Common.{rules, ◌≡◌, Err, sym, ◌∙◌}
use Rattle.gr_grammar.specs.Grammars.{run_both, run_left, run_right}
use Rattle.mg_reader.specs.declared.found.After.TheVariants as after
use Rattle.mg_reader.proofs.Steps.{first_stops, then_stops, left_stops, right_stops}
use Rattle.mg_reader.proofs.cursor.Cursor.after.Goals as goal

pub returns-in_err-_dot : goal.returns-in_err-_dot
returns-in_err-_dot c = let e : c.from_residual.result ≡ Err c.in_err-_dot.field-0.0 = search rules in rw e (left_stops (sym c.sees.ensures ∙ c.if-sees.true) ((first_stops c.in_err-_dot.ensures)))

pub returns-in_err-name : goal.returns-in_err-name
returns-in_err-name c = let e : c.from_residual-in_err-name.result ≡ Err c.in_err-name.field-0.0 = search rules in rw e (left_stops (sym c.sees.ensures ∙ c.if-sees.true) ((then_stops c.in_ok-_dot.ensures.0 (first_stops c.in_err-name.ensures))))

pub returns-in_err-_equals : goal.returns-in_err-_equals
returns-in_err-_equals c = let e : c.from_residual-in_err-_equals.result ≡ Err c.in_err-_equals.field-0.0 = search rules in rw e (left_stops (sym c.sees.ensures ∙ c.if-sees.true) ((then_stops c.in_ok-_dot.ensures.0 (then_stops c.in_ok-name.ensures.0 (first_stops c.in_err-_equals.ensures)))))

pub returns-in_err-side : goal.returns-in_err-side
returns-in_err-side c = let e : c.from_residual-in_err-side.result ≡ Err c.in_err-side.field-0.0 = search rules in rw e (left_stops (sym c.sees.ensures ∙ c.if-sees.true) ((then_stops c.in_ok-_dot.ensures.0 (then_stops c.in_ok-name.ensures.0 (then_stops c.in_ok-_equals.ensures.0 c.in_err-side.ensures)))))

pub returns-in_ok-side : goal.returns-in_ok-side
returns-in_ok-side c = (run_left (sym c.sees.ensures ∙ c.if-sees.true) ((run_both c.in_ok-_dot.ensures.0 (run_both c.in_ok-name.ensures.0 (run_both c.in_ok-_equals.ensures.0 c.in_ok-side.ensures.0)))), (λ i. after.Dotted (c.in_ok-name.ensures.1 i).name (c.in_ok-side.ensures.1 i)))

pub returns-in_err-_is : goal.returns-in_err-_is
returns-in_err-_is c = let e : c.from_residual-in_err-_is.result ≡ Err c.in_err-_is.field-0.0 = search rules in rw e (right_stops (sym c.sees.ensures ∙ c.if-sees.false) ((first_stops c.in_err-_is.ensures)))

pub returns-in_err-right : goal.returns-in_err-right
returns-in_err-right c = let e : c.from_residual-in_err-right.result ≡ Err c.in_err-right.field-0.0 = search rules in rw e (right_stops (sym c.sees.ensures ∙ c.if-sees.false) ((then_stops c.in_ok-_is.ensures.0 c.in_err-right.ensures)))

pub returns-in_ok-right : goal.returns-in_ok-right
returns-in_ok-right c = (run_right (sym c.sees.ensures ∙ c.if-sees.false) ((run_both c.in_ok-_is.ensures.0 c.in_ok-right.ensures.0)), c.in_ok-right.ensures.1)
