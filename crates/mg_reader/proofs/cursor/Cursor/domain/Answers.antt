use Rattle.std.proofs.Common.{rules, ◌≡◌, Err, Some, refl, sym, ◌∙◌}
use Rattle.gr_grammar.specs.Grammars.{run_both, run_left, run_right}
use Rattle.mg_reader.proofs.Steps.{first_stops, then_stops, left_stops, right_stops}
use Rattle.mg_reader.proofs.cursor.Cursor.domain.Goals as goal

pub returns-in_err-_bang : goal.returns-in_err-_bang
returns-in_err-_bang c = let e : c.from_residual.result ≡ Err c.in_err-_bang.field-0.0 = search rules in rw e (left_stops (sym c.sees.ensures ∙ c.if-sees.true) (c.in_err-_bang.ensures))

pub returns-in_ok-_bang : goal.returns-in_ok-_bang
returns-in_ok-_bang c = (run_left (sym c.sees.ensures ∙ c.if-sees.true) (c.in_ok-_bang.ensures.0), refl)

pub returns-in_err-_equals : goal.returns-in_err-_equals
returns-in_err-_equals c = let e : c.from_residual-in_err-_equals.result ≡ Err c.in_err-_equals.field-0.0 = search rules in rw e (right_stops (sym c.sees.ensures ∙ c.if-sees.false) ((first_stops c.in_err-_equals.ensures)))

pub returns-in_err-_open : goal.returns-in_err-_open
returns-in_err-_open c = let e : c.from_residual-in_err-_open.result ≡ Err c.in_err-_open.field-0.0 = search rules in rw e (right_stops (sym c.sees.ensures ∙ c.if-sees.false) ((then_stops c.in_ok-_equals.ensures.0 (first_stops c.in_err-_open.ensures))))

pub returns-in_err-names : goal.returns-in_err-names
returns-in_err-names c = let e : c.from_residual-in_err-names.result ≡ Err c.in_err-names.field-0.0 = search rules in rw e (right_stops (sym c.sees.ensures ∙ c.if-sees.false) ((then_stops c.in_ok-_equals.ensures.0 (then_stops c.in_ok-_open.ensures.0 (first_stops c.in_err-names.ensures)))))

pub returns-in_err-_close : goal.returns-in_err-_close
returns-in_err-_close c = let e : c.from_residual-in_err-_close.result ≡ Err c.in_err-_close.field-0.0 = search rules in rw e (right_stops (sym c.sees.ensures ∙ c.if-sees.false) ((then_stops c.in_ok-_equals.ensures.0 (then_stops c.in_ok-_open.ensures.0 (then_stops c.in_ok-names.ensures.0 c.in_err-_close.ensures)))))

pub returns-in_ok-_close : goal.returns-in_ok-_close
returns-in_ok-_close c = (run_right (sym c.sees.ensures ∙ c.if-sees.false) ((run_both c.in_ok-_equals.ensures.0 (run_both c.in_ok-_open.ensures.0 (run_both c.in_ok-names.ensures.0 c.in_ok-_close.ensures.0)))), (λ i. Some (c.in_ok-names.ensures.1 i)))
