use Rattle.std.proofs.Common.{rules, ◌≡◌, Err}
use Rattle.gr_grammar.specs.Grammars.{run_both}
use Rattle.mg_reader.proofs.Steps.{first_stops, then_stops}
use Rattle.mg_reader.proofs.cursor.Cursor.pair.Goals as goal

pub returns-in_err-key : goal.returns-in_err-key
returns-in_err-key c = let e : c.from_residual.result ≡ Err c.in_err-key.field-0.0 = search rules in rw e ((first_stops c.in_err-key.ensures))

pub returns-in_err-_equals : goal.returns-in_err-_equals
returns-in_err-_equals c = let e : c.from_residual-in_err-_equals.result ≡ Err c.in_err-_equals.field-0.0 = search rules in rw e ((then_stops c.in_ok-key.ensures.0 (first_stops c.in_err-_equals.ensures)))

pub returns-in_err-value : goal.returns-in_err-value
returns-in_err-value c = let e : c.from_residual-in_err-value.result ≡ Err c.in_err-value.field-0.0 = search rules in rw e ((then_stops c.in_ok-key.ensures.0 (then_stops c.in_ok-_equals.ensures.0 c.in_err-value.ensures)))

pub returns : goal.returns
returns c = ((run_both c.in_ok-key.ensures.0 (run_both c.in_ok-_equals.ensures.0 c.in_ok-value.ensures.0)), (λ i. record { key = c.in_ok-key.ensures.1 i; value = c.in_ok-value.ensures.1 i }))
