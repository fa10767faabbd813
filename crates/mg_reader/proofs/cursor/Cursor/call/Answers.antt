use Rattle.std.proofs.Common.{rules, ◌≡◌, Err}
use Rattle.gr_grammar.specs.Grammars.{run_both}
use Rattle.mg_reader.proofs.Steps.{first_stops, then_stops}
use Rattle.mg_reader.proofs.cursor.Cursor.call.Goals as goal

pub returns-in_err-word : goal.returns-in_err-word
returns-in_err-word c = let e : c.from_residual.result ≡ Err c.in_err-word.field-0.0 = search rules in rw e ((first_stops c.in_err-word.ensures))

pub returns-in_err-_open : goal.returns-in_err-_open
returns-in_err-_open c = let e : c.from_residual-in_err-_open.result ≡ Err c.in_err-_open.field-0.0 = search rules in rw e ((then_stops c.in_ok-word.ensures.0 (first_stops c.in_err-_open.ensures)))

pub returns-in_err-_close : goal.returns-in_err-_close
returns-in_err-_close c = let e : c.from_residual-in_err-_close.result ≡ Err c.in_err-_close.field-0.0 = search rules in rw e ((then_stops c.in_ok-word.ensures.0 (then_stops c.in_ok-_open.ensures.0 c.in_err-_close.ensures)))

pub returns : goal.returns
returns c = ((run_both c.in_ok-word.ensures.0 (run_both c.in_ok-_open.ensures.0 c.in_ok-_close.ensures.0)), (λ i. (c.in_ok-word.ensures.1 i).name))
