use Rattle.std.proofs.Common.{rules, ◌≡◌, Err}
use Rattle.gr_grammar.specs.Grammars.{run_both}
use Rattle.mg_reader.proofs.Steps.{first_stops, then_stops}
use Rattle.mg_reader.proofs.cursor.Cursor.sem.Goals as goal

pub returns-in_err-_word : goal.returns-in_err-_word
returns-in_err-_word c = let e : c.from_residual.result ≡ Err c.in_err-_word.field-0.0 = search rules in rw e ((first_stops c.in_err-_word.ensures))

pub returns-in_err-_greater : goal.returns-in_err-_greater
returns-in_err-_greater c = let e : c.from_residual-in_err-_greater.result ≡ Err c.in_err-_greater.field-0.0 = search rules in rw e ((then_stops c.in_ok-_word.ensures.0 (first_stops c.in_err-_greater.ensures)))

pub returns-in_err-_open : goal.returns-in_err-_open
returns-in_err-_open c = let e : c.from_residual-in_err-_open.result ≡ Err c.in_err-_open.field-0.0 = search rules in rw e ((then_stops c.in_ok-_word.ensures.0 (then_stops c.in_ok-_greater.ensures.0 (first_stops c.in_err-_open.ensures))))

pub returns-in_err-literals : goal.returns-in_err-literals
returns-in_err-literals c = let e : c.from_residual-in_err-literals.result ≡ Err c.in_err-literals.field-0.0 = search rules in rw e ((then_stops c.in_ok-_word.ensures.0 (then_stops c.in_ok-_greater.ensures.0 (then_stops c.in_ok-_open.ensures.0 (first_stops c.in_err-literals.ensures)))))

pub returns-in_err-_close : goal.returns-in_err-_close
returns-in_err-_close c = let e : c.from_residual-in_err-_close.result ≡ Err c.in_err-_close.field-0.0 = search rules in rw e ((then_stops c.in_ok-_word.ensures.0 (then_stops c.in_ok-_greater.ensures.0 (then_stops c.in_ok-_open.ensures.0 (then_stops c.in_ok-literals.ensures.0 c.in_err-_close.ensures)))))

pub returns : goal.returns
returns c = ((run_both c.in_ok-_word.ensures.0 (run_both c.in_ok-_greater.ensures.0 (run_both c.in_ok-_open.ensures.0 (run_both c.in_ok-literals.ensures.0 c.in_ok-_close.ensures.0)))), c.in_ok-literals.ensures.1)
