use Rattle.std.proofs.Common.{rules, ◌≡◌, Err}
use Rattle.gr_grammar.specs.Grammars.{run_both, run_first}
use Rattle.tg_syntax.proofs.scanner.Scanner.variable.Goals as goal

pub returns-in_err-_sign : goal.returns-in_err-_sign
returns-in_err-_sign c = let e : c.from_residual.result ≡ Err c.in_err-_sign.field-0.0 = search rules in rw e (run_first c.in_err-_sign.ensures)

pub returns-in_err-_number : goal.returns-in_err-_number
returns-in_err-_number c = let e : c.from_residual-in_err-_number.result ≡ Err c.in_err-_number.field-0.0 = search rules in rw e (run_both c.in_ok-_sign.ensures c.in_err-_number.ensures)

pub returns : goal.returns
returns c = run_both c.in_ok-_sign.ensures c.in_ok-_number.ensures
