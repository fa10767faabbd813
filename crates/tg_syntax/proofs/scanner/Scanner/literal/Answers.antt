use Rattle.std.proofs.Common.{rules, ◌≡◌, Err}
use Rattle.gr_grammar.specs.Grammars.{run_both, run_first}
use Rattle.tg_syntax.proofs.scanner.Scanner.literal.Goals as goal

pub returns-in_err-_handle : goal.returns-in_err-_handle
returns-in_err-_handle c = let e : c.from_residual.result ≡ Err c.in_err-_handle.field-0.0 = search rules in rw e (run_first c.in_err-_handle.ensures)

pub returns-in_err-_behind : goal.returns-in_err-_behind
returns-in_err-_behind c = let e : c.from_residual-in_err-_behind.result ≡ Err c.in_err-_behind.field-0.0 = search rules in rw e (run_both c.in_ok-_handle.ensures c.in_err-_behind.ensures)

pub returns : goal.returns
returns c = run_both c.in_ok-_handle.ensures c.in_ok-_behind.ensures
