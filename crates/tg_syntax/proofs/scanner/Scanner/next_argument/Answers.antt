use Rattle.std.proofs.Common.{rules, ◌≡◌, Err}
use Rattle.gr_grammar.specs.Grammars.{run_both, run_first}
use Rattle.tg_syntax.proofs.scanner.Scanner.next_argument.Goals as goal

pub returns-in_err-_space : goal.returns-in_err-_space
returns-in_err-_space c = let e : c.from_residual.result ≡ Err c.in_err-_space.field-0.0 = search rules in rw e (run_first c.in_err-_space.ensures)

pub returns-in_err-_argument : goal.returns-in_err-_argument
returns-in_err-_argument c = let e : c.from_residual-in_err-_argument.result ≡ Err c.in_err-_argument.field-0.0 = search rules in rw e (run_both c.in_ok-_space.ensures c.in_err-_argument.ensures)

pub returns : goal.returns
returns c = run_both c.in_ok-_space.ensures c.in_ok-_argument.ensures
