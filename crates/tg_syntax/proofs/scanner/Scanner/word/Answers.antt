use Rattle.std.proofs.Common.{rules, ◌≡◌, Err}
use Rattle.gr_grammar.specs.Grammars.{run_both, run_first}
use Rattle.tg_syntax.proofs.scanner.Scanner.word.Goals as goal

pub returns-in_err-_first : goal.returns-in_err-_first
returns-in_err-_first c = let e : c.from_residual.result ≡ Err c.in_err-_first.field-0.0 = search rules in rw e (run_first c.in_err-_first.ensures)

pub returns-in_err-_rest : goal.returns-in_err-_rest
returns-in_err-_rest c = let e : c.from_residual-in_err-_rest.result ≡ Err c.in_err-_rest.field-0.0 = search rules in rw e (run_both c.in_ok-_first.ensures c.in_err-_rest.ensures)

pub returns : goal.returns
returns c = run_both c.in_ok-_first.ensures c.in_ok-_rest.ensures
