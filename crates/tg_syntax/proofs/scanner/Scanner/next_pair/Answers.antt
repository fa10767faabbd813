use Rattle.std.proofs.Common.{rules, ◌≡◌, Err}
use Rattle.gr_grammar.specs.Grammars.{run_both, run_first}
use Rattle.tg_syntax.proofs.scanner.Scanner.next_pair.Goals as goal

pub returns-in_err-_comma : goal.returns-in_err-_comma
returns-in_err-_comma c = let e : c.from_residual.result ≡ Err c.in_err-_comma.field-0.0 = search rules in rw e (run_first c.in_err-_comma.ensures)

pub returns-in_err-_pair : goal.returns-in_err-_pair
returns-in_err-_pair c = let e : c.from_residual-in_err-_pair.result ≡ Err c.in_err-_pair.field-0.0 = search rules in rw e (run_both c.in_ok-_comma.ensures c.in_err-_pair.ensures)

pub returns : goal.returns
returns c = run_both c.in_ok-_comma.ensures c.in_ok-_pair.ensures
