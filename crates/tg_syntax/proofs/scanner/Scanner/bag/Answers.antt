use Rattle.std.proofs.Common.{rules, ◌≡◌, Err}
use Rattle.gr_grammar.specs.Grammars.{run_both, run_first}
use Rattle.tg_syntax.proofs.scanner.Scanner.bag.Goals as goal

pub returns-in_err-_opening : goal.returns-in_err-_opening
returns-in_err-_opening c = let e : c.from_residual.result ≡ Err c.in_err-_opening.field-0.0 = search rules in rw e (run_first c.in_err-_opening.ensures)

pub returns-in_err-_pairs : goal.returns-in_err-_pairs
returns-in_err-_pairs c = let e : c.from_residual-in_err-_pairs.result ≡ Err c.in_err-_pairs.field-0.0 = search rules in rw e (run_both c.in_ok-_opening.ensures ((run_first c.in_err-_pairs.ensures)))

pub returns-in_err-_closing : goal.returns-in_err-_closing
returns-in_err-_closing c = let e : c.from_residual-in_err-_closing.result ≡ Err c.in_err-_closing.field-0.0 = search rules in rw e (run_both c.in_ok-_opening.ensures (run_both c.in_ok-_pairs.ensures c.in_err-_closing.ensures))

pub returns : goal.returns
returns c = run_both c.in_ok-_opening.ensures (run_both c.in_ok-_pairs.ensures c.in_ok-_closing.ensures)
