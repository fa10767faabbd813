use Rattle.std.proofs.Common.{rules, ◌≡◌, Err}
use Rattle.gr_grammar.specs.Grammars.{run_both, run_first}
use Rattle.tg_syntax.proofs.scanner.Scanner.trees_rest.Goals as goal

pub returns-in_err-_word : goal.returns-in_err-_word
returns-in_err-_word c = let e : c.from_residual.result ≡ Err c.in_err-_word.field-0.0 = search rules in rw e (run_first c.in_err-_word.ensures)

pub returns-in_err-_count : goal.returns-in_err-_count
returns-in_err-_count c = let e : c.from_residual-in_err-_count.result ≡ Err c.in_err-_count.field-0.0 = search rules in rw e (run_both c.in_ok-_word.ensures ((run_first c.in_err-_count.ensures)))

pub returns-in_err-_end : goal.returns-in_err-_end
returns-in_err-_end c = let e : c.from_residual-in_err-_end.result ≡ Err c.in_err-_end.field-0.0 = search rules in rw e (run_both c.in_ok-_word.ensures (run_both c.in_ok-_count.ensures c.in_err-_end.ensures))

pub returns : goal.returns
returns c = run_both c.in_ok-_word.ensures (run_both c.in_ok-_count.ensures c.in_ok-_end.ensures)
