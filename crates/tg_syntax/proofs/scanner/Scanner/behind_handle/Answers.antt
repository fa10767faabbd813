use Rattle.std.proofs.Common.{rules, ◌≡◌, Err}
use Rattle.gr_grammar.specs.Grammars.{run_both, run_first}
use Rattle.tg_syntax.proofs.scanner.Scanner.behind_handle.Goals as goal

pub returns-in_err-_colon : goal.returns-in_err-_colon
returns-in_err-_colon c = let e : c.from_residual.result ≡ Err c.in_err-_colon.field-0.0 = search rules in rw e (run_first c.in_err-_colon.ensures)

pub returns-in_err-_predicate : goal.returns-in_err-_predicate
returns-in_err-_predicate c = let e : c.from_residual-in_err-_predicate.result ≡ Err c.in_err-_predicate.field-0.0 = search rules in rw e (run_both c.in_ok-_colon.ensures ((run_first c.in_err-_predicate.ensures)))

pub returns-in_err-_opening : goal.returns-in_err-_opening
returns-in_err-_opening c = let e : c.from_residual-in_err-_opening.result ≡ Err c.in_err-_opening.field-0.0 = search rules in rw e (run_both c.in_ok-_colon.ensures (run_both c.in_ok-_predicate.ensures ((run_first c.in_err-_opening.ensures))))

pub returns-in_err-_arguments : goal.returns-in_err-_arguments
returns-in_err-_arguments c = let e : c.from_residual-in_err-_arguments.result ≡ Err c.in_err-_arguments.field-0.0 = search rules in rw e (run_both c.in_ok-_colon.ensures (run_both c.in_ok-_predicate.ensures (run_both c.in_ok-_opening.ensures ((run_first c.in_err-_arguments.ensures)))))

pub returns-in_err-_closing : goal.returns-in_err-_closing
returns-in_err-_closing c = let e : c.from_residual-in_err-_closing.result ≡ Err c.in_err-_closing.field-0.0 = search rules in rw e (run_both c.in_ok-_colon.ensures (run_both c.in_ok-_predicate.ensures (run_both c.in_ok-_opening.ensures (run_both c.in_ok-_arguments.ensures c.in_err-_closing.ensures))))

pub returns : goal.returns
returns c = run_both c.in_ok-_colon.ensures (run_both c.in_ok-_predicate.ensures (run_both c.in_ok-_opening.ensures (run_both c.in_ok-_arguments.ensures c.in_ok-_closing.ensures)))
