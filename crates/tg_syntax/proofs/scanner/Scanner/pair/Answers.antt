use Rattle.std.proofs.Common.{rules, ◌≡◌, Err}
use Rattle.gr_grammar.specs.Grammars.{run_both, run_first}
use Rattle.tg_syntax.proofs.scanner.Scanner.pair.Goals as goal

pub returns-in_err-_attribute : goal.returns-in_err-_attribute
returns-in_err-_attribute c = let e : c.from_residual.result ≡ Err c.in_err-_attribute.field-0.0 = search rules in rw e (run_first c.in_err-_attribute.ensures)

pub returns-in_err-_equals : goal.returns-in_err-_equals
returns-in_err-_equals c = let e : c.from_residual-in_err-_equals.result ≡ Err c.in_err-_equals.field-0.0 = search rules in rw e (run_both c.in_ok-_attribute.ensures ((run_first c.in_err-_equals.ensures)))

pub returns-in_err-_value : goal.returns-in_err-_value
returns-in_err-_value c = let e : c.from_residual-in_err-_value.result ≡ Err c.in_err-_value.field-0.0 = search rules in rw e (run_both c.in_ok-_attribute.ensures (run_both c.in_ok-_equals.ensures c.in_err-_value.ensures))

pub returns : goal.returns
returns c = run_both c.in_ok-_attribute.ensures (run_both c.in_ok-_equals.ensures c.in_ok-_value.ensures)
