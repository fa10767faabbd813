use Rattle.std.proofs.Common.{rules, ◌≡◌, Err, sym, ◌∙◌}
use Rattle.gr_grammar.specs.Grammars.{run_both, run_first, run_left, run_right}
use Rattle.tg_syntax.proofs.scanner.Scanner.number.Goals as goal

pub returns-in_err-_first : goal.returns-in_err-_first
returns-in_err-_first c = let e : c.from_residual-in_err-_first.result ≡ Err c.in_err-_first.field-0.0 = search rules in rw e (run_right (sym c.sees.ensures ∙ c.if-sees.false) (run_first c.in_err-_first.ensures))

pub returns-in_err-_more : goal.returns-in_err-_more
returns-in_err-_more c = let e : c.from_residual-in_err-_more.result ≡ Err c.in_err-_more.field-0.0 = search rules in rw e (run_right (sym c.sees.ensures ∙ c.if-sees.false) (run_both c.in_ok-_first.ensures c.in_err-_more.ensures))

pub returns-in_err-_zero : goal.returns-in_err-_zero
returns-in_err-_zero c = let e : c.from_residual.result ≡ Err c.in_err-_zero.field-0.0 = search rules in rw e (run_left (sym c.sees.ensures ∙ c.if-sees.true) c.in_err-_zero.ensures)

pub returns-in_ok-_zero : goal.returns-in_ok-_zero
returns-in_ok-_zero c = run_left (sym c.sees.ensures ∙ c.if-sees.true) c.in_ok-_zero.ensures

pub returns-in_ok-_more : goal.returns-in_ok-_more
returns-in_ok-_more c = run_right (sym c.sees.ensures ∙ c.if-sees.false) (run_both c.in_ok-_first.ensures c.in_ok-_more.ensures)
