use Rattle.std.proofs.Common.{rules, ◌≡◌, Err, sym, ◌∙◌}
use Rattle.gr_grammar.specs.Grammars.{run_left, run_right}
use Rattle.tg_syntax.proofs.scanner.Scanner.label.Goals as goal

pub returns-in_err-_none : goal.returns-in_err-_none
returns-in_err-_none c = let e : c.from_residual.result ≡ Err c.in_err-_none.field-0.0 = search rules in rw e (run_left (sym c.sees.ensures ∙ c.if-sees.true) c.in_err-_none.ensures)

pub returns-in_err-_category : goal.returns-in_err-_category
returns-in_err-_category c = let e : c.from_residual-in_err-_category.result ≡ Err c.in_err-_category.field-0.0 = search rules in rw e (run_right (sym c.sees.ensures ∙ c.if-sees.false) c.in_err-_category.ensures)

pub returns-in_ok-_none : goal.returns-in_ok-_none
returns-in_ok-_none c = run_left (sym c.sees.ensures ∙ c.if-sees.true) c.in_ok-_none.ensures

pub returns-in_ok-_category : goal.returns-in_ok-_category
returns-in_ok-_category c = run_right (sym c.sees.ensures ∙ c.if-sees.false) c.in_ok-_category.ensures
