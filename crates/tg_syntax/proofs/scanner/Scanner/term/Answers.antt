use Rattle.std.proofs.Common.{rules, ◌≡◌, Err, sym, ◌∙◌}
use Rattle.gr_grammar.specs.Grammars.{run_left, run_right}
use Rattle.tg_syntax.proofs.scanner.Scanner.term.Goals as goal

pub returns-in_err-_word : goal.returns-in_err-_word
returns-in_err-_word c = let e : c.from_residual.result ≡ Err c.in_err-_word.field-0.0 = search rules in rw e (run_left (sym c.sees.ensures ∙ c.if-sees.true) c.in_err-_word.ensures)

pub returns-in_err-_string : goal.returns-in_err-_string
returns-in_err-_string c = let e : c.from_residual-in_err-_string.result ≡ Err c.in_err-_string.field-0.0 = search rules in rw e (run_right (sym c.sees.ensures ∙ c.if-sees.false) (run_left (sym c.sees-else-sees.ensures ∙ c.if-sees-2.true) c.in_err-_string.ensures))

pub returns-in_err-_variable : goal.returns-in_err-_variable
returns-in_err-_variable c = let e : c.from_residual-in_err-_variable.result ≡ Err c.in_err-_variable.field-0.0 = search rules in rw e (run_right (sym c.sees.ensures ∙ c.if-sees.false) (run_right (sym c.sees-else-sees.ensures ∙ c.if-sees-2.false) c.in_err-_variable.ensures))

pub returns-in_ok-_word : goal.returns-in_ok-_word
returns-in_ok-_word c = run_left (sym c.sees.ensures ∙ c.if-sees.true) c.in_ok-_word.ensures

pub returns-in_ok-_string : goal.returns-in_ok-_string
returns-in_ok-_string c = run_right (sym c.sees.ensures ∙ c.if-sees.false) (run_left (sym c.sees-else-sees.ensures ∙ c.if-sees-2.true) c.in_ok-_string.ensures)

pub returns-in_ok-_variable : goal.returns-in_ok-_variable
returns-in_ok-_variable c = run_right (sym c.sees.ensures ∙ c.if-sees.false) (run_right (sym c.sees-else-sees.ensures ∙ c.if-sees-2.false) c.in_ok-_variable.ensures)
