use Rattle.std.proofs.Common.{rules, ◌≡◌, Err, sym, ◌∙◌}
use Rattle.gr_grammar.specs.Grammars.{take_nothing, run_left, run_right}
use Rattle.tg_syntax.proofs.scanner.Scanner.arguments.Goals as goal

pub returns-in_err-_terms : goal.returns-in_err-_terms
returns-in_err-_terms c = let e : c.from_residual.result ≡ Err c.in_err-_terms.field-0.0 = search rules in rw e (run_left (sym c.sees_term.ensures ∙ c.if-sees_term.true) c.in_err-_terms.ensures)

pub returns-in_ok-_terms : goal.returns-in_ok-_terms
returns-in_ok-_terms c = run_left (sym c.sees_term.ensures ∙ c.if-sees_term.true) c.in_ok-_terms.ensures

pub returns-else-sees_term : goal.returns-else-sees_term
returns-else-sees_term c = run_right (sym c.sees_term.ensures ∙ c.if-sees_term.false) take_nothing
