use Rattle.std.proofs.Common.{sym, ◌∙◌}
use Rattle.gr_grammar.specs.Grammars.{took}
use Rattle.tg_syntax.proofs.Steps.{digits_on, digits_full, digits_end}
use Rattle.tg_syntax.proofs.scanner.Scanner.digits.Goals as goal

pub digits-preserved : goal.digits-preserved
digits-preserved c = λ e k. c.digits.invariant e (digits_on c.digits.left c.digits-test.true (sym c.sees.ensures ∙ c.if-not-sees.false) c.in_ok-_digit.ensures e k)

pub returns-then-not-sees : goal.returns-then-not-sees
returns-then-not-sees c = c.digits.invariant (took c.digits.self.rest.now) (digits_end c.digits.left _ (sym c.sees.ensures ∙ c.if-not-sees.true))

pub returns : goal.returns
returns c = c.digits.invariant (took c.digits.self.rest.now) (digits_full c.digits.left _ c.digits-test.false)
