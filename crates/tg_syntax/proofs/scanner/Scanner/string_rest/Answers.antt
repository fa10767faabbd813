use Rattle.std.proofs.Common.{sym, ◌∙◌}
use Rattle.gr_grammar.specs.Grammars.{took}
use Rattle.tg_syntax.proofs.Steps.{string_on, string_full, string_ends}
use Rattle.tg_syntax.proofs.scanner.Scanner.string_rest.Goals as goal

pub string-preserved : goal.string-preserved
string-preserved c = λ e k. c.string.invariant e (string_on c.string.left c.string-test.true (sym c.sees.ensures ∙ c.if-not-sees.false) c.in_ok-_byte.ensures e k)

pub returns-then-not-sees : goal.returns-then-not-sees
returns-then-not-sees c = c.string.invariant (took c.string.self.rest.now) (string_ends c.string.left _ (sym c.sees.ensures ∙ c.if-not-sees.true))

pub returns : goal.returns
returns c = c.string.invariant (took c.string.self.rest.now) (string_full c.string.left _ c.string-test.false)
