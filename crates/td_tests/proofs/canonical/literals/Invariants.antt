use Rattle.std.proofs.Common.{length}
use Rattle.gr_base.specs.Lists.{Each}
use Rattle.td_canon.specs.CanonicalTexts.{IsNamedLiteral}
use Rattle.td_tests.proofs.canonical.literals.Given as goal

abbrev pub invariant-loop-one : goal.invariant-loop-one
invariant-loop-one l = Each (IsNamedLiteral (length l.symbols)) l.literals
