use Rattle.std.proofs.Common.{length}
use Rattle.gr_base.specs.Lists.{Each}
use Rattle.td_canon.specs.CanonicalTexts.{IsNamedTerm}
use Rattle.td_tests.proofs.canonical.terms.Given as goal

abbrev pub invariant-loop-text : goal.invariant-loop-text
invariant-loop-text l = Each (IsNamedTerm (length l.symbols)) l.terms
