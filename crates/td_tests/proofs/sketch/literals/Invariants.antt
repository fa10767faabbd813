use Rattle.std.proofs.Common.{length}
use Rattle.gr_base.specs.Lists.{Each}
use Rattle.td_canon.specs.CanonicalTexts.{IsNamedLiteral}
use Rattle.td_desc.specs.Conditions.{SaysOf}
use Rattle.td_tests.proofs.sketch.literals.Given as goal

abbrev pub invariant-loop-word : goal.invariant-loop-word
invariant-loop-word l = record {
  below : Each (SaysOf 10) l.all;
  named : Each (IsNamedLiteral (length l.symbols)) l.all;
}
