use Rattle.std.proofs.Common.{length}
use Rattle.gr_base.specs.Lists.{Each}
use Rattle.td_canon.specs.CanonicalTexts.{IsNamedTerm}
use Rattle.td_desc.specs.Conditions.{IsTermBelow}
use Rattle.td_tests.proofs.sketch.terms.Given as goal

abbrev pub invariant-loop-word : goal.invariant-loop-word
invariant-loop-word l = record {
  below : Each (IsTermBelow 10) l.all;
  named : Each (IsNamedTerm (length l.symbols)) l.all;
}
