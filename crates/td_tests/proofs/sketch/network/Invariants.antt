use Rattle.std.proofs.Common.{length}
use Rattle.gr_base.specs.Lists.{Each}
use Rattle.td_desc.specs.Conditions.{Mentions}
use Rattle.td_model.specs.ModelTrees.{IsNamedAssertion}
use Rattle.td_tests.proofs.sketch.network.Given as goal

abbrev pub invariant-loop-word : goal.invariant-loop-word
invariant-loop-word l = record {
  below : Each (Mentions 10 73) l.all;
  named : Each (IsNamedAssertion (length l.symbols)) l.all;
}
