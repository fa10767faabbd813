use Rattle.std.proofs.Common.{length}
use Rattle.gr_base.specs.Lists.{Each}
use Rattle.td_canon.specs.CanonicalTexts.{IsNamedNode}
use Rattle.td_canon.proofs.TestLemmas.{IsFamily}
use Rattle.tg_tests.proofs.grammars.family.Given as goal

abbrev pub invariant-loop-leaf : goal.invariant-loop-leaf
invariant-loop-leaf l = record {
  family : IsFamily l.nodes;
  named : Each (IsNamedNode (length l.symbols)) l.nodes;
}
