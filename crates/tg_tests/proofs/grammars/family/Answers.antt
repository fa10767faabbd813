use Rattle.td_canon.proofs.TestLemmas.{IsFamily-tree}
use Rattle.tg_tests.proofs.grammars.family.Goals as goal

pub returns-clause-nodes : goal.returns-clause-nodes
returns-clause-nodes c = IsFamily-tree c.loop-leaf.nodes c.loop-leaf.invariant.family
