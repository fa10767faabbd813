use Rattle.lx_anchor.proofs.CoanchorLemmas.{NoLeaf}
use Rattle.lx_anchor.proofs.coanchors.has_leaf.Given as goal

abbrev pub invariant-nodes : goal.invariant-nodes
invariant-nodes l = NoLeaf l.tree l.name.0 l.number
