use Rattle.gr_terms.specs.Views.{network_of}
use Rattle.lx_anchor.specs.Sharing.{counted_pairs}
use Rattle.lx_anchor.specs.Writings.{AreJointNodes}
use Rattle.lx_anchor.proofs.writing.joint_nodes.Given as goal

abbrev pub invariant-nodes : goal.invariant-nodes
invariant-nodes l = AreJointNodes (network_of l.store.accepted) l.tree.nodes l.anchor (counted_pairs l.first l.entry.anchor) l.number l.nodes.items
