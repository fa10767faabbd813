use Rattle.td_check.specs.Places.{nodes_of}
use Rattle.td_check.proofs.Gaining.{HasGained}
use Rattle.td_check.proofs.Sharing.{set_moved}
use Rattle.td_check.proofs.load.link_set.Given as goal

abbrev pub invariant-loop-node : goal.invariant-loop-node
invariant-loop-node l = HasGained l.fn.store l.store (set_moved l.slots (nodes_of l.nodes) l.map l.to l.head l.node)
