use Rattle.td_check.specs.Places.{nodes_of}
use Rattle.td_check.proofs.Lawfulness.{FirstGo}
use Rattle.td_check.proofs.sets.is_lawful.Given as goal

abbrev pub invariant-loop-node : goal.invariant-loop-node
invariant-loop-node l = FirstGo (nodes_of l.d.nodes) l.map l.to l.head l.node
