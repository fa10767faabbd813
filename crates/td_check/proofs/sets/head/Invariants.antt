use Rattle.td_check.proofs.Heads.{NoneSent}
use Rattle.td_check.proofs.sets.head.Given as goal

abbrev pub invariant-loop-node : goal.invariant-loop-node
invariant-loop-node l = NoneSent l.map l.to l.node
