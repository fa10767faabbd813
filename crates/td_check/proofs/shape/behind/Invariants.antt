use Rattle.td_check.proofs.Ends.{AllFrom}
use Rattle.td_check.proofs.shape.behind.Given as goal

abbrev pub invariant-loop-end : goal.invariant-loop-end
invariant-loop-end l = AllFrom l.nodes l.fn.at l.end
