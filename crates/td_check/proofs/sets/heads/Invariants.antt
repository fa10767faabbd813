use Rattle.td_check.proofs.Heads.{HaveHeads}
use Rattle.td_check.proofs.sets.heads.Given as goal

abbrev pub invariant-loop-to : goal.invariant-loop-to
invariant-loop-to l = HaveHeads l.map l.to l.heads
