use Rattle.td_solver.specs.Ties.{ArePlaced}
use Rattle.td_solver.proofs.ties.all_parents.Given as goal

abbrev pub invariant-loop-kid : goal.invariant-loop-kid
invariant-loop-kid l = ArePlaced l.relations l.kid l.all
