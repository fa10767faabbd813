use Rattle.td_forest.specs.Steps.{forest_of}
use Rattle.td_solver.specs.Ties.{NoneSo}
use Rattle.td_solver.proofs.holds.none_between.Given as goal

abbrev pub invariant-loop-z : goal.invariant-loop-z
invariant-loop-z l = NoneSo (forest_of l.forest) l.z l.a l.b l.how
