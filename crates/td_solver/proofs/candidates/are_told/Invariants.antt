use Rattle.td_forest.specs.Steps.{forest_of}
use Rattle.td_solver.specs.Candidates.{AreTold}
use Rattle.td_solver.proofs.candidates.are_told.Given as goal

abbrev pub invariant-loop-kid : goal.invariant-loop-kid
invariant-loop-kid l = AreTold l.task.d.now.relations l.node (forest_of l.forest) l.at l.kid
