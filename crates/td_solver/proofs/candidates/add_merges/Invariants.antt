use Rattle.td_desc.specs.Descriptions.{description_of}
use Rattle.td_forest.specs.Steps.{forest_of}
use Rattle.td_solver.specs.Candidates.{IsEnough, IsMergeBelow}
use Rattle.td_solver.proofs.candidates.add_merges.Given as goal

abbrev pub invariant-loop-at : goal.invariant-loop-at
invariant-loop-at l = IsEnough (description_of l.task.d.now) l.fn.node (forest_of l.forest) (IsMergeBelow (forest_of l.forest) l.at) l.fn.all.items l.all.items
