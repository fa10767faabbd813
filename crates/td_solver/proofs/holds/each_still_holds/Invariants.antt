use Rattle.std.proofs.Common.{ℕ, ◌<◌, get_or}
use Rattle.td_forest.specs.Steps.{forest_of}
use Rattle.td_solver.specs.Ties.{HoldsOf, no_relation}
use Rattle.td_solver.proofs.holds.each_still_holds.Given as goal

abbrev pub invariant-loop-related : goal.invariant-loop-related
invariant-loop-related l = (j : ℕ) → j < l.related-index → HoldsOf (forest_of l.forest) (get_or l.relations j no_relation)
