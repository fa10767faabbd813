use Rattle.std.proofs.Common.{◌≡◌}
use Rattle.td_solver.specs.Ties.{is_of, kept_for}
use Rattle.td_solver.proofs.ties.all_ties.Given as goal

abbrev pub invariant-loop-node : goal.invariant-loop-node
invariant-loop-node l = l.all ≡ kept_for is_of l.node l.relations
