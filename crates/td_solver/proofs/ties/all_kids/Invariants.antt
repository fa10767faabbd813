use Rattle.td_solver.specs.Ties.{AreKidsTold}
use Rattle.td_solver.proofs.ties.all_kids.Given as goal

abbrev pub invariant-loop-node : goal.invariant-loop-node
invariant-loop-node l = AreKidsTold l.relations l.node l.all
