use Rattle.td_solver.specs.Candidates.{IsPushed, IsInsertBelow}
use Rattle.td_solver.proofs.candidates.add_among.Given as goal

abbrev pub invariant-loop-from : goal.invariant-loop-from
invariant-loop-from l = IsPushed (IsInsertBelow l.under l.width l.from) l.fn.all.items l.all.items
