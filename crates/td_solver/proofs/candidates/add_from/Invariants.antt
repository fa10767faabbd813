use Rattle.td_solver.specs.Candidates.{IsPushed, IsInsertFrom}
use Rattle.td_solver.proofs.candidates.add_from.Given as goal

abbrev pub invariant-loop-to : goal.invariant-loop-to
invariant-loop-to l = IsPushed (IsInsertFrom l.under l.from l.to) l.fn.all.items l.all.items
