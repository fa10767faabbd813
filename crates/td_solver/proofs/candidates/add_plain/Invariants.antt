use Rattle.td_solver.specs.Candidates.{IsPushed, IsPlainBelow}
use Rattle.td_solver.proofs.candidates.add_plain.Given as goal

abbrev pub invariant-loop-at : goal.invariant-loop-at
invariant-loop-at l = IsPushed (IsPlainBelow l.under l.at) l.fn.all.items l.all.items
