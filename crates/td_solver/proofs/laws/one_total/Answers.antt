use Rattle.td_solver.proofs.Totals.{one_total}
use Rattle.td_solver.proofs.laws.one_total.Goals as goal

pub returns : goal.returns
returns c d n a b s t = one_total d n a b s t
