use Rattle.std.proofs.Common.{refl}
use Rattle.td_solver.proofs.holds.directly.Goals as goal

pub returns-then-relates : goal.returns-then-relates
returns-then-relates c = ((λ t. (c.if-relates.ensures.0 refl, c.none_between.ensures.0 t)), (λ h. c.none_between.ensures.1 h.1))
