use Rattle.std.proofs.Common.{take}
use Rattle.mg_scope.specs.Orders.{IsBest}
use Rattle.mg_scope.proofs.cycles.nearest.Given as goal

abbrev pub invariant-loop-name : goal.invariant-loop-name
invariant-loop-name l = IsBest l.steps (take l.name-index l.names) l.best
