use Rattle.std.proofs.Common.{take}
use Rattle.mg_scope.specs.Orders.{MeetsAll}
use Rattle.mg_scope.proofs.cycles.meet_all.Given as goal

abbrev pub invariant-loop-name : goal.invariant-loop-name
invariant-loop-name l = MeetsAll l.initial.steps l.steps (take l.name-index l.names) l.count l.initial.found.items l.found.items
