use Rattle.std.proofs.Common.{take}
use Rattle.mg_scope.specs.Orders.{AddsToEach}
use Rattle.mg_scope.proofs.callers.Callers.add_to_each.Given as goal

abbrev pub invariant-loop-name : goal.invariant-loop-name
invariant-loop-name l = AddsToEach l.initial.self l.self (take l.name-index l.names) l.caller
