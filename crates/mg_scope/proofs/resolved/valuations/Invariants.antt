use Rattle.std.proofs.Common.{take}
use Rattle.gr_base.specs.Lists.{gathered}
use Rattle.mg_scope.specs.Classes.{valuation}
use Rattle.mg_scope.specs.Orders.{AreFirsts}
use Rattle.mg_scope.proofs.resolved.valuations.Given as goal

abbrev pub invariant-loop-item : goal.invariant-loop-item
invariant-loop-item l = AreFirsts l.met l.names.items (gathered valuation (take l.item-index l.items))
