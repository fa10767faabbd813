use Rattle.std.proofs.Common.{take, []}
use Rattle.gr_base.specs.Lists.{gathered}
use Rattle.mg_scope.specs.Orders.{callers_of, MeetsAll}
use Rattle.mg_scope.proofs.cycles.next_level.Given as goal

abbrev pub invariant-loop-name : goal.invariant-loop-name
invariant-loop-name l = MeetsAll l.initial.steps l.steps (gathered (callers_of l.callers) (take l.name-index l.level)) l.count [] l.found.items
