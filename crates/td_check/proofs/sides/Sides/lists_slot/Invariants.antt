use Rattle.std.proofs.Common.{◌+◌}
use Rattle.td_check.specs.Sides.{network_in}
use Rattle.td_check.specs.Places.{AtFirst, ListsAttribute}
use Rattle.td_check.proofs.sides.Sides.lists_slot.Given as goal

abbrev pub invariant-loop-place : goal.invariant-loop-place
invariant-loop-place l = AtFirst l.place l.self.d.now.network (λ k e. ListsAttribute (network_in l.self) (l.self.slots + l.slot.0) l.bag e)
