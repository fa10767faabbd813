use Rattle.std.proofs.Common.{IsTrue}
use Rattle.td_check.specs.Sides.{network_in, IsFitting, AreAlike}
use Rattle.td_check.specs.Places.{Passes}
use Rattle.td_check.proofs.Passing.{through}
use Rattle.td_check.proofs.sides.Sides.are_alike.Goals as goal

pub returns : goal.returns
returns c =
    let s = c.args.self.now in
    through (IsTrue c.fitting_all.result) (Passes (network_in s) (IsFitting s) s.d.now s.tree.now s.heads s.vars s.slots) (AreAlike s) c.fitting_all.ensures
    (λ h. record { nodes = c.lists_nodes.ensures.0 c.if-not-lists_nodes.false; interface = c.lists_slot.ensures.0 c.if-not-lists_slot.false; values = h }) (λ a. a.values)
