use Rattle.std.proofs.Common.{◌+◌, IsTrue, ◌&&◌}
use Rattle.td_check.specs.Sides.{network_in}
use Rattle.td_check.specs.Places.{ListsAll, ListsNode}
use Rattle.td_check.proofs.Passing.{three_true, through}
use Rattle.td_check.proofs.sides.Sides.lists_node.Goals as goal

pub returns : goal.returns
returns c =
    let N = network_in c.args.self.now in
    let n = c.args.node.now in
    let m = c.args.described.now in
    let first = c.args.self.now.slots in
    let A = ListsAll N (first + m.own.0) n.own in
    let B = ListsAll N (first + m.top.0) n.top in
    let C = ListsAll N (first + m.bot.0) n.bot in
    let own = c.lists_slot-own.result in
    let top = c.lists_slot-top.result in
    let bot = c.lists_slot-bot.result in
    through (IsTrue (own && top && bot)) (A × B × C) (ListsNode N first n m)
    (three_true own top bot A B C c.lists_slot-own.ensures c.lists_slot-top.ensures c.lists_slot-bot.ensures)
    (λ h. record { own = h.0; top = h.1; bot = h.2 }) (λ h. (h.own, h.top, h.bot))
