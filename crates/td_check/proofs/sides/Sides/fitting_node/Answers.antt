use Rattle.std.proofs.Common.{◌+◌, IsTrue, Bool, ◌&&◌}
use Rattle.gr_terms.specs.Views.{term_of}
use Rattle.td_check.specs.Sides.{network_in, IsFitting}
use Rattle.td_check.specs.Places.{PassesBag, PassesNode}
use Rattle.td_check.proofs.Passing.{three_true, through}
use Rattle.td_check.proofs.sides.Sides.fitting_node.Goals as goal

pub returns : goal.returns
returns c =
    let N = network_in c.args.self.now in
    let n = c.args.node.now in
    let m = c.args.described.now in
    let first = c.args.self.now.slots in
    let A = PassesBag N (IsFitting c.args.self.now) (first + m.own.0) n.own in
    let B = PassesBag N (IsFitting c.args.self.now) (first + m.top.0) n.top in
    let C = PassesBag N (IsFitting c.args.self.now) (first + m.bot.0) n.bot in
    let own = c.fitting_bag-own.result in
    let top = c.fitting_bag-top.result in
    let bot = c.fitting_bag-bot.result in
    through (IsTrue (own && top && bot)) (A × B × C) (PassesNode N (IsFitting c.args.self.now) first n m)
    (three_true own top bot A B C c.fitting_bag-own.ensures c.fitting_bag-top.ensures c.fitting_bag-bot.ensures)
    (λ h. record { own = h.0; top = h.1; bot = h.2 }) (λ h. (h.own, h.top, h.bot))
