use Rattle.std.proofs.Common.{◌≡◌, ◌+◌, IsTrue, ◌&&◌, length, arith}
use Rattle.gr_terms.specs.Views.{term_of}
use Rattle.td_check.specs.Sides.{network_in, IsFitting}
use Rattle.td_check.specs.Places.{PassesNodes, PassesBag, PassesLiteral, AtBoth, Passes}
use Rattle.td_check.proofs.Passing.{three_true, through}
use Rattle.td_check.proofs.sides.Sides.fitting_all.Goals as goal

pub returns : goal.returns
returns c =
    let N = network_in c.args.self.now in
    let d = c.args.self.now.d.now in
    let t = c.args.self.now.tree.now in
    let heads = c.args.self.now.heads in
    let vars = c.args.self.now.vars in
    let slots = c.args.self.now.slots in
    let A = PassesNodes N (IsFitting c.args.self.now) d t heads slots in
    let B = PassesBag N (IsFitting c.args.self.now) (slots + d.iface.0) t.iface in
    let C = AtBoth t.sem d.sem (PassesLiteral (IsFitting c.args.self.now) vars) in
    let nodes = c.fitting_nodes-nodes.result in
    let iface = c.fitting_bag-iface.result in
    let sem = c.fitting_literals-sem.result in
    let number : length t.sem ≡ length d.sem = omega (arith, c.len.ensures, c.len-2.ensures, c.if-len.false) in
    through (IsTrue (nodes && iface && sem)) (A × B × C) (Passes N (IsFitting c.args.self.now) d t heads vars slots)
    (three_true nodes iface sem A B C c.fitting_nodes-nodes.ensures c.fitting_bag-iface.ensures c.fitting_literals-sem.ensures)
    (λ h. record { nodes = h.0; interface = h.1; number = number; literals = h.2 }) (λ h. (h.nodes, h.interface, h.literals))
