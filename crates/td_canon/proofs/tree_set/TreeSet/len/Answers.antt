use Rattle.std.proofs.Common.{◌≡◌, ap, arith, length}
use Rattle.td_canon.specs.TreeOrders.{entries_by}
use Rattle.td_canon.proofs.SetLemmas.{length-entries}
use Rattle.td_canon.proofs.tree_set.TreeSet.len.Goals as goal

pub returns-clause-number : goal.returns-clause-number
returns-clause-number c =
    let as_many = length-entries c.self.inside.held.items c.self.inside.order.items c.self.invariant.within in
    let seen : length (entries_by c.self.inside.held.items c.self.inside.order.items) ≡ length c.args.self.now = ap length c.self.view_is in
    omega arith
