use Rattle.std.proofs.Common.{◌≡◌, ◌<◌, ap, arith, get_or, length, slice_get, Some, subst}
use Rattle.td_canon.specs.TreeSets.{IsTreeSet}
use Rattle.td_canon.specs.TreeOrders.{entries_by, entry_of}
use Rattle.td_canon.proofs.SetLemmas.{entry_at, length-entries, place_at}
use Rattle.td_canon.proofs.tree_set.TreeSet.at.Goals as goal

pub index-requires : goal.index-requires
index-requires c =
    let as_many = length-entries c.self.inside.held.items c.self.inside.order.items c.self.invariant.within in
    let seen : length (entries_by c.self.inside.held.items c.self.inside.order.items) ≡ length c.args.self.now = ap length c.self.view_is in
    omega arith

pub index-requires-2 : goal.index-requires-2
index-requires-2 c =
    let as_many = length-entries c.self.inside.held.items c.self.inside.order.items c.self.invariant.within in
    let seen : length (entries_by c.self.inside.held.items c.self.inside.order.items) ≡ length c.args.self.now = ap length c.self.view_is in
    let there : c.args.place < length c.self.inside.order.items = omega arith in
    let place : get_or c.self.inside.order.items c.args.place c.index.result.now < length c.self.inside.held.items = place_at c.self.inside.held.items c.self.inside.order.items c.args.place c.index.result.now c.self.invariant.within there in
    omega (arith, c.index.ensures)

pub returns-clause-held : goal.returns-clause-held
returns-clause-held c =
    let as_many = length-entries c.self.inside.held.items c.self.inside.order.items c.self.invariant.within in
    let seen : length (entries_by c.self.inside.held.items c.self.inside.order.items) ≡ length c.args.self.now = ap length c.self.view_is in
    let there : c.args.place < length c.self.inside.order.items = omega arith in
    let place : get_or c.self.inside.order.items c.args.place c.index.result.now < length c.self.inside.held.items = place_at c.self.inside.held.items c.self.inside.order.items c.args.place c.index.result.now c.self.invariant.within there in
    subst (λ s. slice_get s c.args.place ≡ Some (entry_of c.index-2.result.now)) c.self.view_is
    (entry_at c.self.inside.held.items c.self.inside.order.items c.args.place c.index.result.now c.index.result.now c.index-2.result.now c.index-2.result.now c.self.invariant.within there c.index.ensures
    (omega (arith, c.index.ensures)) c.index-2.ensures)

pub returns-clause-set : goal.returns-clause-set
returns-clause-set c = subst IsTreeSet c.self.view_is c.self.invariant.set
