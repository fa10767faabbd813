use Rattle.std.proofs.Common.{◌+◌, arith}
use Rattle.td_check.specs.Sides.{network_in}
use Rattle.td_check.specs.Places.{ListsAttribute, ListsAll}
use Rattle.td_check.proofs.Passing.{first_none, first_more, first_all, lists_all, all_lists, yes_to, no_to, is_not}
use Rattle.td_check.proofs.sides.Sides.lists_slot.Goals as goal

pub loop-place-init : goal.loop-place-init
loop-place-init c = first_none c.args.self.now.d.now.network (λ k e. ListsAttribute (network_in c.args.self.now) (c.args.self.now.slots + c.args.slot.0) c.args.bag.now e)

pub loop-place-preserved : goal.loop-place-preserved
loop-place-preserved c =
    first_more c.args.self.now.d.now.network (λ k e. ListsAttribute (network_in c.args.self.now) (c.args.self.now.slots + c.args.slot.0) c.args.bag.now e) c.loop-place.place c.at.result.now
    c.loop-place.invariant c.at.ensures (c.lists_attribute.ensures.0 c.if-not-lists_attribute.false)

pub returns-then-not-lists_attribute : goal.returns-then-not-lists_attribute
returns-then-not-lists_attribute c =
    let s = c.args.self.now.slots + c.args.slot.0 in
    no_to (ListsAll (network_in c.args.self.now) s c.args.bag.now)
    (λ all. is_not c.lists_attribute.result (ListsAttribute (network_in c.args.self.now) s c.args.bag.now c.at.result.now) c.lists_attribute.ensures c.if-not-lists_attribute.true
    (all_lists (network_in c.args.self.now) s c.args.bag.now c.at.result.now all))

pub returns : goal.returns
returns c =
    let N = network_in c.args.self.now in
    let s = c.args.self.now.slots + c.args.slot.0 in
    yes_to (ListsAll N s c.args.bag.now)
    (lists_all N c.args.self.now.slots c.args.slot.0 c.args.bag.now c.args.self.now.d.now c.requires.set.attributes
    (first_all c.args.self.now.d.now.network (λ k e. ListsAttribute N s c.args.bag.now e) c.loop-place.place (omega (arith, c.len-place-end.ensures, c.loop-place-test.false)) c.loop-place.invariant))
