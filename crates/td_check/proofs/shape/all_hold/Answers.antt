use Rattle.std.proofs.Common.{length, subst, arith, get_or, Bool, true, false}
use Rattle.gr_base.proofs.ListLemmas.{Each-at, IsAmong-slice_get}
use Rattle.td_desc.specs.Conditions.{ArePlacesBelow}
use Rattle.td_check.specs.Places.{DecidesHolds}
use Rattle.td_check.proofs.Standing.{hold_none, hold_more, hold_all, hold_not}
use Rattle.td_check.proofs.shape.all_hold.Goals as goal

pub loop-place-init : goal.loop-place-init
loop-place-init c = hold_none c.args.d.now c.args.nodes.now c.args.map.now c.requires.onto

pub loop-place-preserved : goal.loop-place-preserved
loop-place-preserved c =
    let r = c.get-related.result.now in
    let low = Each-at (ArePlacesBelow (length c.args.d.now.nodes)) c.args.d.now.relations r c.requires.numbered.relations (IsAmong-slice_get c.args.d.now.relations c.loop-place.place r c.get-related.ensures) in
    hold_more c.args.d.now c.args.nodes.now c.args.map.now c.requires.onto c.loop-place.place r low.0 low.1 c.get-related.ensures c.loop-place.invariant
    (subst (λ (b : Bool). DecidesHolds c.args.nodes.now r.how (get_or c.args.map.now r.from 0) (get_or c.args.map.now r.to 0) b) c.if-not-holds.false c.holds.ensures)

pub returns-then-not-holds : goal.returns-then-not-holds
returns-then-not-holds c =
    let r = c.get-related.result.now in
    let low = Each-at (ArePlacesBelow (length c.args.d.now.nodes)) c.args.d.now.relations r c.requires.numbered.relations (IsAmong-slice_get c.args.d.now.relations c.loop-place.place r c.get-related.ensures) in
    hold_not c.args.d.now c.args.nodes.now c.args.map.now c.requires.onto c.loop-place.place r low.0 low.1 c.get-related.ensures
    (subst (λ (b : Bool). DecidesHolds c.args.nodes.now r.how (get_or c.args.map.now r.from 0) (get_or c.args.map.now r.to 0) b) c.if-not-holds.true c.holds.ensures)

pub returns : goal.returns
returns c = hold_all c.args.d.now c.args.nodes.now c.args.map.now c.requires.onto c.loop-place.place (omega (arith, c.len-place-end.ensures, c.loop-place-test.false)) c.loop-place.invariant
