use Rattle.std.proofs.Common.{◌<◌, ◌++◌, [], ◌∷◌, length, arith}
use Rattle.gr_terms.specs.Networks.{Agrees}
use Rattle.gr_terms.specs.Views.{assertion_of, network_of}
use Rattle.gr_store.proofs.Growth.{Grows-trans}
use Rattle.td_check.specs.Shifts.{moved}
use Rattle.td_check.proofs.Gaining.{room_left, gained_true, made_at, load_none, load_more, load_stop, load_all, yes_to, no_to, is_not}
use Rattle.td_check.proofs.load.load_network.Goals as goal

pub loop-place-init : goal.loop-place-init
loop-place-init c = load_none c.args.vars c.args.slots c.args.network.now c.args.store.now c.requires.agreed

pub assert_counted-requires-clause-few_vars : goal.assert_counted-requires-clause-few_vars
assert_counted-requires-clause-few_vars c = omega (arith, c.loop-place.invariant.gains.vars, c.requires.few_vars)

pub assert_counted-requires-clause-few_slots : goal.assert_counted-requires-clause-few_slots
assert_counted-requires-clause-few_slots c = omega (arith, c.loop-place.invariant.gains.slots, c.requires.few_slots)

pub assert_counted-requires-clause-made : goal.assert_counted-requires-clause-made
assert_counted-requires-clause-made c =
    made_at c.args.vars c.args.slots c.args.store.now.vars c.args.store.now.slots c.loop-place.store.vars c.loop-place.store.slots c.args.network.now c.at.result.now c.loop-place.place
    c.loop-place.invariant.gains.vars c.loop-place.invariant.gains.slots c.requires.made c.at.ensures

pub assert_counted-requires-clause-entry_room : goal.assert_counted-requires-clause-entry_room
assert_counted-requires-clause-entry_room c =
    let low : c.loop-place.place < length c.args.network.now = omega (arith, c.len-place-end.ensures, c.loop-place-test.true) in
    (room_left c.args.vars c.args.slots c.args.network.now c.args.store.now c.loop-place.store c.loop-place.place low c.loop-place.invariant.gains c.requires.entry_room c.requires.room).entries

pub assert_counted-requires-clause-room : goal.assert_counted-requires-clause-room
assert_counted-requires-clause-room c =
    let low : c.loop-place.place < length c.args.network.now = omega (arith, c.len-place-end.ensures, c.loop-place-test.true) in
    (room_left c.args.vars c.args.slots c.args.network.now c.args.store.now c.loop-place.store c.loop-place.place low c.loop-place.invariant.gains c.requires.entry_room c.requires.room).assertions

pub loop-place-preserved : goal.loop-place-preserved
loop-place-preserved c =
    load_more c.args.vars c.args.slots c.args.network.now c.args.store.now c.loop-place.store c.assert_counted.new.store c.loop-place.place c.at.result.now c.at.ensures c.loop-place.invariant
    (gained_true c.loop-place.store c.assert_counted.new.store (moved c.args.vars c.args.slots (assertion_of c.at.result.now ∷ [])) c.assert_counted.result c.if-not-assert_counted.false c.assert_counted.ensures.gains)
    (c.assert_counted.ensures.agrees.0 c.if-not-assert_counted.false)

pub returns-then-not-assert_counted-clause-agrees : goal.returns-then-not-assert_counted-clause-agrees
returns-then-not-assert_counted-clause-agrees c =
    no_to (Agrees (network_of c.args.store.now.accepted ++ moved c.args.vars c.args.slots (network_of c.args.network.now)))
    (load_stop c.args.vars c.args.slots c.args.network.now c.args.store.now c.loop-place.store c.loop-place.place c.at.result.now c.at.ensures c.loop-place.invariant
    (is_not c.assert_counted.result (Agrees (network_of c.loop-place.store.accepted ++ moved c.args.vars c.args.slots (assertion_of c.at.result.now ∷ []))) c.assert_counted.ensures.agrees c.if-not-assert_counted.true))

pub returns-then-not-assert_counted-clause-grows : goal.returns-then-not-assert_counted-clause-grows
returns-then-not-assert_counted-clause-grows c =
    Grows-trans c.args.store.now c.loop-place.store c.assert_counted.new.store c.loop-place.invariant.gains.grows c.assert_counted.ensures.grows

pub returns : goal.returns
returns c =
    let all = load_all c.args.vars c.args.slots c.args.network.now c.args.store.now c.loop-place.store c.loop-place.place (omega (arith, c.len-place-end.ensures, c.loop-place-test.false)) c.loop-place.invariant in
    record {
      agrees = yes_to (Agrees (network_of c.args.store.now.accepted ++ moved c.args.vars c.args.slots (network_of c.args.network.now))) all.agrees;
      gains = all.gains;
      grows = all.gains.grows;
    }
