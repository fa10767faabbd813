use Rattle.std.proofs.Common.{◌++◌, length, arith}
use Rattle.gr_base.specs.Lists.{gathered}
use Rattle.gr_terms.specs.Networks.{Agrees}
use Rattle.gr_terms.specs.Views.{network_of}
use Rattle.gr_store.proofs.Growth.{Grows-trans}
use Rattle.td_colour.specs.Models.{set_links}
use Rattle.td_check.specs.Shifts.{moved}
use Rattle.td_check.specs.Places.{nodes_of, set_list}
use Rattle.td_check.proofs.Gaining.{gained_none, gained_agrees, gained_true, yes_to, no_to, is_not}
use Rattle.td_check.proofs.Sharing.{sets_moved, this_moved, sets_next, sets_stop, sets_room, sets_upto, slots_still}
use Rattle.td_check.proofs.load.link_sets.Goals as goal

pub loop-to-init : goal.loop-to-init
loop-to-init c = gained_none c.args.store.now c.requires.agreed

pub link_set-requires-clause-few_slots : goal.link_set-requires-clause-few_slots
link_set-requires-clause-few_slots c = omega (arith, c.loop-to.invariant.gains.slots, c.requires.few_slots)

pub link_set-requires-clause-made : goal.link_set-requires-clause-made
link_set-requires-clause-made c = slots_still c.args.slots c.args.store.now.slots c.loop-to.store.slots c.args.nodes.now c.loop-to.invariant.gains.slots c.requires.made

pub link_set-requires-clause-first : goal.link_set-requires-clause-first
link_set-requires-clause-first c = c.requires.heads c.loop-to.to c.loop-to-test.true

pub link_set-requires-clause-agreed : goal.link_set-requires-clause-agreed
link_set-requires-clause-agreed c = gained_agrees c.args.store.now c.loop-to.store (sets_moved c.args.slots (nodes_of c.args.nodes.now) c.args.map.now c.loop-to.to) c.loop-to.invariant

pub link_set-requires-clause-room : goal.link_set-requires-clause-room
link_set-requires-clause-room c =
    sets_room c.args.slots (nodes_of c.args.nodes.now) c.args.map.now c.args.store.now c.loop-to.store c.loop-to.to c.loop-to.invariant.gains (omega (arith, c.requires.number, c.requires.room))

pub loop-to-preserved : goal.loop-to-preserved
loop-to-preserved c =
    let nodes = nodes_of c.args.nodes.now in
    sets_next c.args.slots nodes c.args.map.now c.args.store.now c.loop-to.store c.link_set.new.store c.loop-to.to c.loop-to.invariant
    (gained_true c.loop-to.store c.link_set.new.store (this_moved c.args.slots nodes c.args.map.now c.loop-to.to) c.link_set.result c.if-not-link_set.false c.link_set.ensures.gains)
    (c.link_set.ensures.agrees.0 c.if-not-link_set.false)

pub returns-then-not-link_set-clause-agrees : goal.returns-then-not-link_set-clause-agrees
returns-then-not-link_set-clause-agrees c =
    let nodes = nodes_of c.args.nodes.now in
    no_to (Agrees (network_of c.args.store.now.accepted ++ sets_moved c.args.slots nodes c.args.map.now c.args.count))
    (sets_stop c.args.slots nodes c.args.map.now c.args.store.now c.loop-to.store c.loop-to.to c.args.count c.loop-to-test.true c.loop-to.invariant
    (is_not c.link_set.result (Agrees (network_of c.loop-to.store.accepted ++ this_moved c.args.slots nodes c.args.map.now c.loop-to.to)) c.link_set.ensures.agrees c.if-not-link_set.true))

pub returns-then-not-link_set-clause-grows : goal.returns-then-not-link_set-clause-grows
returns-then-not-link_set-clause-grows c = Grows-trans c.args.store.now c.loop-to.store c.link_set.new.store c.loop-to.invariant.gains.grows c.link_set.ensures.grows

pub returns : goal.returns
returns c =
    let nodes = nodes_of c.args.nodes.now in
    let all = sets_upto c.args.slots nodes c.args.map.now c.args.store.now c.loop-to.store c.loop-to.to c.args.count (omega (arith, c.loop-to.auto, c.loop-to-test.false)) c.loop-to.invariant in
    record {
      agrees = yes_to (Agrees (network_of c.args.store.now.accepted ++ sets_moved c.args.slots nodes c.args.map.now c.args.count)) all.agrees;
      gains = all.gains;
      grows = all.gains.grows;
    }
