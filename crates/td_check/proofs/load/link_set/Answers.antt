use Rattle.std.proofs.Common.{◌≡◌, ◌++◌, length, get_or, subst, arith}
use Rattle.std.specs.Prelude.{Some, slice_get}
use Rattle.std.proofs.lemmas.Option.{slice_get-get_or, slice_get_within}
use Rattle.gr_terms.specs.Networks.{Agrees}
use Rattle.gr_terms.specs.Views.{network_of}
use Rattle.gr_store.proofs.Growth.{Grows-trans}
use Rattle.td_colour.specs.Models.{set_links}
use Rattle.td_check.specs.Sets.{sent_to}
use Rattle.td_check.specs.Shifts.{moved}
use Rattle.td_check.specs.Places.{nodes_of}
use Rattle.td_check.proofs.Gaining.{gained_agrees, gained_true, yes_to, no_to, is_not}
use Rattle.td_check.proofs.Sharing.{next_moved, set_moved, set_none, set_next, set_stop, set_all, set_room, slots_still}
use Rattle.td_check.proofs.load.link_set.Goals as goal

pub loop-node-init : goal.loop-node-init
loop-node-init c = set_none c.args.slots (nodes_of c.args.nodes.now) c.args.map.now c.args.to c.args.head c.args.store.now c.requires.agreed

pub link_next-requires-clause-few_slots : goal.link_next-requires-clause-few_slots
link_next-requires-clause-few_slots c = omega (arith, c.loop-node.invariant.gains.slots, c.requires.few_slots)

pub link_next-requires-clause-made : goal.link_next-requires-clause-made
link_next-requires-clause-made c = slots_still c.args.slots c.args.store.now.slots c.loop-node.store.slots c.args.nodes.now c.loop-node.invariant.gains.slots c.requires.made

pub link_next-requires-clause-head_within : goal.link_next-requires-clause-head_within
link_next-requires-clause-head_within c = slice_get_within c.args.map.now c.args.head c.args.to c.requires.first.sent

pub link_next-requires-clause-agreed : goal.link_next-requires-clause-agreed
link_next-requires-clause-agreed c =
    gained_agrees c.args.store.now c.loop-node.store (set_moved c.args.slots (nodes_of c.args.nodes.now) c.args.map.now c.args.to c.args.head c.loop-node.node) c.loop-node.invariant

pub link_next-requires-clause-room : goal.link_next-requires-clause-room
link_next-requires-clause-room c e =
    let at : slice_get c.args.map.now c.loop-node.node ≡ Some c.args.to = subst (λ s. slice_get c.args.map.now c.loop-node.node ≡ Some s) e (slice_get-get_or c.args.map.now c.loop-node.node 0 c.loop-node-test.true) in
    set_room c.args.slots (nodes_of c.args.nodes.now) c.args.map.now c.args.to c.args.head c.args.store.now c.loop-node.store c.loop-node.node at c.loop-node.invariant.gains c.requires.room

pub loop-node-preserved : goal.loop-node-preserved
loop-node-preserved c =
    let nodes = nodes_of c.args.nodes.now in
    let s = get_or c.args.map.now c.loop-node.node 0 in
    set_next c.args.slots nodes c.args.map.now c.args.to c.args.head c.args.store.now c.loop-node.store c.link_next.new.store c.loop-node.node c.loop-node-test.true c.loop-node.invariant
    (gained_true c.loop-node.store c.link_next.new.store (next_moved c.args.slots nodes c.args.map.now c.args.to c.args.head c.loop-node.node s) c.link_next.result c.if-not-link_next.false c.link_next.ensures.gains)
    (c.link_next.ensures.agrees.0 c.if-not-link_next.false)

pub returns-then-not-link_next-clause-agrees : goal.returns-then-not-link_next-clause-agrees
returns-then-not-link_next-clause-agrees c =
    let nodes = nodes_of c.args.nodes.now in
    let s = get_or c.args.map.now c.loop-node.node 0 in
    no_to (Agrees (network_of c.args.store.now.accepted ++ moved 0 c.args.slots (set_links nodes (sent_to c.args.map.now c.args.to))))
    (set_stop c.args.slots nodes c.args.map.now c.args.to c.args.head c.requires.first c.args.store.now c.loop-node.store c.loop-node.node c.loop-node-test.true c.loop-node.invariant
    (is_not c.link_next.result (Agrees (network_of c.loop-node.store.accepted ++ next_moved c.args.slots nodes c.args.map.now c.args.to c.args.head c.loop-node.node s)) c.link_next.ensures.agrees c.if-not-link_next.true))

pub returns-then-not-link_next-clause-grows : goal.returns-then-not-link_next-clause-grows
returns-then-not-link_next-clause-grows c = Grows-trans c.args.store.now c.loop-node.store c.link_next.new.store c.loop-node.invariant.gains.grows c.link_next.ensures.grows

pub returns : goal.returns
returns c =
    let nodes = nodes_of c.args.nodes.now in
    let all = set_all c.args.slots nodes c.args.map.now c.args.to c.args.head c.requires.first c.args.store.now c.loop-node.store c.loop-node.node c.loop-node-test.false c.loop-node.invariant in
    record {
      agrees = yes_to (Agrees (network_of c.args.store.now.accepted ++ moved 0 c.args.slots (set_links nodes (sent_to c.args.map.now c.args.to)))) all.agrees;
      gains = all.gains;
      grows = all.gains.grows;
    }
