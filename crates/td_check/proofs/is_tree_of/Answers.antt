use Rattle.std.proofs.Common.{length, arith}
use Rattle.gr_base.specs.Lists.{gathered}
use Rattle.gr_terms.specs.Views.{network_of}
use Rattle.td_colour.specs.Models.{set_links}
use Rattle.td_check.specs.Places.{nodes_of, set_list}
use Rattle.td_check.specs.Shifts.{moved}
use Rattle.td_check.proofs.Gaining.{gained_true}
use Rattle.td_check.proofs.Deciding.{counted_gains, counted_agrees, alike_record, network_made, agreed_now, nodes_made, sets_room_left, agreed_loaded, no_network, no_sets, attributes_are, ready, alike_decides}
use Rattle.td_check.proofs.is_tree_of.Goals as goal

pub load_network-requires-clause-made : goal.load_network-requires-clause-made
load_network-requires-clause-made c =
    let m = c.make_numbers-vars in
    network_made c.args.d.now c.args.tree.now c.args.map.now c.args.store.now m.new.store m.result.0 m.result.1 m.ensures.first_var m.ensures.first_slot m.ensures.vars m.ensures.slots m.ensures.accepted c.requires.mentions c.requires.agreed c.requires.numbered

pub load_network-requires-clause-agreed : goal.load_network-requires-clause-agreed
load_network-requires-clause-agreed c =
    let m = c.make_numbers-vars in
    agreed_now c.args.d.now c.args.tree.now c.args.map.now c.args.store.now m.new.store m.result.0 m.result.1 m.ensures.first_var m.ensures.first_slot m.ensures.vars m.ensures.slots m.ensures.accepted c.requires.mentions c.requires.agreed

pub load_network-requires-clause-entry_room : goal.load_network-requires-clause-entry_room
load_network-requires-clause-entry_room c = omega (arith, c.make_numbers-vars.ensures.entries, c.requires.room.entries)

pub load_network-requires-clause-room : goal.load_network-requires-clause-room
load_network-requires-clause-room c = omega (arith, c.make_numbers-vars.ensures.assertions, c.requires.room.assertions)

pub link_sets-requires-clause-few_slots : goal.link_sets-requires-clause-few_slots
link_sets-requires-clause-few_slots c =
    let g = (gained_true c.make_numbers-vars.new.store c.load_network.new.store (moved c.make_numbers-vars.result.0 c.make_numbers-vars.result.1 (network_of c.args.d.now.network)) c.load_network.result c.if-not-load_network.false c.load_network.ensures.gains) in
    omega (arith, g.slots, c.make_numbers-vars.ensures.few_slots)

pub link_sets-requires-clause-made : goal.link_sets-requires-clause-made
link_sets-requires-clause-made c =
    let g = (gained_true c.make_numbers-vars.new.store c.load_network.new.store (moved c.make_numbers-vars.result.0 c.make_numbers-vars.result.1 (network_of c.args.d.now.network)) c.load_network.result c.if-not-load_network.false c.load_network.ensures.gains) in
    nodes_made c.args.d.now c.args.tree.now c.args.map.now c.args.store.now c.make_numbers-vars.new.store c.make_numbers-vars.result.0 c.make_numbers-vars.result.1 c.make_numbers-vars.ensures.first_var c.make_numbers-vars.ensures.first_slot c.make_numbers-vars.ensures.vars c.make_numbers-vars.ensures.slots c.make_numbers-vars.ensures.accepted c.requires.mentions c.requires.agreed c.load_network.new.store g.slots c.requires.numbered

pub link_sets-requires-clause-agreed : goal.link_sets-requires-clause-agreed
link_sets-requires-clause-agreed c =
    agreed_loaded c.args.d.now c.args.tree.now c.args.map.now c.args.store.now c.make_numbers-vars.new.store c.make_numbers-vars.result.0 c.make_numbers-vars.result.1 c.make_numbers-vars.ensures.first_var c.make_numbers-vars.ensures.first_slot c.make_numbers-vars.ensures.vars c.make_numbers-vars.ensures.slots c.make_numbers-vars.ensures.accepted c.requires.mentions c.requires.agreed c.load_network.new.store (gained_true c.make_numbers-vars.new.store c.load_network.new.store (moved c.make_numbers-vars.result.0 c.make_numbers-vars.result.1 (network_of c.args.d.now.network)) c.load_network.result c.if-not-load_network.false c.load_network.ensures.gains) (c.load_network.ensures.agrees.0 c.if-not-load_network.false)

pub link_sets-requires-clause-room : goal.link_sets-requires-clause-room
link_sets-requires-clause-room c =
    sets_room_left c.args.d.now c.args.tree.now c.args.map.now c.args.store.now c.make_numbers-vars.new.store c.make_numbers-vars.result.0 c.make_numbers-vars.result.1 c.make_numbers-vars.ensures.first_var c.make_numbers-vars.ensures.first_slot c.make_numbers-vars.ensures.vars c.make_numbers-vars.ensures.slots c.make_numbers-vars.ensures.accepted c.requires.mentions c.requires.agreed c.load_network.new.store (gained_true c.make_numbers-vars.new.store c.load_network.new.store (moved c.make_numbers-vars.result.0 c.make_numbers-vars.result.1 (network_of c.args.d.now.network)) c.load_network.result c.if-not-load_network.false c.load_network.ensures.gains) (omega (arith, c.make_numbers-vars.ensures.assertions, c.requires.room.assertions))

pub are_alike-requires : goal.are_alike-requires
are_alike-requires c =
    let g = (gained_true c.make_numbers-vars.new.store c.load_network.new.store (moved c.make_numbers-vars.result.0 c.make_numbers-vars.result.1 (network_of c.args.d.now.network)) c.load_network.result c.if-not-load_network.false c.load_network.ensures.gains) in
    let h = counted_gains c.load_network.new.store c.link_sets.new.store c.make_numbers-vars.result.1 c.len-count.result (length c.args.tree.now.nodes) (nodes_of c.args.d.now.nodes) c.args.map.now c.len-count.ensures (gained_true c.load_network.new.store c.link_sets.new.store (moved 0 c.make_numbers-vars.result.1 (gathered (set_links (nodes_of c.args.d.now.nodes)) (set_list c.args.map.now 0 c.len-count.result))) c.link_sets.result c.if-not-link_sets.false c.link_sets.ensures.gains) in
    record {
      set = record {
        ready = ready c.args.d.now c.args.tree.now c.args.map.now c.args.store.now c.make_numbers-vars.new.store c.make_numbers-vars.result.0 c.make_numbers-vars.result.1 c.make_numbers-vars.ensures.first_var c.make_numbers-vars.ensures.first_slot c.make_numbers-vars.ensures.vars c.make_numbers-vars.ensures.slots c.make_numbers-vars.ensures.accepted c.requires.mentions c.requires.agreed c.load_network.new.store c.link_sets.new.store g h c.requires.numbered c.requires.nodes.few c.args.heads c.requires.heads c.requires.onto.number
            c.make_numbers-vars.ensures.few_vars c.make_numbers-vars.ensures.few_slots;
        attributes = attributes_are c.args.d.now c.args.tree.now c.args.map.now c.args.store.now c.make_numbers-vars.new.store c.make_numbers-vars.result.0 c.make_numbers-vars.result.1 c.make_numbers-vars.ensures.first_var c.make_numbers-vars.ensures.first_slot c.make_numbers-vars.ensures.vars c.make_numbers-vars.ensures.slots c.make_numbers-vars.ensures.accepted c.requires.mentions c.requires.agreed c.load_network.new.store c.link_sets.new.store g h c.requires.nodes;
      };
    }

pub returns-then-not-load_network-clause-tree : goal.returns-then-not-load_network-clause-tree
returns-then-not-load_network-clause-tree c = no_network c.args.d.now c.args.tree.now c.args.map.now c.args.store.now c.make_numbers-vars.new.store c.make_numbers-vars.result.0 c.make_numbers-vars.result.1 c.make_numbers-vars.ensures.first_var c.make_numbers-vars.ensures.first_slot c.make_numbers-vars.ensures.vars c.make_numbers-vars.ensures.slots c.make_numbers-vars.ensures.accepted c.requires.mentions c.requires.agreed c.load_network.result c.load_network.ensures.agrees c.if-not-load_network.true

pub returns-then-not-link_sets-clause-tree : goal.returns-then-not-link_sets-clause-tree
returns-then-not-link_sets-clause-tree c = no_sets c.args.d.now c.args.tree.now c.args.map.now c.args.store.now c.make_numbers-vars.new.store c.make_numbers-vars.result.0 c.make_numbers-vars.result.1 c.make_numbers-vars.ensures.first_var c.make_numbers-vars.ensures.first_slot c.make_numbers-vars.ensures.vars c.make_numbers-vars.ensures.slots c.make_numbers-vars.ensures.accepted c.requires.mentions c.requires.agreed c.load_network.new.store c.link_sets.result (gained_true c.make_numbers-vars.new.store c.load_network.new.store (moved c.make_numbers-vars.result.0 c.make_numbers-vars.result.1 (network_of c.args.d.now.network)) c.load_network.result c.if-not-load_network.false c.load_network.ensures.gains) (counted_agrees c.load_network.new.store c.link_sets.result c.make_numbers-vars.result.1 c.len-count.result (length c.args.tree.now.nodes) (nodes_of c.args.d.now.nodes) c.args.map.now c.len-count.ensures c.link_sets.ensures.agrees) c.if-not-link_sets.true

pub returns-clause-tree : goal.returns-clause-tree
returns-clause-tree c =
    let g = (gained_true c.make_numbers-vars.new.store c.load_network.new.store (moved c.make_numbers-vars.result.0 c.make_numbers-vars.result.1 (network_of c.args.d.now.network)) c.load_network.result c.if-not-load_network.false c.load_network.ensures.gains) in
    let h = counted_gains c.load_network.new.store c.link_sets.new.store c.make_numbers-vars.result.1 c.len-count.result (length c.args.tree.now.nodes) (nodes_of c.args.d.now.nodes) c.args.map.now c.len-count.ensures (gained_true c.load_network.new.store c.link_sets.new.store (moved 0 c.make_numbers-vars.result.1 (gathered (set_links (nodes_of c.args.d.now.nodes)) (set_list c.args.map.now 0 c.len-count.result))) c.link_sets.result c.if-not-link_sets.false c.link_sets.ensures.gains) in
    alike_decides c.args.d.now c.args.tree.now c.args.map.now c.args.store.now c.make_numbers-vars.new.store c.make_numbers-vars.result.0 c.make_numbers-vars.result.1 c.make_numbers-vars.ensures.first_var c.make_numbers-vars.ensures.first_slot c.make_numbers-vars.ensures.vars c.make_numbers-vars.ensures.slots c.make_numbers-vars.ensures.accepted c.requires.mentions c.requires.agreed c.load_network.new.store c.link_sets.new.store g h c.are_alike.result c.args.heads c.requires.heads c.requires.onto.number c.requires.nodes
    ((counted_agrees c.load_network.new.store c.link_sets.result c.make_numbers-vars.result.1 c.len-count.result (length c.args.tree.now.nodes) (nodes_of c.args.d.now.nodes) c.args.map.now c.len-count.ensures c.link_sets.ensures.agrees).0 c.if-not-link_sets.false)
    (alike_record c.are_alike.result (network_of c.link_sets.new.store.accepted) c.args.d.now c.args.tree.now c.args.heads c.make_numbers-vars.result.0 c.make_numbers-vars.result.1
    (λ t. let a = c.are_alike.ensures.0 t in record { nodes = a.nodes; interface = a.interface; values = a.values })
    (λ a. c.are_alike.ensures.1 (record { nodes = a.nodes; interface = a.interface; values = a.values })))
