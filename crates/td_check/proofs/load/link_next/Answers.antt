use Rattle.std.proofs.Common.{get_or}
use Rattle.std.specs.Prelude.{Some}
use Rattle.td_desc.specs.Descriptions.{node_of}
use Rattle.td_colour.specs.Models.{node_links}
use Rattle.td_check.specs.Places.{next_links, nodes_of}
use Rattle.td_check.proofs.Sharing.{nodes_linked, same_agrees, same_gains}
use Rattle.td_check.proofs.load.link_next.Goals as goal

pub returns-clause-agrees : goal.returns-clause-agrees
returns-clause-agrees c =
    let nodes = c.args.nodes.now in
    let s = get_or c.args.map.now c.args.node 0 in
    let n = c.get.result.now in
    let m = c.get-2.result.now in
    same_agrees c.args.store.now c.args.slots (next_links (nodes_of nodes) c.args.to c.args.head c.args.node s) (node_links (Some (node_of n)) (Some (node_of m))) c.link_nodes.result
    (nodes_linked nodes c.args.to c.args.head c.args.node s n m c.if-map-node.false c.if-node-head.false c.get.ensures c.get-2.ensures) c.link_nodes.ensures.agrees

pub returns-clause-gains : goal.returns-clause-gains
returns-clause-gains c =
    let nodes = c.args.nodes.now in
    let s = get_or c.args.map.now c.args.node 0 in
    let n = c.get.result.now in
    let m = c.get-2.result.now in
    same_gains c.args.store.now c.link_nodes.new.store c.args.slots (next_links (nodes_of nodes) c.args.to c.args.head c.args.node s) (node_links (Some (node_of n)) (Some (node_of m))) c.link_nodes.result
    (nodes_linked nodes c.args.to c.args.head c.args.node s n m c.if-map-node.false c.if-node-head.false c.get.ensures c.get-2.ensures) c.link_nodes.ensures.gains
