use Rattle.std.proofs.Common.{◌++◌, [], ◌∷◌}
use Rattle.std.specs.Prelude.{Some}
use Rattle.gr_terms.specs.Networks.{Agrees, link}
use Rattle.gr_terms.specs.Views.{network_of}
use Rattle.td_desc.specs.Descriptions.{node_of}
use Rattle.td_colour.specs.Models.{node_links}
use Rattle.td_check.specs.Shifts.{moved}
use Rattle.td_check.proofs.Gaining.{gained_true, stop_now, gained_stop, no_to, is_not}
use Rattle.td_check.proofs.load.link_nodes.Goals as goal

pub returns-then-not-own-clause-agrees : goal.returns-then-not-own-clause-agrees
returns-then-not-own-clause-agrees c =
    let old = c.args.store.now in
    let n = c.args.one.now in
    let m = c.args.other.now in
    let slots = c.args.slots in
    let L = moved 0 slots (link n.own.0 m.own.0 ∷ []) in
    let K = moved 0 slots (link n.top.0 m.top.0 ∷ link n.bot.0 m.bot.0 ∷ []) in
    no_to (Agrees (network_of old.accepted ++ moved 0 slots (node_links (Some (node_of n)) (Some (node_of m)))))
    (stop_now old L K (is_not c.link_slots-own.result (Agrees (network_of old.accepted ++ L)) c.link_slots-own.ensures.agrees c.if-not-own.true))

pub returns-then-not-top-clause-agrees : goal.returns-then-not-top-clause-agrees
returns-then-not-top-clause-agrees c =
    let old = c.args.store.now in
    let mid = c.link_slots-own.new.store in
    let n = c.args.one.now in
    let m = c.args.other.now in
    let slots = c.args.slots in
    let L = moved 0 slots (link n.own.0 m.own.0 ∷ []) in
    let M = moved 0 slots (link n.top.0 m.top.0 ∷ []) in
    let K = moved 0 slots (link n.bot.0 m.bot.0 ∷ []) in
    no_to (Agrees (network_of old.accepted ++ moved 0 slots (node_links (Some (node_of n)) (Some (node_of m)))))
    (gained_stop old mid L M K (gained_true old mid L c.link_slots-own.result c.if-not-own.false c.link_slots-own.ensures.gains)
    (is_not c.link_slots-top.result (Agrees (network_of mid.accepted ++ M)) c.link_slots-top.ensures.agrees c.if-not-top.true))
