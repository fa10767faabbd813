use Rattle.std.proofs.Common.{◌≡◌, length, subst, arith}
use Rattle.gr_terms.specs.Views.{network_of}
use Rattle.lx_anchor.specs.Sharing.{counted_pairs}
use Rattle.lx_anchor.specs.Writings.{AreJointNodes}
use Rattle.lx_anchor.proofs.WritingLemmas.{nodes-push}
use Rattle.lx_anchor.proofs.writing.joint_nodes.Goals as goal

pub nodes-preserved : goal.nodes-preserved
nodes-preserved c =
    nodes-push (network_of c.args.store.now.accepted) c.args.tree.now.nodes c.args.anchor (counted_pairs c.args.first c.args.entry.now.anchor) c.nodes.number c.nodes.nodes.items c.push.new.self.items c.in_ok-joint_node_at.field-0 c.nodes.invariant
    c.in_ok-joint_node_at.ensures c.in_ok-push.ensures.items

pub returns : goal.returns
returns c =
    let all : c.nodes.number ≡ length c.args.tree.now.nodes = omega arith in
    rw c.from_vec.ensures
    (subst (λ k. AreJointNodes (network_of c.args.store.now.accepted) c.args.tree.now.nodes c.args.anchor (counted_pairs c.args.first c.args.entry.now.anchor) k c.nodes.nodes.items) all c.nodes.invariant)
