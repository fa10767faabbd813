use Rattle.std.proofs.Common.{rules}
use Rattle.lx_anchor.proofs.AnchoringLemmas.{anchor-within, is-ready}
use Rattle.lx_anchor.proofs.Joining.{clash-refuses}
use Rattle.lx_anchor.proofs.RenamedTrees.{anchored-numbered}
use Rattle.lx_anchor.proofs.Written.{anchored-tree}
use Rattle.lx_anchor.proofs.anchoring.joined.Goals as goal

pub share_all-requires-clause-anchor : goal.share_all-requires-clause-anchor
share_all-requires-clause-anchor c = anchor-within c.args.tree.now c.anchor-anchor.result c.anchor-anchor.ensures

pub returns-then-not-share_all-clause-tree : goal.returns-then-not-share_all-clause-tree
returns-then-not-share_all-clause-tree c = λ nodes.
    clash-refuses c.args.tree.now c.args.entry.now c.args.first c.anchor-anchor.result nodes c.anchor-anchor.ensures c.requires.room.tree c.if-not-share_all.ensures.refused

pub joint_tree-requires : goal.joint_tree-requires
joint_tree-requires c =
    is-ready c.args.tree.now c.args.entry.now c.args.first c.anchor-anchor.result c.args.store.now c.mark-made.result c.share_all.new.store.accepted c.requires.room c.mark-made.ensures.numbers (search rules) c.if-not-share_all.ensures.shared

pub returns-clause-tree : goal.returns-clause-tree
returns-clause-tree c =
    anchored-numbered c.args.tree.now c.args.entry.now _ _
    (anchored-tree c.args.tree.now c.args.entry.now c.args.first c.anchor-anchor.result c.requires.well_formed c.anchor-anchor.ensures c.requires.room.tree c.share_all.new.store.accepted c.if-not-share_all.ensures.shared
    c.mark-agrees.ensures.agrees c.in_ok-joint.joint c.in_ok-joint.ensures)
    c.in_ok-tree.ensures
