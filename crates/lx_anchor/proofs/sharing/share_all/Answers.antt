use Rattle.lx_anchor.proofs.SharingLemmas.{all-refused, all-shared, anchor-added, bottom-made, iface-added, iface-made, interface-clash}
use Rattle.lx_anchor.proofs.sharing.share_all.Goals as goal

pub share-requires-clause-bag_made : goal.share-requires-clause-bag_made
share-requires-clause-bag_made c = iface-made c.args.tree.now c.args.entry.now c.args.first c.args.anchor c.args.store.now c.requires.room

pub share-requires-clause-added_made : goal.share-requires-clause-added_made
share-requires-clause-added_made c = iface-added c.args.tree.now c.args.entry.now c.args.first c.args.anchor c.args.store.now c.requires.room

pub returns-then-not-share-clause-refused : goal.returns-then-not-share-clause-refused
returns-then-not-share-clause-refused c = interface-clash c.args.tree.now c.args.entry.now c.args.first c.args.anchor c.args.store.now c.requires.room c.if-not-share.ensures.refused

pub share-requires-2-clause-bag_made : goal.share-requires-2-clause-bag_made
share-requires-2-clause-bag_made c =
    bottom-made c.args.tree.now c.args.entry.now c.args.first c.args.anchor c.args.store.now c.requires.room c.share.new.store c.get.result.now c.if-not-share.ensures.grows.vars c.get.ensures

pub share-requires-2-clause-added_made : goal.share-requires-2-clause-added_made
share-requires-2-clause-added_made c =
    anchor-added c.args.tree.now c.args.entry.now c.args.first c.args.anchor c.args.store.now c.requires.room c.share.new.store c.if-not-share.ensures.grows.vars

pub returns-clause-shared : goal.returns-clause-shared
returns-clause-shared c =
    all-shared c.args.tree.now c.args.entry.now c.args.first c.args.anchor c.args.store.now c.requires.room c.get.result.now c.get.ensures c.share.new.store c.share-2.new.store _ _ c.share-2.result c.if-not-share.ensures.shared
    c.share-2.ensures.shared

pub returns-clause-refused : goal.returns-clause-refused
returns-clause-refused c =
    all-refused c.args.tree.now c.args.entry.now c.args.first c.args.anchor c.args.store.now c.requires.room c.get.result.now c.get.ensures c.share.new.store _ c.share-2.result c.if-not-share.ensures.shared c.share-2.ensures.refused
