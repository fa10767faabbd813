use Rattle.std.proofs.Common.{refl, sym, ap, ◌∙◌, ◌++◌}
use Rattle.mg_scope.specs.Uses.{item_uses}
use Rattle.mg_scope.proofs.GatherLemmas.{grown_item, grown_all}
use Rattle.mg_scope.proofs.uses.push_items.Goals as goal

pub loop-item-preserved : goal.loop-item-preserved
loop-item-preserved c =
    grown_item item_uses c.args.items.now c.loop-item.item-index c.item-item.result c.args.uses.now.items c.loop-item.uses.items c.push_item.new.uses.items
    c.loop-item-test.true c.item-item.is c.loop-item.invariant c.in_ok-push_item.ensures

pub returns : goal.returns
returns c =
    grown_all item_uses c.args.items.now c.args.items.now c.loop-item.item-index c.args.uses.now.items c.loop-item.uses.items
    c.loop-item-test.false c.loop-item.invariant refl
