use Rattle.std.proofs.Common.{subst, sym, []}
use Rattle.mg_scope.specs.Directories.{AreOutlines}
use Rattle.mg_scope.proofs.NameLemmas.{outlines_none, outlines_next, outlines_all}
use Rattle.mg_scope.proofs.directory.outline_items.Goals as goal

pub loop-item-init : goal.loop-item-init
loop-item-init c = subst (AreOutlines []) (sym c.new-all.ensures.items) outlines_none

pub loop-item-preserved : goal.loop-item-preserved
loop-item-preserved c =
    outlines_next c.args.items.now c.loop-item.item-index c.item-item.result c.loop-item.all.items c.push.new.self.items c.in_ok-outline.outline c.loop-item-test.true c.item-item.is
    c.loop-item.invariant c.in_ok-outline.ensures c.in_ok-push.ensures.items

pub returns : goal.returns
returns c = outlines_all c.args.items.now c.loop-item.item-index c.loop-item.all.items c.loop-item-test.false c.loop-item.invariant
