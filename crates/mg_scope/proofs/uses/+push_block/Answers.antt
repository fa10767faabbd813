-- Name, properties, categories, top and bottom are appended in turn, and then the kids.
use Rattle.std.proofs.Common.{ap, sym, ◌∙◌, ◌++◌}
use Rattle.gr_base.specs.Lists.{gathered}
use Rattle.mg_syntax.specs.declared.block.NodeBlock.{out-NodeBlock}
use Rattle.mg_scope.specs.Uses.{name_uses, bag_uses, properties_of, categories_of}
use Rattle.mg_scope.proofs.UseLemmas.{kid_uses, block_parts, in_turn}
use Rattle.mg_scope.proofs.GatherLemmas.{grown_item, grown_all}
use Rattle.mg_scope.proofs.uses.+push_block.Goals as goal

pub loop-kid-preserved : goal.loop-kid-preserved
loop-kid-preserved t c =
    grown_item kid_uses c.as_slice-kid-items.result.now c.loop-kid.kid-index c.kid-item.result c.push_bag-2.new.uses.items c.loop-kid.uses.items c.push_block.new.uses.items
    c.loop-kid-test.true c.kid-item.is c.loop-kid.invariant c.in_ok-push_block.ensures

pub returns : goal.returns
returns t c =
    let n = out-NodeBlock c.args.block.now in
    in_turn c.args.uses.now.items (name_uses n.name) (bag_uses (properties_of n.own)) (bag_uses (categories_of n.own)) (bag_uses n.top) (bag_uses n.bot) (gathered kid_uses n.kids)
    c.push_name.new.uses.items c.push_properties.new.uses.items c.push_categories.new.uses.items c.push_bag.new.uses.items c.push_bag-2.new.uses.items c.loop-kid.uses.items
    c.in_ok-push_name.ensures c.in_ok-push_properties.ensures c.in_ok-push_categories.ensures c.in_ok-push_bag.ensures c.in_ok-push_bag-2.ensures
    (grown_all kid_uses c.as_slice-kid-items.result.now n.kids c.loop-kid.kid-index c.push_bag-2.new.uses.items c.loop-kid.uses.items c.loop-kid-test.false c.loop-kid.invariant c.as_slice-kid-items.ensures)
    ∙ ap (λ z. c.args.uses.now.items ++ z) (sym (block_parts c.args.block.now))
