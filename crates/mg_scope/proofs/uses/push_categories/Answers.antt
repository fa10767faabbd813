use Rattle.std.proofs.Common.{refl, sym, ap, ◌∙◌, ◌++◌}
use Rattle.mg_scope.specs.Uses.{category_uses, bag_uses, categories_of}
use Rattle.mg_scope.proofs.UseLemmas.{categories}
use Rattle.mg_scope.proofs.GatherLemmas.{grown, grown_all}
use Rattle.mg_scope.proofs.uses.push_categories.Goals as goal

pub loop-pair-preserved : goal.loop-pair-preserved
loop-pair-preserved c =
    grown category_uses c.as_slice-pair-items.result.now c.loop-pair.pair-index _ c.args.uses.now.items c.loop-pair.uses.items c.push_category.new.uses.items
    c.loop-pair-test.true c.loop-pair.invariant c.in_ok-push_category.ensures

pub returns : goal.returns
returns c =
    grown_all category_uses c.as_slice-pair-items.result.now c.args.bag.now c.loop-pair.pair-index c.args.uses.now.items c.loop-pair.uses.items
    c.loop-pair-test.false c.loop-pair.invariant c.as_slice-pair-items.ensures
    ∙ ap (λ z. c.args.uses.now.items ++ z) (categories c.args.bag.now)
