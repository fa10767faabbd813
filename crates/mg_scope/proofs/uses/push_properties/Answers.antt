use Rattle.std.proofs.Common.{refl, sym, ap, ◌∙◌, ◌++◌}
use Rattle.mg_scope.specs.Uses.{property_uses, bag_uses, properties_of}
use Rattle.mg_scope.proofs.UseLemmas.{properties}
use Rattle.mg_scope.proofs.GatherLemmas.{grown, grown_all}
use Rattle.mg_scope.proofs.uses.push_properties.Goals as goal

pub loop-pair-preserved : goal.loop-pair-preserved
loop-pair-preserved c =
    grown property_uses c.as_slice-pair-items.result.now c.loop-pair.pair-index _ c.args.uses.now.items c.loop-pair.uses.items c.push_property.new.uses.items
    c.loop-pair-test.true c.loop-pair.invariant c.in_ok-push_property.ensures

pub returns : goal.returns
returns c =
    grown_all property_uses c.as_slice-pair-items.result.now c.args.bag.now c.loop-pair.pair-index c.args.uses.now.items c.loop-pair.uses.items
    c.loop-pair-test.false c.loop-pair.invariant c.as_slice-pair-items.ensures
    ∙ ap (λ z. c.args.uses.now.items ++ z) (properties c.args.bag.now)
