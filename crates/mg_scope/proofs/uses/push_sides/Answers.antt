use Rattle.std.proofs.Common.{refl, sym, ap, ◌∙◌, ◌++◌}
use Rattle.mg_scope.specs.Uses.{side_uses}
use Rattle.mg_scope.proofs.GatherLemmas.{grown, grown_all}
use Rattle.mg_scope.proofs.uses.push_sides.Goals as goal

pub loop-side-preserved : goal.loop-side-preserved
loop-side-preserved c =
    grown side_uses c.args.sides.now c.loop-side.side-index _ c.args.uses.now.items c.loop-side.uses.items c.push_side.new.uses.items
    c.loop-side-test.true c.loop-side.invariant c.in_ok-push_side.ensures

pub returns : goal.returns
returns c =
    grown_all side_uses c.args.sides.now c.args.sides.now c.loop-side.side-index c.args.uses.now.items c.loop-side.uses.items
    c.loop-side-test.false c.loop-side.invariant refl
