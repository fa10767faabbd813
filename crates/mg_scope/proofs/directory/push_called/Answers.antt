use Rattle.std.proofs.Common.{refl}
use Rattle.mg_scope.specs.Classes.{called_class}
use Rattle.mg_scope.proofs.GatherLemmas.{grown, grown_all}
use Rattle.mg_scope.proofs.directory.push_called.Goals as goal

pub loop-place-preserved : goal.loop-place-preserved
loop-place-preserved c =
    grown called_class c.args.uses.now c.loop-place.place-index _ c.args.classes.now.items c.loop-place.classes.items c.push_class.new.classes.items
    c.loop-place-test.true c.loop-place.invariant c.in_ok-push_class.ensures

pub returns : goal.returns
returns c =
    grown_all called_class c.args.uses.now c.args.uses.now c.loop-place.place-index c.args.classes.now.items c.loop-place.classes.items
    c.loop-place-test.false c.loop-place.invariant refl
