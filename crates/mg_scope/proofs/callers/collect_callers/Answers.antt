use Rattle.std.proofs.Common.{List, map}
use Rattle.mg_scope.specs.Classes.{mentioned}
use Rattle.mg_scope.proofs.CallerLemmas.{callers_none, callers_all}
use Rattle.mg_scope.proofs.callers.collect_callers.Goals as goal

pub loop-place-init : goal.loop-place-init
loop-place-init c = callers_none (mentioned c.args.directory.now) c.new.result (map (λ row. row.items) c.new-2.result.items) c.new.ensures

pub loop-place-preserved : goal.loop-place-preserved
loop-place-preserved c = c.in_ok-add_item.ensures c.loop-place.invariant

pub returns : goal.returns
returns c =
    callers_all c.args.directory.now c.loop-place.all c.loop-place.place (rw c.items-place-end.ensures at c.loop-place-test.false) c.loop-place.invariant
