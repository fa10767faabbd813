use Rattle.std.proofs.Common.{◌≡◌, Some}
use Rattle.mg_scope.specs.Classes.{mentioned}
use Rattle.mg_scope.specs.Tables.{value_at}
use Rattle.mg_scope.proofs.StepLemmas.{IsOnWay}
use Rattle.mg_scope.proofs.cycles.way_back.Given as goal

abbrev pub invariant-loop-at : goal.invariant-loop-at
invariant-loop-at l = record {
  way : IsOnWay (mentioned l.directory) l.goal l.names l.at;
  number : value_at l.steps l.at ≡ Some l.left;
}

abbrev pub decreases-loop-at : goal.decreases-loop-at
decreases-loop-at l = l.left
