use Rattle.std.proofs.Common.{◌≡◌, length}
use Rattle.td_forest.specs.Spans.{AreEnds}
use Rattle.td_forest.proofs.forest.ends.Given as goal

abbrev pub invariant-loop-y : goal.invariant-loop-y
invariant-loop-y l =
    record {
      ends : AreEnds l.here l.first l.behind l.y l.ends;
      cells : length l.ends ≡ 24;
    }
