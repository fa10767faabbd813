use Rattle.td_forest.specs.Spans.{IsCover}
use Rattle.td_forest.proofs.forest.cover.Given as goal

abbrev pub invariant-loop-y : goal.invariant-loop-y
invariant-loop-y l = IsCover l.here l.first l.behind l.place l.y l.last
