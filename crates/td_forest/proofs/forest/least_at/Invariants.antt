use Rattle.td_forest.specs.Spans.{NoneAt}
use Rattle.td_forest.proofs.forest.least_at.Given as goal

abbrev pub invariant-loop-y : goal.invariant-loop-y
invariant-loop-y l = NoneAt l.here l.first l.place l.y
