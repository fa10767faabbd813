use Rattle.td_forest.specs.Spans.{IsHighest}
use Rattle.td_forest.proofs.forest.highest.Given as goal

abbrev pub invariant-loop-y : goal.invariant-loop-y
invariant-loop-y l = IsHighest l.here l.y l.most
