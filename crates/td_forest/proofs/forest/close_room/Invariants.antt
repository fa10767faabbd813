use Rattle.td_forest.specs.Spans.{IsShiftedBack, IsPartly}
use Rattle.td_forest.proofs.forest.close_room.Given as goal

abbrev pub invariant-loop-k : goal.invariant-loop-k
invariant-loop-k l = IsPartly (IsShiftedBack l.place) l.here l.initial.first l.initial.behind l.k l.first l.behind
