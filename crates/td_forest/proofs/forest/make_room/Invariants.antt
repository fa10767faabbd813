use Rattle.std.proofs.Common.{◌≡◌, length}
use Rattle.td_forest.specs.Spans.{IsShiftedOn, IsPartly}
use Rattle.td_forest.proofs.forest.make_room.Given as goal

abbrev pub invariant-loop-k : goal.invariant-loop-k
invariant-loop-k l =
    record {
      partly : IsPartly (IsShiftedOn l.start l.place) l.here l.initial.first l.initial.behind l.k l.first l.behind;
      first_cells : length l.first ≡ 24;
      behind_cells : length l.behind ≡ 24;
    }
