use Rattle.std.proofs.Common.{◌≡◌, ◌-◌, ◌≤◌, [], length, take}
use Rattle.gr_io.specs.Outside.{appended}
use Rattle.gr_io.proofs.sink.write_all_of.Given as goal

abbrev pub invariant-loop-written : goal.invariant-loop-written
invariant-loop-written g l =
    record {
      within : l.written ≤ length l.bytes;
      taken : g.K.Sink.written l.sink ≡ appended (g.K.Sink.written l.initial.sink) (take l.written l.bytes);
      kept : g.K.Sink.faults l.sink ≡ g.K.Sink.faults l.initial.sink;
      empty : l.bytes ≡ [] → l.sink ≡ l.initial.sink;
    }

abbrev pub decreases-loop-written : goal.decreases-loop-written
decreases-loop-written g l = length l.bytes - l.written
