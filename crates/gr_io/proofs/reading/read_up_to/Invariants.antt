-- The bytes so far are what the reader has given, and no more than what is wanted. Each turn reads at least one.
use Rattle.std.specs.Io.KnownBytes.{Consumes}
use Rattle.std.proofs.Common.{◌≡◌, ◌+◌, ◌-◌, ◌≤◌, min, vec_len}
use Rattle.gr_io.proofs.reading.read_up_to.Given as goal

abbrev pub invariant-loop-bytes : goal.invariant-loop-bytes
invariant-loop-bytes g l =
    record {
      room : vec_len l.bytes ≤ l.limit + 1;
      buffer : vec_len l.buffer ≡ min 65536 (l.limit + 1);
      given : Consumes (g.F.Read.remaining l.initial.reader) (g.F.Read.remaining l.reader) l.bytes.items;
    }

abbrev pub decreases-loop-bytes : goal.decreases-loop-bytes
decreases-loop-bytes g l = l.limit + 1 - vec_len l.bytes
