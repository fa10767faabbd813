-- The buffer keeps its length, and an interrupted read takes nothing.
use Rattle.std.specs.Io.KnownBytes.{Keeps}
use Rattle.std.proofs.Common.{◌≡◌, length}
use Rattle.gr_io.proofs.reading.read_piece.Given as goal

abbrev pub invariant-loop : goal.invariant-loop
invariant-loop g l =
    record {
      room : length l.buffer ≡ length l.initial.buffer;
      nothing : Keeps (g.F.Read.remaining l.initial.reader) (g.F.Read.remaining l.reader);
    }
