use Rattle.std.proofs.Common.{◌≡◌, ◌++◌, length}
use Rattle.gr_reader.proofs.places.end_place.Given as goal

abbrev pub invariant-loop-byte : goal.invariant-loop-byte
invariant-loop-byte l = l.cursor.read ++ l.cursor.left ≡ l.bytes

abbrev pub decreases-loop-byte : goal.decreases-loop-byte
decreases-loop-byte l = length l.cursor.left
