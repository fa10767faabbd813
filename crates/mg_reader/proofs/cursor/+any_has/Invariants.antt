use Rattle.std.proofs.Common.{length}
use Rattle.mg_reader.proofs.cursor.+any_has.Given as goal

abbrev pub decreases-any_has : goal.decreases-any_has
decreases-any_has l = length l.classes.now
