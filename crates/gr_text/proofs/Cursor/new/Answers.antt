-- A cursor begins at line 1, column 1.
use Rattle.gr_text.proofs.CursorLemmas.{StandsAt-start}
use Rattle.gr_text.proofs.Cursor.new.Goals as goal

pub invariant_of-result : goal.invariant_of-result
invariant_of-result c = StandsAt-start _ c.requires
