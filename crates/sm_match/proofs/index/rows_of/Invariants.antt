use Rattle.std.proofs.Common.{take}
use Rattle.sm_match.specs.Index.{AreRows}
use Rattle.sm_match.proofs.index.rows_of.Given as goal

abbrev pub invariant-loop-literal : goal.invariant-loop-literal
invariant-loop-literal l = AreRows l.any l.input (take l.literal-index l.input) l.rows.items
