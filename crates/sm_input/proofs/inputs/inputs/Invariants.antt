use Rattle.std.proofs.Common.{length}
use Rattle.sm_input.proofs.Rows.{AreRead}
use Rattle.sm_input.proofs.inputs.inputs.Given as goal

abbrev pub invariant-row : goal.invariant-row
invariant-row l = AreRead l.initial.reader l.initial.symbols l.initial.complaints l.reader l.symbols l.row.items l.complaints

abbrev pub decreases-row : goal.decreases-row
decreases-row l = length l.reader
