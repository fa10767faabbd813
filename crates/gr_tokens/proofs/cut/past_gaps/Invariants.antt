use Rattle.std.proofs.Common.{◌-◌, length}
use Rattle.gr_tokens.specs.Fronts.{Skips}
use Rattle.gr_tokens.proofs.cut.past_gaps.Given as goal

abbrev pub invariant-loop-here : goal.invariant-loop-here
invariant-loop-here l = Skips l.bytes l.fn.from l.here

abbrev pub decreases-loop-here : goal.decreases-loop-here
decreases-loop-here l = length l.bytes - l.here.at
