use Rattle.std.proofs.Common.{◌-◌, ◌≤◌, length, take}
use Rattle.gr_base.specs.Lists.{Each}
use Rattle.gr_text.specs.Words.{IsStringByte}
use Rattle.gr_tokens.proofs.fronts.inside_len.Given as goal

abbrev pub invariant-loop-len : goal.invariant-loop-len
invariant-loop-len l = record { within : l.len ≤ length l.bytes; inside : Each IsStringByte (take l.len l.bytes) }

abbrev pub decreases-loop-len : goal.decreases-loop-len
decreases-loop-len l = length l.bytes - l.len
