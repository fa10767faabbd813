use Rattle.std.proofs.Common.{◌≡◌, ◌-◌, ◌≤◌, length, take, true}
use Rattle.gr_base.specs.Lists.{Each}
use Rattle.tg_reader.specs.Reading.{is_of}
use Rattle.tg_reader.proofs.reader.run_len.Given as goal

abbrev pub invariant-loop-len : goal.invariant-loop-len
invariant-loop-len l = record { within : l.len ≤ length l.bytes; each : Each (λ b. is_of l.run b ≡ true) (take l.len l.bytes) }

abbrev pub decreases-loop-len : goal.decreases-loop-len
decreases-loop-len l = length l.bytes - l.len
