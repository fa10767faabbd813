use Rattle.std.proofs.Common.{ℕ, ◌<◌}
use Rattle.gr_base.specs.Lists.{IsAmong}
use Rattle.td_check.proofs.sets.meets_all.Given as goal

abbrev pub invariant-loop-to : goal.invariant-loop-to
invariant-loop-to l = (t : ℕ) → t < l.to → IsAmong l.map t
