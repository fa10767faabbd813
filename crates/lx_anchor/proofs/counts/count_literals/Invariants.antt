use Rattle.std.proofs.Common.{◌≤◌, take}
use Rattle.gr_base.specs.Lists.{Each}
use Rattle.lx_anchor.specs.Counts.{IsLiteralBelow}
use Rattle.lx_anchor.proofs.counts.count_literals.Given as goal

abbrev pub invariant-literals : goal.invariant-literals
invariant-literals l = (l.fn.count ≤ l.more) × Each (IsLiteralBelow l.more) (take l.place l.literals)
