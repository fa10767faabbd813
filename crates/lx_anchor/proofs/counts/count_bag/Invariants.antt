use Rattle.std.proofs.Common.{◌≤◌, take}
use Rattle.lx_anchor.specs.Counts.{IsBagBelow}
use Rattle.lx_anchor.proofs.counts.count_bag.Given as goal

abbrev pub invariant-pairs : goal.invariant-pairs
invariant-pairs l = (l.fn.count ≤ l.more) × IsBagBelow l.more (take l.place l.bag)
