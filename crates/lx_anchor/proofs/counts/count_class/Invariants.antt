use Rattle.std.proofs.Common.{◌≤◌, take}
use Rattle.td_canon.specs.TreeSets.{trees_of}
use Rattle.gr_base.specs.Lists.{Each}
use Rattle.lx_anchor.specs.Counts.{IsTreeBelow}
use Rattle.lx_anchor.proofs.counts.count_class.Given as goal

abbrev pub invariant-trees : goal.invariant-trees
invariant-trees l = (l.fn.count ≤ l.more) × Each (IsTreeBelow l.more) (take l.place (trees_of l.class.trees))
