use Rattle.std.proofs.Common.{◌≤◌, take}
use Rattle.gr_base.specs.Lists.{Each}
use Rattle.lx_anchor.specs.Counts.{IsNodeBelow}
use Rattle.lx_anchor.proofs.counts.count_nodes.Given as goal

abbrev pub invariant-nodes : goal.invariant-nodes
invariant-nodes l = (l.fn.count ≤ l.more) × Each (IsNodeBelow l.more) (take l.place l.nodes)
