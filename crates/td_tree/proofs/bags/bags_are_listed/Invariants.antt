use Rattle.std.proofs.Common.{take}
use Rattle.gr_base.specs.Lists.{Each}
use Rattle.td_tree.specs.Trees.{IsListedNode}
use Rattle.td_tree.proofs.bags.bags_are_listed.Given as goal

abbrev pub invariant-loop-node : goal.invariant-loop-node
invariant-loop-node l = Each IsListedNode (take l.node-index l.node-items)
