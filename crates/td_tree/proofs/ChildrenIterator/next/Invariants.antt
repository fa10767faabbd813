use Rattle.std.proofs.Common.{length, ◌-◌, ◌≡◌, drop}
use Rattle.td_tree.specs.Trees.{children_from}
use Rattle.td_tree.proofs.ChildrenIterator.next.Given as goal

abbrev pub invariant-loop-self : goal.invariant-loop-self
invariant-loop-self l = record {
  nodes : l.self-inside.nodes ≡ l.initial.self-inside.nodes;
  parent : l.self-inside.parent ≡ l.initial.self-inside.parent;
  left : children_from l.self-inside.at l.self-inside.parent (drop l.self-inside.at l.self-inside.nodes.now)
      ≡ children_from l.initial.self-inside.at l.initial.self-inside.parent (drop l.initial.self-inside.at l.initial.self-inside.nodes.now);
}

abbrev pub decreases-loop-self : goal.decreases-loop-self
decreases-loop-self l = length l.self-inside.nodes.now - l.self-inside.at
