-- Decorated trees whose nodes have lists of attributes with values, as networks: each list is the entries of a slot of its own.
use Rattle.std.specs.Prelude.{ℕ, List, [], ◌∷◌, ◌++◌}
use Rattle.gr_base.specs.Lists.{gathered}
use Rattle.gr_base.specs.Forests.{labels, numbered, map_forest}
use Rattle.gr_terms.specs.Networks.{Term, Assertion, entry}
use Rattle.gr_terms.specs.Canonical.{Node, Decorated}

-- the three lists of a node
pub data Part : Type 0 where
  own_part : Part
  top_part : Part
  bottom_part : Part

-- a slot of a tree: one of the node with this number in preorder, or the interface
pub data TreeSlot : Type 0 where
  at_node : ℕ → Part → TreeSlot
  at_interface : TreeSlot

-- the slots of node number n
abbrev pub slots_at : ℕ → Node TreeSlot
slots_at n = record { own = at_node n own_part; top = at_node n top_part; bottom = at_node n bottom_part }

-- the entries that a list of pairs makes at a slot
abbrev pub entries_at : {V S : Type 0} → S → List (ℕ × Term V) → List (Assertion V S)
entries_at s [] = []
entries_at s (p ∷ ps) = entry s p.0 p.1 ∷ entries_at s ps

abbrev pub node_network : {V : Type 0} → ℕ × Node (List (ℕ × Term V)) → List (Assertion V TreeSlot)
node_network (n, lists) = entries_at (at_node n own_part) lists.own ++ entries_at (at_node n top_part) lists.top ++ entries_at (at_node n bottom_part) lists.bottom

-- the network of a tree's lists
abbrev pub tree_network : {V Y : Type 0} → Decorated (List (ℕ × Term V)) Y → List (Assertion V TreeSlot)
tree_network t = gathered node_network (labels (numbered 0 t.nodes)) ++ entries_at at_interface t.interface

-- the tree with the slots in place of its lists
abbrev pub slotted : {X Y : Type 0} → Decorated X Y → Decorated TreeSlot Y
slotted t = record { nodes = map_forest (λ p. slots_at p.0) (numbered 0 t.nodes); interface = at_interface; literals = t.literals }
