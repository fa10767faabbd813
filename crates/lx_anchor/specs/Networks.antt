-- The network of a tree and an entry: the variables of the two are kept apart, their interfaces are linked, and the entry's features of the
-- anchor are linked with the bottom of the tree's anchor.
use Rattle.std.specs.Prelude.{ℕ, List, [], ◌∷◌, ◌++◌, map}
use Rattle.gr_base.specs.Lists.{gathered}
use Rattle.gr_base.specs.Forests.{Forest, map_forest}
use Rattle.gr_terms.specs.BagViews.{pairs_of}
use Rattle.gr_terms.specs.Canonical.{Node, Decorated, map_literal}
use Rattle.gr_terms.specs.Constants.{ANCHOR}
use Rattle.gr_terms.specs.LiteralViews.{literals_of}
use Rattle.gr_terms.specs.Networks.{Term, Assertion, variable, link, put_network, put_term}
use Rattle.td_tree.specs.Trees.{BagPairs}
use Rattle.td_tree.specs.TreeNetworks.{TreeSlot, at_node, at_interface, bottom_part, entries_at, slotted, tree_network}
use Rattle.td_tree.specs.TreeViews.{decorated_of}
use Rattle.td_tree.specs.declared.Tree.{Tree}
use Rattle.tg_grammar.specs.Marks.{marked, node_lists}
use Rattle.lx_lexicon.specs.declared.entry.Entry.{Entry}

-- a variable of the tree, or one of the entry
pub data Variable : Type 0 where
  of_tree : ℕ → Variable
  of_entry : ℕ → Variable

-- a slot of the tree, the entry's interface, or the slot of the entry's features of the anchor
pub data Slot : Type 0 where
  in_tree : TreeSlot → Slot
  entry_interface : Slot
  entry_anchor : Slot

-- a term of the tree, and one of the entry
abbrev pub tree_term : Term ℕ → Term Variable
tree_term x = put_term (λ v. variable (of_tree v)) x

abbrev pub entry_term : Term ℕ → Term Variable
entry_term x = put_term (λ v. variable (of_entry v)) x

-- the pairs of a bag of the entry
abbrev pub entry_pairs : BagPairs → List (ℕ × Term Variable)
entry_pairs bag = map (λ p. (p.0, entry_term p.1)) (pairs_of bag)

-- the entry's features of the anchor are those of the bottom of node number n
abbrev pub anchor_link : ℕ → List (Assertion Variable Slot)
anchor_link n = link (in_tree (at_node n bottom_part)) entry_anchor ∷ []

-- a node's slots as slots of the tree
abbrev pub slots_in : Node TreeSlot → Node Slot
slots_in n = record { own = in_tree n.own; top = in_tree n.top; bottom = in_tree n.bottom }

module _ (f : Forest (Node BagPairs)) (t : Tree) (e : Entry) where
  -- the network of the tree whose nodes are those of the forest, and the entry
  abbrev pub anchored_network : List (Assertion Variable Slot)
  anchored_network =
      put_network (λ v. variable (of_tree v)) in_tree (tree_network (decorated_of f t))
      ++ entries_at entry_interface (entry_pairs e.iface)
      ++ entries_at entry_anchor (entry_pairs e.anchor)
      ++ link (in_tree at_interface) entry_interface ∷ gathered anchor_link (marked ANCHOR (node_lists t.nodes))

  -- the tree with its slots, and with its literals and then those of the entry
  abbrev pub anchored_tree : Decorated Slot (Term Variable)
  anchored_tree = record {
    nodes = map_forest slots_in (slotted (decorated_of f t)).nodes;
    interface = in_tree at_interface;
    literals = map (map_literal tree_term) (literals_of t.sem) ++ map (map_literal entry_term) (literals_of e.sem);
  }
