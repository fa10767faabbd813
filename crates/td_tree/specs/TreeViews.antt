-- The trees of the code, read as decorated trees at numbers.
use Rattle.std.specs.Prelude.{ℕ, List}
use Rattle.gr_base.specs.Forests.{Forest, map_forest}
use Rattle.gr_terms.specs.Networks.{Term}
use Rattle.gr_terms.specs.Canonical.{Node, Decorated}
use Rattle.gr_terms.specs.BagViews.{pairs_of}
use Rattle.gr_terms.specs.LiteralViews.{literals_of}
use Rattle.td_tree.specs.Trees.{BagPairs}
use Rattle.td_tree.specs.declared.Tree.{Tree}

-- attributes with their values, by rising number
abbrev pub Pairs : Type 0
Pairs = List (ℕ × Term ℕ)

-- the lists of a node
abbrev pub lists_of : Node BagPairs → Node Pairs
lists_of b = record { own = pairs_of b.own; top = pairs_of b.top; bottom = pairs_of b.bottom }

-- the decorated tree of a tree whose nodes are those of the forest
abbrev pub decorated_of : Forest (Node BagPairs) → Tree → Decorated Pairs (Term ℕ)
decorated_of f t = record { nodes = map_forest lists_of f; interface = pairs_of t.iface; literals = literals_of t.sem }
