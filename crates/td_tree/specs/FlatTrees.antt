-- Trees by the list of their nodes alone: the lists of each node, the forest that the nodes are laid out from, and the network. A tree's
-- nodes fix all of these, so no forest has to be given beside them.
use Rattle.std.specs.Prelude.{ℕ, suc, List, [], ◌∷◌, ◌++◌, map, if◌then◌else◌}
use Rattle.gr_base.specs.Lists.{gathered}
use Rattle.gr_base.specs.Forests.{Forest, empty, tree, map_forest}
use Rattle.gr_terms.specs.BagViews.{pairs_of}
use Rattle.gr_terms.specs.Canonical.{Node}
use Rattle.gr_terms.specs.Networks.{Assertion}
use Rattle.td_tree.specs.Trees.{BagPairs, is_parent}
use Rattle.td_tree.specs.TreeNetworks.{TreeSlot, at_interface, entries_at, node_network}
use Rattle.td_tree.specs.TreeViews.{Pairs, lists_of}
use Rattle.td_tree.specs.declared.Tree.{Tree}
use Rattle.td_tree.specs.declared.TreeNode.{TreeNode}

-- the bags of a node
abbrev pub bags_of : TreeNode → Node BagPairs
bags_of x = record { own = x.own; top = x.top; bottom = x.bot }

-- the lists of a node
abbrev pub lists_at : TreeNode → Node Pairs
lists_at x = record { own = pairs_of x.own; top = pairs_of x.top; bottom = pairs_of x.bot }

-- the lists of several nodes
abbrev pub node_lists : List TreeNode → List (Node Pairs)
node_lists nodes = map lists_at nodes

-- the first trees that stand under node number n, and those behind them
abbrev pub trees_under : ℕ → Forest TreeNode → Forest TreeNode
trees_under n empty = empty
trees_under n (tree x kids more) = if is_parent x.parent n then tree x kids (trees_under n more) else empty

abbrev pub trees_behind : ℕ → Forest TreeNode → Forest TreeNode
trees_behind n empty = empty
trees_behind n (tree x kids more) = if is_parent x.parent n then trees_behind n more else tree x kids more

-- the forest of nodes in preorder, numbered from n on: a node's children are the trees right behind it that stand under it
abbrev pub grown : ℕ → List TreeNode → Forest TreeNode
grown n [] = empty
grown n (x ∷ xs) = tree x (trees_under n (grown (suc n) xs)) (trees_behind n (grown (suc n) xs))

-- the forest that a tree's nodes are laid out from
abbrev pub forest_of : List TreeNode → Forest (Node BagPairs)
forest_of nodes = map_forest bags_of (grown 0 nodes)

-- the same with the lists of the nodes
abbrev pub forest_in : List TreeNode → Forest (Node Pairs)
forest_in nodes = map_forest lists_of (forest_of nodes)

-- each element with its number, of which the first is n
abbrev pub count_from : {A : Type 0} → ℕ → List A → List (ℕ × A)
count_from n [] = []
count_from n (x ∷ xs) = (n, x) ∷ count_from (suc n) xs

-- the network of a tree's lists
abbrev pub listed_network : Tree → List (Assertion ℕ TreeSlot)
listed_network t = gathered node_network (count_from 0 (node_lists t.nodes)) ++ entries_at at_interface (pairs_of t.iface)
