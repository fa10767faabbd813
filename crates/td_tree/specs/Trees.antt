-- The nodes of a tree as a list: in preorder, each with the number of its parent.
use Rattle.std.specs.Prelude.{◌≡◌, ℕ, suc, ◌+◌, ◌<◌, ◌≤◌, List, [], ◌∷◌, ◌++◌, length, Bool, false, ◌==◌, if◌then◌else◌, ⊤, Option, Some, None}
use Rattle.gr_base.specs.Forests.{Forest, empty, tree, IsOneTree, size}
use Rattle.gr_base.specs.Lists.{Each}
use Rattle.gr_terms.specs.Bags.{IsListed}
use Rattle.gr_terms.specs.Canonical.{Node}
use Rattle.gr_terms.specs.declared.Sym.{Sym}
use Rattle.gr_terms.specs.declared.Term.{Term}
use Rattle.td_tree.specs.declared.Tree.{Tree}
use Rattle.td_tree.specs.declared.TreeNode.{TreeNode}

-- what a bag is seen as
abbrev pub BagPairs : Type 0
BagPairs = List (Sym × Term)

-- the node with this parent and these three bags
abbrev pub node_of : Option ℕ → Node BagPairs → TreeNode
node_of parent b = record { parent = parent; own = b.own; top = b.top; bot = b.bottom }

-- the nodes of trees side by side in preorder, from number n on, under a parent: a node, those of its children under it, and then
-- those of the trees to the right
abbrev pub preorder : ℕ → Option ℕ → Forest (Node BagPairs) → List TreeNode
preorder n parent empty = []
preorder n parent (tree b kids more) = node_of parent b ∷ preorder (suc n) (Some n) kids ++ preorder (suc n + size kids) parent more

-- the nodes are those of one tree in preorder, counted from 0, and at most 24; its root has no parent
pub record AreTreeNodes (nodes : List TreeNode) : Type 0 where
  pub forest : Forest (Node BagPairs)
  pub one : IsOneTree forest
  pub few : length nodes ≤ 24
  pub laid : nodes ≡ preorder 0 None forest

-- each bag has its attributes by rising number, as all bags of the code do
pub record IsListedNode (n : TreeNode) : Type 0 where
  pub own : IsListed n.own
  pub top : IsListed n.top
  pub bot : IsListed n.bot

-- so has each bag of the tree
pub record HasListedBags (t : Tree) : Type 0 where
  pub nodes : Each IsListedNode t.nodes
  pub iface : IsListed t.iface

-- whether the node stands under node number `parent`
abbrev pub is_parent : Option ℕ → ℕ → Bool
is_parent None parent = false
is_parent (Some p) parent = p == parent

-- the numbers of the nodes under node number `parent`, of nodes that are numbered from n on
abbrev pub children_from : ℕ → ℕ → List TreeNode → List ℕ
children_from n parent [] = []
children_from n parent (x ∷ xs) = if is_parent x.parent parent then (n ∷ children_from (suc n) parent xs) else children_from (suc n) parent xs

-- the numbers of a node's children, which rise from left to right
abbrev pub children_of : List TreeNode → ℕ → List ℕ
children_of nodes parent = children_from 0 parent nodes

-- the first of the nodes, if one is there, is a root or stands under a node before number n
abbrev pub BeginsAbove : ℕ → List TreeNode → Type 0
BeginsAbove n [] = ⊤
BeginsAbove n (x ∷ xs) = (p : ℕ) → x.parent ≡ Some p → p < n
