-- Trees and entries whose variables have numbers below a count.
use Rattle.std.specs.Prelude.{ℕ, ◌+◌, ◌≤◌, List, length}
use Rattle.gr_base.specs.Lists.{Each}
use Rattle.gr_terms.specs.declared.Literal.{Literal}
use Rattle.gr_store.specs.Contents.{IsMade}
use Rattle.td_tree.specs.Trees.{BagPairs}
use Rattle.td_tree.specs.declared.Tree.{Tree}
use Rattle.td_tree.specs.declared.TreeNode.{TreeNode}
use Rattle.td_canon.specs.TreeSets.{trees_of}
use Rattle.td_canon.specs.declared.tree_set.ClassTrees.{ClassTrees}
use Rattle.lx_lexicon.specs.declared.entry.Entry.{Entry}

abbrev pub IsBagBelow : ℕ → BagPairs → Type 0
IsBagBelow count pairs = Each (λ p. IsMade count p.1) pairs

pub record IsLiteralBelow (count : ℕ) (l : Literal) : Type 0 where
  pub handle : IsMade count l.handle
  pub pred : IsMade count l.pred
  pub args : Each (IsMade count) l.args

pub record IsNodeBelow (count : ℕ) (n : TreeNode) : Type 0 where
  pub own : IsBagBelow count n.own
  pub top : IsBagBelow count n.top
  pub bot : IsBagBelow count n.bot

pub record IsTreeBelow (count : ℕ) (t : Tree) : Type 0 where
  pub nodes : Each (IsNodeBelow count) t.nodes
  pub iface : IsBagBelow count t.iface
  pub sem : Each (IsLiteralBelow count) t.sem

abbrev pub IsClassBelow : ℕ → ClassTrees → Type 0
IsClassBelow count c = Each (IsTreeBelow count) (trees_of c.trees)

abbrev pub AreClassesBelow : ℕ → List ClassTrees → Type 0
AreClassesBelow count classes = Each (IsClassBelow count) classes

pub record IsEntryBelow (count : ℕ) (e : Entry) : Type 0 where
  pub iface : IsBagBelow count e.iface
  pub anchor : IsBagBelow count e.anchor
  pub sem : Each (IsLiteralBelow count) e.sem

-- the interface and the features of the anchor have at most so many pairs
abbrev pub HasFewFeatures : ℕ → Entry → Type 0
HasFewFeatures count e = length e.iface + length e.anchor ≤ count
