-- Marks that are names. A mark that is a variable is none in the tree, but could become one by what a tree's terms are equated with.
use Rattle.std.specs.Prelude.{◌≡◌, ℕ, List, Some}
use Rattle.gr_base.specs.Lists.{Each}
use Rattle.gr_terms.specs.Canonical.{Node}
use Rattle.gr_terms.specs.Constants.{MARK}
use Rattle.gr_terms.specs.Networks.{variable}
use Rattle.td_tree.specs.TreeViews.{Pairs}
use Rattle.td_tree.specs.declared.Tree.{Tree}
use Rattle.td_canon.specs.TreeSets.{trees_of}
use Rattle.td_canon.specs.declared.tree_set.ClassTrees.{ClassTrees}
use Rattle.tg_grammar.specs.Marks.{node_lists, value_of}

-- the node has no variable as its mark
abbrev pub IsNamedMark : Node Pairs → Type 0
IsNamedMark n = (v : ℕ) → value_of n.own MARK ≡ Some (variable v) → ⊥

-- no node of the tree has
abbrev pub HasNamedMarks : Tree → Type 0
HasNamedMarks t = Each IsNamedMark (node_lists t.nodes)

-- no node of any tree of the classes has
abbrev pub HaveNamedMarks : List ClassTrees → Type 0
HaveNamedMarks classes = Each (λ c. Each HasNamedMarks (trees_of c.trees)) classes
