-- Trees whose variables are numbered densely, by where they first stand.
use Rattle.std.specs.Prelude.{◌≡◌, ℕ, ◌<◌, List, ◌∷◌, ◌++◌, map}
use Rattle.gr_base.specs.Lists.{IsAmong, gathered}
use Rattle.gr_terms.specs.declared.Literal.{Literal}
use Rattle.gr_terms.specs.declared.Term.{Term}
use Rattle.gr_terms.specs.declared.Term.TheVariants.{Var}
use Rattle.td_tree.specs.Trees.{BagPairs}
use Rattle.td_tree.specs.declared.Tree.{Tree}
use Rattle.td_tree.specs.declared.TreeNode.{TreeNode}

abbrev pub bag_terms : BagPairs → List Term
bag_terms bag = map (λ p. p.1) bag

abbrev pub node_terms : TreeNode → List Term
node_terms x = bag_terms x.own ++ bag_terms x.top ++ bag_terms x.bot

abbrev pub literal_terms : Literal → List Term
literal_terms l = l.handle ∷ l.pred ∷ l.args

-- the terms of a tree in the order in which they stand: those of each node, then those of the interface, then those of each literal
abbrev pub tree_terms : Tree → List Term
tree_terms t = gathered node_terms t.nodes ++ bag_terms t.iface ++ gathered literal_terms t.sem

-- The variables are 0, 1, .. in the order in which they first stand: before each variable stand all of lower numbers
abbrev pub IsDense : Tree → Type 0
IsDense t = (before after : List Term) (v w : ℕ) → tree_terms t ≡ before ++ Var v ∷ after → w < v → IsAmong before (Var w)
