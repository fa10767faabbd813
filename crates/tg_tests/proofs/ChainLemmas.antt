-- What the trees of the tests are.
use Rattle.std.specs.Prelude.{◌≡◌, List, [], ◌∷◌, length, Some, None}
use Rattle.std.proofs.Common.{ap, ◌∙◌, arith}
use Rattle.gr_base.specs.Forests.{empty, tree}
use Rattle.gr_terms.specs.Canonical.{Node}
use Rattle.td_tree.specs.Trees.{AreTreeNodes, BagPairs}
use Rattle.td_tree.specs.declared.TreeNode.{TreeNode}

bags_of : TreeNode → Node BagPairs
bags_of x = record { own = x.own; top = x.top; bottom = x.bot }

-- a root with one child, which has one child
pub chain_nodes : (nodes : List TreeNode) (x y z : TreeNode) → nodes ≡ x ∷ y ∷ z ∷ [] → x.parent ≡ None → y.parent ≡ Some 0 → z.parent ≡ Some 1 → AreTreeNodes nodes
unfolding bags_of
chain_nodes nodes x y z are p q r = record {
  forest = tree (bags_of x) (tree (bags_of y) (tree (bags_of z) empty empty) empty) empty;
  one = tt;
  few = let count : length nodes ≡ 3 = ap length are in omega arith;
  laid =
      are
      ∙ (λ i. record { parent = p i; own = x.own; top = x.top; bot = x.bot } ∷ record { parent = q i; own = y.own; top = y.top; bot = y.bot }
      ∷ record { parent = r i; own = z.own; top = z.top; bot = z.bot } ∷ []);
}
