-- Small trees and descriptions of the tests are such.
use Rattle.std.specs.Prelude.{◌≡◌, ℕ, ◌≤◌, List, [], ◌∷◌, ◌++◌, length, Option, Some, None, refl}
use Rattle.std.proofs.Common.{ap, ap₂, sym, ◌∙◌, subst, arith}
use Rattle.gr_base.specs.Lists.{Each}
use Rattle.gr_base.specs.Forests.{Forest, empty, tree}
use Rattle.gr_base.proofs.ListLemmas.{Each-append}
use Rattle.gr_terms.specs.Canonical.{Node}
use Rattle.td_desc.specs.declared.Colour.{Colour}
use Rattle.td_desc.specs.declared.Colour.TheVariants.{Black, White, Red}
use Rattle.td_desc.specs.declared.DescribedNode.{DescribedNode}
use Rattle.td_desc.specs.Conditions.{InSearchOrder}
use Rattle.td_tree.specs.Trees.{BagPairs, AreTreeNodes, node_of, preorder}
use Rattle.td_tree.specs.declared.TreeNode.{TreeNode}

abbrev bags_of : TreeNode → Node BagPairs
bags_of n = record { own = n.own; top = n.top; bottom = n.bot }

is_node : (n : TreeNode) (p : Option ℕ) → n.parent ≡ p → n ≡ node_of p (bags_of n)
is_node n p e = ap (λ (q : Option ℕ). node_of q (bags_of n)) e

-- a root with one leaf, and with two
pub two_nodes : (a b : TreeNode) → a.parent ≡ None → b.parent ≡ Some 0 → AreTreeNodes (a ∷ b ∷ [])
two_nodes a b p q = record {
  forest = tree (bags_of a) (tree (bags_of b) empty empty) empty;
  one = tt;
  few = omega arith;
  laid = ap₂ (λ x y. x ∷ y ∷ []) (is_node a None p) (is_node b (Some 0) q);
}

pub three_nodes : (a b c : TreeNode) → a.parent ≡ None → b.parent ≡ Some 0 → c.parent ≡ Some 0 → AreTreeNodes (a ∷ b ∷ c ∷ [])
three_nodes a b c p q r = record {
  forest = tree (bags_of a) (tree (bags_of b) empty (tree (bags_of c) empty empty)) empty;
  one = tt;
  few = omega arith;
  laid = ap₂ (λ x ys. x ∷ ys) (is_node a None p) (ap₂ (λ y z. y ∷ z ∷ []) (is_node b (Some 0) q) (is_node c (Some 0) r));
}

-- two blacks and a third node stand in search order
pub in_order : (a b c : DescribedNode) → a.colour ≡ Black → b.colour ≡ Black → InSearchOrder (a ∷ b ∷ c ∷ [])
in_order a b c p q = by c.colour refl
  where
    by : (k : Colour) → c.colour ≡ k → InSearchOrder (a ∷ b ∷ c ∷ [])
    by Black e = record { blacks = a ∷ b ∷ c ∷ []; whites = []; reds = []; parts = refl; are_black = (p, (q, (e, tt))); are_white = tt; are_red = tt }
    by White e = record { blacks = a ∷ b ∷ []; whites = c ∷ []; reds = []; parts = refl; are_black = (p, (q, tt)); are_white = (e, tt); are_red = tt }
    by Red e = record { blacks = a ∷ b ∷ []; whites = []; reds = c ∷ []; parts = refl; are_black = (p, (q, tt)); are_white = tt; are_red = (e, tt) }

-- lists that were pushed
pub pushed_two : {A : Type 0} (xs ys zs : List A) (a b : A) → xs ≡ [] → ys ≡ xs ++ a ∷ [] → zs ≡ ys ++ b ∷ [] → zs ≡ a ∷ b ∷ []
pushed_two xs ys zs a b e f g = g ∙ ap (λ w. w ++ b ∷ []) (f ∙ ap (λ w. w ++ a ∷ []) e)

pub pushed_three : {A : Type 0} (xs ys zs ws : List A) (a b c : A) → xs ≡ [] → ys ≡ xs ++ a ∷ [] → zs ≡ ys ++ b ∷ [] → ws ≡ zs ++ c ∷ [] → ws ≡ a ∷ b ∷ c ∷ []
pushed_three xs ys zs ws a b c e f g h = h ∙ ap (λ w. w ++ c ∷ []) (pushed_two xs ys zs a b e f g)

pub each_none : {A : Type 0} (P : A → Type 0) (xs : List A) → xs ≡ [] → Each P xs
each_none P xs e = subst (λ z. Each P z) (sym e) tt

pub each_pushed : {A : Type 0} (P : A → Type 0) (xs ys : List A) (x : A) → ys ≡ xs ++ x ∷ [] → Each P xs → P x → Each P ys
each_pushed P xs ys x e all here = subst (λ z. Each P z) (sym e) (Each-append P xs (x ∷ []) all (here, tt))
