-- What the trees of the tests are.
use Rattle.std.specs.Prelude.{◌≡◌, ℕ, suc, ◌+◌, ◌<◌, ◌≤◌, Bool, true, false, List, [], ◌∷◌, ◌++◌, length, Some, None, refl}
use Rattle.std.specs.Bool.{OnFalse, OnTrue}
use Rattle.std.proofs.Common.{ap, sym, ◌∙◌, subst, arith, append-nil, length-append}
use Rattle.gr_base.specs.Lists.{Each}
use Rattle.gr_base.specs.Forests.{Forest, empty, tree}
use Rattle.gr_base.proofs.ListLemmas.{Each-append, Each-middle}
use Rattle.gr_terms.specs.Bags.{Puts}
use Rattle.gr_terms.specs.Canonical.{Node}
use Rattle.gr_terms.specs.declared.Sym.{Sym}
use Rattle.gr_terms.specs.declared.Term.{Term as Value}
use Rattle.td_tree.specs.Trees.{AreTreeNodes, BagPairs, node_of, preorder}
use Rattle.td_tree.specs.declared.TreeNode.{TreeNode}
use Rattle.td_canon.specs.CanonicalTexts.{IsNamedBag, IsNamedTerm}

-- a bag with one more named pair, or as it was
pub named_put : (count : ℕ) (added : Bool) (old new : BagPairs) (attr : Sym) (value : Value) → attr.0 < count → IsNamedTerm count value → IsNamedBag count old → OnTrue added (Puts old new (attr, value)) → OnFalse added (new ≡ old) →
    IsNamedBag count new
named_put count true old new attr value a v named puts same =
    subst (λ ps. IsNamedBag count ps) (sym puts.3)
    (Each-middle (λ (p : Sym × Value). (p.0.0 < count) × IsNamedTerm count p.1) puts.0 puts.1 (attr, value) (subst (λ ps. IsNamedBag count ps) puts.2 named) (a, v))
named_put count false old new attr value a v named puts same = subst (λ ps. IsNamedBag count ps) (sym same) named

-- ---- a root and leaves

abbrev leaves_forest : List TreeNode → Forest (Node BagPairs)
leaves_forest [] = empty
leaves_forest (x ∷ xs) = tree (record { own = x.own; top = x.top; bottom = x.bot }) empty (leaves_forest xs)

leaves_preorder : (n : ℕ) (xs : List TreeNode) → Each (λ (x : TreeNode). x.parent ≡ Some 0) xs → preorder n (Some 0) (leaves_forest xs) ≡ xs
leaves_preorder n [] each = refl
leaves_preorder n (x ∷ xs) each =
    let parent : x.parent ≡ Some 0 = each.0 in
    let rest = leaves_preorder (suc n + 0) xs each.1 in
    λ i. record { parent = sym parent i; own = x.own; top = x.top; bot = x.bot } ∷ rest i

pub record IsFamily (nodes : List TreeNode) : Type 0 where
  pub root : TreeNode
  pub leaves : List TreeNode
  pub are : nodes ≡ root ∷ leaves
  pub no_parent : root.parent ≡ None
  pub under_root : Each (λ (x : TreeNode). x.parent ≡ Some 0) leaves
  pub few : length nodes ≤ 24

pub IsFamily-root : (nodes : List TreeNode) (root : TreeNode) → nodes ≡ root ∷ [] → root.parent ≡ None → IsFamily nodes
IsFamily-root nodes root are no_parent =
    let count : length nodes ≡ 1 = ap length are in
    record { root = root; leaves = []; are = are; no_parent = no_parent; under_root = tt; few = omega arith }

pub IsFamily-leaf : (old new : List TreeNode) (leaf : TreeNode) → new ≡ old ++ leaf ∷ [] → leaf.parent ≡ Some 0 → length old < 24 → IsFamily old → IsFamily new
IsFamily-leaf old new leaf new_is parent room f =
    let count : length new ≡ length old + 1 = ap length new_is ∙ length-append old (leaf ∷ []) in
    record {
      root = f.root;
      leaves = f.leaves ++ leaf ∷ [];
      are = new_is ∙ ap (λ xs. xs ++ leaf ∷ []) f.are;
      no_parent = f.no_parent;
      under_root = Each-append (λ (x : TreeNode). x.parent ≡ Some 0) f.leaves (leaf ∷ []) f.under_root (parent, tt);
      few = omega arith;
    }

pub IsFamily-tree : (nodes : List TreeNode) → IsFamily nodes → AreTreeNodes nodes
IsFamily-tree nodes f =
    let bags : Node BagPairs = record { own = f.root.own; top = f.root.top; bottom = f.root.bot } in
    let parent : f.root.parent ≡ None = f.no_parent in
    let root : f.root ≡ node_of None bags = λ i. record { parent = parent i; own = f.root.own; top = f.root.top; bot = f.root.bot } in
    record {
      forest = tree bags (leaves_forest f.leaves) empty;
      one = tt;
      few = f.few;
      laid =
          f.are
          ∙ ap (λ x. x ∷ f.leaves) root
          ∙ ap (λ xs. node_of None bags ∷ xs) (sym (leaves_preorder 1 f.leaves f.under_root))
          ∙ sym (append-nil (node_of None bags ∷ preorder 1 (Some 0) (leaves_forest f.leaves)));
    }
