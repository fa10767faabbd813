-- Nodes in preorder: how many they are, where their parents stand, and that they fix the forest.
use Rattle.std.specs.Prelude.{◌≡◌, ℕ, zero, suc, ◌+◌, ◌<◌, ◌≤◌, List, [], ◌∷◌, ◌++◌, length, slice_get, ◌⊎◌, ◌↔◌, ⊤, Option, Some, None, refl}
use Rattle.std.proofs.Common.{inl, inr, ap, ap₂, sym, ◌∙◌, subst, arith, append_assoc, length-append}
use Rattle.std.proofs.lemmas.List.{append-nil}
use Rattle.std.proofs.lemmas.Option.{none-some, same_Some}
use Rattle.gr_base.specs.Forests.{Forest, empty, tree, IsOneTree, size}
use Rattle.gr_base.proofs.ListLemmas.{same_head, same_tail}
use Rattle.gr_terms.specs.Canonical.{Node}
use Rattle.td_tree.specs.Trees.{BagPairs, AreTreeNodes, BeginsAbove, node_of, preorder}
use Rattle.td_tree.specs.declared.TreeNode.{TreeNode}

-- as many nodes as the forest has
pub length-preorder : (n : ℕ) (parent : Option ℕ) (f : Forest (Node BagPairs)) → length (preorder n parent f) ≡ size f
length-preorder n parent empty = refl
length-preorder n parent (tree b kids more) =
    ap suc (length-append (preorder (suc n) (Some n) kids) (preorder (suc n + size kids) parent more)
    ∙ ap₂ (λ i j. i + j) (length-preorder (suc n) (Some n) kids) (length-preorder (suc n + size kids) parent more))

-- the parent of a node that has number n is `parent`, or a node from number `low` on and before n
abbrev pub FitsParent : Option ℕ → ℕ → ℕ → TreeNode → Type 0
FitsParent parent low n x = (x.parent ≡ parent) ⊎ ((p : ℕ) × (x.parent ≡ Some p) × (low ≤ p) × (p < n))

-- so for nodes that are numbered from n on
abbrev pub FitParents : Option ℕ → ℕ → ℕ → List TreeNode → Type 0
FitParents parent low n [] = ⊤
FitParents parent low n (x ∷ xs) = FitsParent parent low n x × FitParents parent low (suc n) xs

FitParents-append : (parent : Option ℕ) (low n k : ℕ) (xs ys : List TreeNode) → k ≡ n + length xs → FitParents parent low n xs → FitParents parent low k ys → FitParents parent low n (xs ++ ys)
FitParents-append parent low n k [] ys e a b = subst (λ m. FitParents parent low m ys) (omega arith) b
FitParents-append parent low n k (x ∷ xs) ys e a b = (a.0, FitParents-append parent low (suc n) k xs ys (omega arith) a.1 b)

-- what stands under node m, or under later ones, stands from m on
FitParents-under : (parent : Option ℕ) (low m n : ℕ) (xs : List TreeNode) → low ≤ m → m < n → FitParents (Some m) (suc m) n xs → FitParents parent low n xs
FitParents-under parent low m n [] le lt h = tt
FitParents-under parent low m n (x ∷ xs) le lt h = (
  elim h.0 [
    | inl e ↦ inr (m, e, le, lt)
    | inr r ↦ let a : suc m ≤ r.0 = r.2 in inr (r.0, r.1, omega arith, r.3)
  ],
  FitParents-under parent low m (suc n) xs le (omega arith) h.1,
)

pub FitParents-preorder : (n low : ℕ) (parent : Option ℕ) (f : Forest (Node BagPairs)) → low ≤ n → FitParents parent low n (preorder n parent f)
FitParents-preorder n low parent empty le = tt
FitParents-preorder n low parent (tree b kids more) le =
    let count : length (preorder (suc n) (Some n) kids) ≡ size kids = length-preorder (suc n) (Some n) kids in (
      inl refl,
      FitParents-append parent low (suc n) (suc n + size kids) (preorder (suc n) (Some n) kids) (preorder (suc n + size kids) parent more) (omega arith)
          (FitParents-under parent low n (suc n) (preorder (suc n) (Some n) kids) le (omega arith) (FitParents-preorder (suc n) (suc n) (Some n) kids (omega arith)))
          (FitParents-preorder (suc n + size kids) low parent more (omega arith)),
    )

FitParents-at : (parent : Option ℕ) (low n i : ℕ) (xs : List TreeNode) (x : TreeNode) → FitParents parent low n xs → slice_get xs i ≡ Some x → FitsParent parent low (n + i) x
FitParents-at parent low n i [] x h at = absurd (none-some x at)
FitParents-at parent low n zero (y ∷ ys) x h at = subst (λ m. FitsParent parent low m x) (omega arith) (subst (λ z. FitsParent parent low n z) (same_Some y x at) h.0)
FitParents-at parent low n (suc i) (y ∷ ys) x h at = subst (λ m. FitsParent parent low m x) (omega arith) (FitParents-at parent low (suc n) i ys x h.1 at)

-- ---- a tree's nodes

-- the nodes are its root's, which has no parent, and nodes under it
pub record HasRoot (nodes : List TreeNode) : Type 0 where
  pub bags : Node BagPairs
  pub kids : Forest (Node BagPairs)
  pub are : nodes ≡ node_of None bags ∷ preorder 1 (Some 0) kids

pub has_root : (nodes : List TreeNode) → AreTreeNodes nodes → HasRoot nodes
has_root nodes t = by t.forest t.one t.laid
  where
    by : (f : Forest (Node BagPairs)) → IsOneTree f → nodes ≡ preorder 0 None f → HasRoot nodes
    by empty one laid = absurd one
    by (tree b kids empty) one laid = record { bags = b; kids = kids; are = laid ∙ append-nil (node_of None b ∷ preorder 1 (Some 0) kids) }
    by (tree b kids (tree c others more)) one laid = absurd one

pub some_node : (nodes : List TreeNode) → AreTreeNodes nodes → 0 < length nodes
some_node nodes t = let e : length nodes ≡ suc (length (preorder 1 (Some 0) (has_root nodes t).kids)) = ap length (has_root nodes t).are in omega arith

pub no_parent_of_root : (nodes : List TreeNode) → AreTreeNodes nodes → (i : ℕ) (x : TreeNode) → slice_get nodes i ≡ Some x → (x.parent ≡ None) ↔ (i ≡ 0)
no_parent_of_root nodes t i x at = by i (subst (λ xs. slice_get xs i ≡ Some x) (has_root nodes t).are at)
  where
    by : (i : ℕ) → slice_get (node_of None (has_root nodes t).bags ∷ preorder 1 (Some 0) (has_root nodes t).kids) i ≡ Some x → (x.parent ≡ None) ↔ (i ≡ 0)
    by zero at = (λ _. refl, λ _. ap (λ y. y.parent) (sym (same_Some (node_of None (has_root nodes t).bags) x at)))
    by (suc i) at =
        let fits = FitParents-at (Some 0) 1 1 i (preorder 1 (Some 0) (has_root nodes t).kids) x (FitParents-preorder 1 1 (Some 0) (has_root nodes t).kids (omega arith)) at in (
          λ none. absurd (elim fits [ inl e ↦ none-some 0 (sym none ∙ e) | inr r ↦ none-some r.0 (sym none ∙ r.1) ]),
          λ e. absurd (omega arith),
        )

pub parent_before : (nodes : List TreeNode) → AreTreeNodes nodes → (i p : ℕ) (x : TreeNode) → slice_get nodes i ≡ Some x → x.parent ≡ Some p → p < i
parent_before nodes t i p x at under =
    elim (FitParents-at None 0 0 i nodes x (subst (λ xs. FitParents None 0 0 xs) (sym t.laid) (FitParents-preorder 0 0 None t.forest (omega arith))) at) [
      | inl e ↦ absurd (none-some p (sym e ∙ under))
      | inr r ↦ let same : r.0 ≡ p = same_Some r.0 p (sym r.1 ∙ under) in let h : r.0 < 0 + i = r.3 in omega arith
    ]

-- ---- the nodes fix the forest

-- the first of the nodes is there and has this parent
abbrev BeginsUnder : Option ℕ → List TreeNode → Type 0
BeginsUnder parent [] = ⊥
BeginsUnder parent (x ∷ xs) = x.parent ≡ parent

-- a parent stands before number n
abbrev pub IsBelow : ℕ → Option ℕ → Type 0
IsBelow n parent = (p : ℕ) → parent ≡ Some p → p < n

pub begins_above : (n k : ℕ) (parent : Option ℕ) (more : Forest (Node BagPairs)) (rest : List TreeNode) → IsBelow n parent → BeginsAbove n rest → BeginsAbove n (preorder k parent more ++ rest)
begins_above n k parent empty rest below above = above
begins_above n k parent (tree b kids more) rest below above = below

pub above_later : (n k : ℕ) (rest : List TreeNode) → n ≤ k → BeginsAbove n rest → BeginsAbove k rest
above_later n k [] le above = tt
above_later n k (x ∷ rest) le above = λ p e. let h : p < n = above p e in omega arith

not_under : (n : ℕ) (rest : List TreeNode) → BeginsAbove n rest → BeginsUnder (Some n) rest → ⊥
not_under n [] above under = under
not_under n (x ∷ rest) above under = let h : n < n = above n under in omega arith

-- two forests with the same nodes in preorder, before nodes that do not stand under the parent, are one
pub preorder-apart : (n : ℕ) (parent : Option ℕ) (f g : Forest (Node BagPairs)) (r s : List TreeNode) → IsBelow n parent →
    BeginsAbove n r → BeginsAbove n s → (BeginsUnder parent r → ⊥) → (BeginsUnder parent s → ⊥) →
    preorder n parent f ++ r ≡ preorder n parent g ++ s → (f ≡ g) × (r ≡ s)
preorder-apart n parent empty empty r s below ra sa ru su e = (refl, e)
preorder-apart n parent empty (tree c others rest) r s below ra sa ru su e = absurd (ru (subst (λ xs. BeginsUnder parent xs) (sym e) refl))
preorder-apart n parent (tree b kids more) empty r s below ra sa ru su e = absurd (su (subst (λ xs. BeginsUnder parent xs) e refl))
preorder-apart n parent (tree b kids more) (tree c others rest) r s below ra sa ru su e =
    let left = preorder (suc n + size kids) parent more ++ r in
    let right = preorder (suc n + size others) parent rest ++ s in
    let split : node_of parent b ∷ (preorder (suc n) (Some n) kids ++ left) ≡ node_of parent c ∷ (preorder (suc n) (Some n) others ++ right) =
    sym (append_assoc (node_of parent b ∷ preorder (suc n) (Some n) kids) (preorder (suc n + size kids) parent more) r)
    ∙ e
    ∙ append_assoc (node_of parent c ∷ preorder (suc n) (Some n) others) (preorder (suc n + size others) parent rest) s
    in
    let la : BeginsAbove n left = begins_above n (suc n + size kids) parent more r below ra in
    let lb : BeginsAbove n right = begins_above n (suc n + size others) parent rest s below sa in
    let inside = preorder-apart (suc n) (Some n) kids others left right (λ p h. let i : n ≡ p = same_Some n p h in omega arith)
    (above_later n (suc n) left (omega arith) la) (above_later n (suc n) right (omega arith) lb) (not_under n left la) (not_under n right lb)
    (same_tail (node_of parent b) (node_of parent c) (preorder (suc n) (Some n) kids ++ left) (preorder (suc n) (Some n) others ++ right) split) in
    let head : node_of parent b ≡ node_of parent c = same_head (node_of parent b) (node_of parent c) (preorder (suc n) (Some n) kids ++ left) (preorder (suc n) (Some n) others ++ right) split in
    let bags : b ≡ c = ap (λ (x : TreeNode). record { own = x.own; top = x.top; bottom = x.bot }) head in
    let behind : preorder (suc n + size kids) parent more ++ r ≡ preorder (suc n + size kids) parent rest ++ s =
    inside.1 ∙ ap (λ k. preorder (suc n + size k) parent rest ++ s) (sym inside.0) in
    let later : (k : ℕ) → n ≤ k → IsBelow k parent = λ k le p h. let i : p < n = below p h in omega arith in
    let others_same = preorder-apart (suc n + size kids) parent more rest r s (later (suc n + size kids) (omega arith))
    (above_later n (suc n + size kids) r (omega arith) ra) (above_later n (suc n + size kids) s (omega arith) sa) ru su behind in
    (λ i. tree (bags i) (inside.0 i) (others_same.0 i), others_same.1)

pub preorder-unique : (f g : Forest (Node BagPairs)) → preorder 0 None f ≡ preorder 0 None g → f ≡ g
preorder-unique f g e =
    (preorder-apart 0 None f g [] [] (λ p h. absurd (none-some p h)) tt tt (λ u. u) (λ u. u)
    (append-nil (preorder 0 None f) ∙ e ∙ sym (append-nil (preorder 0 None g)))).0
