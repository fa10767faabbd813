-- One pass over nodes in preorder tells the forest: its nodes, its leaves and its inner nodes.
use Rattle.std.specs.Prelude.{◌≡◌, ℕ, zero, suc, ◌+◌, ◌<◌, List, [], ◌∷◌, ◌++◌, length, take, drop, slice_get, Option, Some, None, Bool, true, false, refl}
use Rattle.std.proofs.Common.{inl, inr, ap, ap₂, sym, ◌∙◌, arith, append_assoc, eq-eqb}
use Rattle.std.proofs.lemmas.List.{append-nil, map-append}
use Rattle.std.proofs.lemmas.Option.{none-some, same_Some}
use Rattle.std.proofs.lemmas.Bool.Decides.{eqb_tells}
use Rattle.gr_base.specs.Lists.{IsAmong}
use Rattle.gr_base.specs.Forests.{Forest, empty, tree, labels, leaf_labels, inner_labels, map_forest, size}
use Rattle.gr_base.proofs.ListLemmas.{IsAmong-append, IsAmong-append_left, IsAmong-append_right}
use Rattle.gr_terms.specs.Canonical.{Node}
use Rattle.td_tree.specs.Trees.{BagPairs, AreTreeNodes, BeginsAbove, is_parent, node_of, preorder}
use Rattle.td_tree.specs.TreeViews.{Pairs, lists_of}
use Rattle.td_tree.specs.declared.TreeNode.{TreeNode}
pub use Rattle.td_tree.proofs.FlatTreeLemmas.{labels-nodes}
use Rattle.td_tree.proofs.PreorderLemmas.{IsBelow, begins_above, above_later}
use Rattle.tg_grammar.specs.Marks.{first_name, lists_at}
use Rattle.tg_grammar.specs.Shapes.{root_name}
use Rattle.tg_grammar.specs.Surveys.{Sight, begins_under, lists_seen, sights}

-- the sights of a forest's nodes
abbrev pub has_kids : Forest (Node BagPairs) → Bool
has_kids empty = false
has_kids (tree b kids more) = true

abbrev pub seen_of : Forest (Node BagPairs) → List Sight
seen_of empty = []
seen_of (tree b kids more) = (has_kids kids, lists_of b) ∷ seen_of kids ++ seen_of more

-- what stands above a node doesn't stand under it
not_parent : (n : ℕ) (o : Option ℕ) → IsBelow n o → is_parent o n ≡ false
not_parent n None below = refl
not_parent n (Some p) below = elim (eqb_tells p n) [ inl h ↦ let lt : p < n = below p refl in absurd (omega (arith, h.1)) | inr h ↦ h.0 ]

not_under : (n : ℕ) (rest : List TreeNode) → BeginsAbove n rest → begins_under n rest ≡ false
not_under n [] above = refl
not_under n (x ∷ rest) above = not_parent n x.parent above

-- a node has children where the next one in preorder stands under it
begins_under-kids : (n m : ℕ) (kids : Forest (Node BagPairs)) (rest : List TreeNode) → BeginsAbove n rest → begins_under n (preorder m (Some n) kids ++ rest) ≡ has_kids kids
begins_under-kids n m empty rest above = not_under n rest above
begins_under-kids n m (tree b kids more) rest above = eq-eqb n n refl

sights-preorder : (n : ℕ) (parent : Option ℕ) (f : Forest (Node BagPairs)) (rest : List TreeNode) → IsBelow n parent → BeginsAbove n rest →
    sights n (preorder n parent f ++ rest) ≡ seen_of f ++ sights (n + size f) rest
sights-preorder n parent empty rest below above = ap (λ k. sights k rest) (omega arith)
sights-preorder n parent (tree b kids more) rest below above =
    let behind = preorder (suc n + size kids) parent more ++ rest in
    let later : IsBelow (suc n + size kids) parent = λ p e. let h : p < n = below p e in omega arith in
    let split : preorder n parent (tree b kids more) ++ rest ≡ node_of parent b ∷ (preorder (suc n) (Some n) kids ++ behind) =
    append_assoc (node_of parent b ∷ preorder (suc n) (Some n) kids) (preorder (suc n + size kids) parent more) rest in
    let above_here : BeginsAbove n behind = begins_above n (suc n + size kids) parent more rest below above in
    let inside : sights (suc n) (preorder (suc n) (Some n) kids ++ behind) ≡ seen_of kids ++ sights (suc n + size kids) behind =
    sights-preorder (suc n) (Some n) kids behind (λ p e. let h : n ≡ p = same_Some n p e in omega arith) (above_later n (suc n) behind (omega arith) above_here) in
    let beside : sights (suc n + size kids) behind ≡ seen_of more ++ sights (suc n + size kids + size more) rest =
    sights-preorder (suc n + size kids) parent more rest later (above_later n (suc n + size kids) rest (omega arith) above) in
    let count : suc n + size kids + size more ≡ n + size (tree b kids more) = omega arith in
    ap (sights n) split
    ∙ ap₂ (λ (h : Bool) (xs : List Sight). (h, lists_of b) ∷ xs) (begins_under-kids n (suc n) kids behind above_here)
    (inside ∙ ap (λ xs. seen_of kids ++ xs) (beside ∙ ap (λ k. seen_of more ++ sights k rest) count))
    ∙ sym (append_assoc ((has_kids kids, lists_of b) ∷ seen_of kids) (seen_of more) (sights (n + size (tree b kids more)) rest))

-- so the pass over a tree's nodes sees its forest
pub sights-forest : (nodes : List TreeNode) (t : AreTreeNodes nodes) → sights 0 nodes ≡ seen_of t.forest
sights-forest nodes t =
    ap (sights 0) (t.laid ∙ sym (append-nil (preorder 0 None t.forest)))
    ∙ sights-preorder 0 None t.forest [] (λ p e. absurd (none-some p e)) tt
    ∙ append-nil (seen_of t.forest)

-- ---- what the sights of a forest have

pub lists_seen-forest : (f : Forest (Node BagPairs)) → lists_seen (seen_of f) ≡ labels (map_forest lists_of f)
lists_seen-forest empty = refl
lists_seen-forest (tree b kids more) =
    ap (λ xs. lists_of b ∷ xs) (map-append (λ s. s.1) (seen_of kids) (seen_of more) ∙ ap₂ (λ xs ys. xs ++ ys) (lists_seen-forest kids) (lists_seen-forest more))

-- the nodes seen are all nodes
pub labels_seen : (f : Forest (Node BagPairs)) (s : Sight) → IsAmong (seen_of f) s → IsAmong (labels (map_forest lists_of f)) s.1
labels_seen empty s i = absurd i
labels_seen (tree b kids more) s (inl e) = inl (ap (λ x. x.1) e)
labels_seen (tree b kids more) s (inr i) = inr (elim (IsAmong-append (seen_of kids) (seen_of more) s i) [
  | inl k ↦ IsAmong-append_left (labels (map_forest lists_of kids)) (labels (map_forest lists_of more)) s.1 (labels_seen kids s k)
  | inr k ↦ IsAmong-append_right (labels (map_forest lists_of kids)) (labels (map_forest lists_of more)) s.1 (labels_seen more s k)
])

pub seen_label : (f : Forest (Node BagPairs)) (n : Node Pairs) → IsAmong (labels (map_forest lists_of f)) n → (has : Bool) × IsAmong (seen_of f) (has, n)
seen_label empty n i = absurd i
seen_label (tree b kids more) n (inl e) = (has_kids kids, inl (λ i. (has_kids kids, e i)))
seen_label (tree b kids more) n (inr i) = elim (IsAmong-append (labels (map_forest lists_of kids)) (labels (map_forest lists_of more)) n i) [
  | inl k ↦ let h = seen_label kids n k in (h.0, inr (IsAmong-append_left (seen_of kids) (seen_of more) (h.0, n) h.1))
  | inr k ↦ let h = seen_label more n k in (h.0, inr (IsAmong-append_right (seen_of kids) (seen_of more) (h.0, n) h.1))
]

-- the nodes seen without children are the leaves
pub leaf_seen : (f : Forest (Node BagPairs)) (n : Node Pairs) → IsAmong (leaf_labels (map_forest lists_of f)) n → IsAmong (seen_of f) (false, n)
leaf_seen empty n i = absurd i
leaf_seen (tree b empty more) n (inl e) = inl (λ j. (false, e j))
leaf_seen (tree b empty more) n (inr i) = inr (leaf_seen more n i)
leaf_seen (tree b (tree c others rest) more) n i =
    inr (elim (IsAmong-append (leaf_labels (map_forest lists_of (tree c others rest))) (leaf_labels (map_forest lists_of more)) n i) [
      | inl k ↦ IsAmong-append_left (seen_of (tree c others rest)) (seen_of more) (false, n) (leaf_seen (tree c others rest) n k)
      | inr k ↦ IsAmong-append_right (seen_of (tree c others rest)) (seen_of more) (false, n) (leaf_seen more n k)
    ])

pub seen_leaf : (f : Forest (Node BagPairs)) (n : Node Pairs) → IsAmong (seen_of f) (false, n) → IsAmong (leaf_labels (map_forest lists_of f)) n
seen_leaf empty n i = absurd i
seen_leaf (tree b empty more) n (inl e) = inl (ap (λ x. x.1) e)
seen_leaf (tree b empty more) n (inr i) = inr (seen_leaf more n i)
seen_leaf (tree b (tree c others rest) more) n (inl e) = let h : false ≡ true = ap (λ x. x.0) e in absurd (cc)
seen_leaf (tree b (tree c others rest) more) n (inr i) =
    elim (IsAmong-append (seen_of (tree c others rest)) (seen_of more) (false, n) i) [
      | inl k ↦ IsAmong-append_left (leaf_labels (map_forest lists_of (tree c others rest))) (leaf_labels (map_forest lists_of more)) n (seen_leaf (tree c others rest) n k)
      | inr k ↦ IsAmong-append_right (leaf_labels (map_forest lists_of (tree c others rest))) (leaf_labels (map_forest lists_of more)) n (seen_leaf more n k)
    ]

-- those with children are the inner nodes
pub inner_seen : (f : Forest (Node BagPairs)) (n : Node Pairs) → IsAmong (inner_labels (map_forest lists_of f)) n → IsAmong (seen_of f) (true, n)
inner_seen empty n i = absurd i
inner_seen (tree b empty more) n i = inr (inner_seen more n i)
inner_seen (tree b (tree c others rest) more) n (inl e) = inl (λ j. (true, e j))
inner_seen (tree b (tree c others rest) more) n (inr i) =
    inr (elim (IsAmong-append (inner_labels (map_forest lists_of (tree c others rest))) (inner_labels (map_forest lists_of more)) n i) [
      | inl k ↦ IsAmong-append_left (seen_of (tree c others rest)) (seen_of more) (true, n) (inner_seen (tree c others rest) n k)
      | inr k ↦ IsAmong-append_right (seen_of (tree c others rest)) (seen_of more) (true, n) (inner_seen more n k)
    ])

pub seen_inner : (f : Forest (Node BagPairs)) (n : Node Pairs) → IsAmong (seen_of f) (true, n) → IsAmong (inner_labels (map_forest lists_of f)) n
seen_inner empty n i = absurd i
seen_inner (tree b empty more) n (inl e) = let h : true ≡ false = ap (λ x. x.0) e in absurd (cc)
seen_inner (tree b empty more) n (inr i) = seen_inner more n i
seen_inner (tree b (tree c others rest) more) n (inl e) = inl (ap (λ x. x.1) e)
seen_inner (tree b (tree c others rest) more) n (inr i) =
    inr (elim (IsAmong-append (seen_of (tree c others rest)) (seen_of more) (true, n) i) [
      | inl k ↦ IsAmong-append_left (inner_labels (map_forest lists_of (tree c others rest))) (inner_labels (map_forest lists_of more)) n (seen_inner (tree c others rest) n k)
      | inr k ↦ IsAmong-append_right (inner_labels (map_forest lists_of (tree c others rest))) (inner_labels (map_forest lists_of more)) n (seen_inner more n k)
    ])

-- the first node is the root
pub first_name-root : (nodes : List TreeNode) (t : AreTreeNodes nodes) → first_name nodes ≡ root_name (map_forest lists_of t.forest)
first_name-root nodes t = ap first_name t.laid ∙ by t.forest
  where
    by : (f : Forest (Node BagPairs)) → first_name (preorder 0 None f) ≡ root_name (map_forest lists_of f)
    by empty = refl
    by (tree b kids more) = refl

-- ---- the sights of the first nodes

pub sight_at : (n i : ℕ) (nodes : List TreeNode) (x : TreeNode) → slice_get nodes i ≡ Some x →
    slice_get (sights n nodes) i ≡ Some (begins_under (n + i) (drop (suc i) nodes), lists_at x)
sight_at n i [] x at = absurd (none-some x at)
sight_at n zero (y ∷ ys) x at = λ j. Some (begins_under (zero_more n j) ys, lists_at (same_Some y x at j))
  where
    zero_more : (n : ℕ) → n ≡ n + 0
    zero_more n = omega arith
sight_at n (suc i) (y ∷ ys) x at =
    sight_at (suc n) i ys x at ∙ ap (λ k. Some (begins_under k (drop (suc i) ys), lists_at x)) (omega arith)

-- one more element
pub take-one_more : {A : Type 0} (xs : List A) (i : ℕ) (x : A) → slice_get xs i ≡ Some x → take (suc i) xs ≡ take i xs ++ x ∷ []
take-one_more [] i x at = absurd (none-some x at)
take-one_more (y ∷ ys) zero x at = ap (λ z. z ∷ []) (same_Some y x at)
take-one_more (y ∷ ys) (suc i) x at = ap (λ zs. y ∷ zs) (take-one_more ys i x at)

pub length-sights : (n : ℕ) (nodes : List TreeNode) → length (sights n nodes) ≡ length nodes
length-sights n [] = refl
length-sights n (x ∷ xs) = ap suc (length-sights (suc n) xs)

-- the sights of one node more
pub sights-one_more : (nodes : List TreeNode) (i : ℕ) (x : TreeNode) (has : Bool) → slice_get nodes i ≡ Some x → has ≡ begins_under i (drop (suc i) nodes) →
    take i (sights 0 nodes) ++ (has, lists_at x) ∷ [] ≡ take (i + 1) (sights 0 nodes)
sights-one_more nodes i x has at e =
    let none : i ≡ 0 + i = omega arith in
    let more : suc i ≡ i + 1 = omega arith in
    let same : has ≡ begins_under (0 + i) (drop (suc i) nodes) = e ∙ ap (λ k. begins_under k (drop (suc i) nodes)) none in
    ap (λ b. take i (sights 0 nodes) ++ (b, lists_at x) ∷ []) same
    ∙ sym (take-one_more (sights 0 nodes) i (begins_under (0 + i) (drop (suc i) nodes), lists_at x) (sight_at 0 i nodes x at))
    ∙ ap (λ k. take k (sights 0 nodes)) more
