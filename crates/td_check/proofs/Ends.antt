-- Where the tree under a node ends among nodes in preorder: behind the last one whose parent is that node or one behind it.
use Rattle.std.specs.Prelude.{◌≡◌, ℕ, zero, suc, ◌+◌, ◌<◌, ◌≤◌, List, [], ◌∷◌, ◌++◌, length, slice_get, ◌⊎◌, ⊤, Option, Some, None, refl}
use Rattle.std.proofs.Common.{inl, inr, ap, sym, ◌∙◌, subst, arith, get_or}
use Rattle.std.proofs.lemmas.Bool.{cases_lt, cases_eq, cases_order}
use Rattle.std.proofs.lemmas.Option.{none-some, same_Some, slice_get-get_or, slice_get_within}
use Rattle.gr_base.specs.Forests.{Forest, empty, tree, size}
use Rattle.gr_base.proofs.ListLemmas.{slice_get-some}
use Rattle.gr_terms.specs.Canonical.{Node}
use Rattle.td_tree.specs.Trees.{BagPairs, node_of, preorder}
use Rattle.td_tree.specs.declared.TreeNode.{TreeNode}
use Rattle.td_tree.proofs.PreorderLemmas.{length-preorder, FitsParent, FitParents, FitParents-preorder}
use Rattle.td_check.specs.Places.{IsFrom, IsTreeAt, AreLaid}

-- the node with a number, of nodes that are numbered from n on
abbrev NodeAt : ℕ → List TreeNode → ℕ → TreeNode → Type 0
NodeAt n [] k x = ⊥
NodeAt n (y ∷ ys) k x = ((k ≡ n) × (x ≡ y)) ⊎ NodeAt (suc n) ys k x

node_at : (n i k : ℕ) (xs : List TreeNode) (x : TreeNode) → k ≡ n + i → slice_get xs i ≡ Some x → NodeAt n xs k x
node_at n i k [] x e at = absurd (none-some x at)
node_at n zero k (y ∷ ys) x e at = inl (omega arith, sym (same_Some y x at))
node_at n (suc i) k (y ∷ ys) x e at = inr (node_at (suc n) i k ys x (omega arith) at)

at_range : (n : ℕ) (xs : List TreeNode) (k : ℕ) (x : TreeNode) → NodeAt n xs k x → (n ≤ k) × (k < n + length xs)
at_range n [] k x h = absurd h
at_range n (y ∷ ys) k x (inl h) = let e : k ≡ n = h.0 in (omega arith, omega arith)
at_range n (y ∷ ys) k x (inr h) = let r = at_range (suc n) ys k x h in let low : suc n ≤ k = r.0 in let high : k < suc n + length ys = r.1 in (omega arith, omega arith)

at_split : (n m : ℕ) (xs ys : List TreeNode) (k : ℕ) (x : TreeNode) → m ≡ n + length xs → NodeAt n (xs ++ ys) k x → NodeAt n xs k x ⊎ NodeAt m ys k x
at_split n m [] ys k x e h = inr (subst (λ i. NodeAt i ys k x) (omega arith) h)
at_split n m (z ∷ xs) ys k x e (inl h) = inl (inl h)
at_split n m (z ∷ xs) ys k x e (inr h) = elim (at_split (suc n) m xs ys k x (omega arith) h) [ inl a ↦ inl (inr a) | inr b ↦ inr b ]

fits_at : (parent : Option ℕ) (low n : ℕ) (xs : List TreeNode) (k : ℕ) (x : TreeNode) → NodeAt n xs k x → FitParents parent low n xs → FitsParent parent low k x
fits_at parent low n [] k x h fit = absurd h
fits_at parent low n (y ∷ ys) k x (inl h) fit = subst (λ i. FitsParent parent low i x) (sym h.0) (subst (λ z. FitsParent parent low n z) (sym h.1) fit.0)
fits_at parent low n (y ∷ ys) k x (inr h) fit = fits_at parent low (suc n) ys k x h fit.1

-- a node of a forest is its first root, or in the trees under it, or in those to the right
data Place3 (n : ℕ) (parent : Option ℕ) (b : Node BagPairs) (kids more : Forest (Node BagPairs)) (k : ℕ) (x : TreeNode) : Type 0 where
  at_root : k ≡ n → x ≡ node_of parent b → Place3 n parent b kids more k x
  in_kids : suc n ≤ k → k < suc n + size kids → NodeAt (suc n) (preorder (suc n) (Some n) kids) k x → Place3 n parent b kids more k x
  in_more : suc n + size kids ≤ k → NodeAt (suc n + size kids) (preorder (suc n + size kids) parent more) k x → Place3 n parent b kids more k x

place3 : (n : ℕ) (parent : Option ℕ) (b : Node BagPairs) (kids more : Forest (Node BagPairs)) (k : ℕ) (x : TreeNode) → NodeAt n (preorder n parent (tree b kids more)) k x → Place3 n parent b kids more k x
place3 n parent b kids more k x (inl h) = at_root h.0 h.1
place3 n parent b kids more k x (inr h) =
    let count : length (preorder (suc n) (Some n) kids) ≡ size kids = length-preorder (suc n) (Some n) kids in
    elim (at_split (suc n) (suc n + size kids) (preorder (suc n) (Some n) kids) (preorder (suc n + size kids) parent more) k x (omega arith) h) [
      | inl a ↦ let r = at_range (suc n) (preorder (suc n) (Some n) kids) k x a in let low : suc n ≤ k = r.0 in let high : k < suc n + length (preorder (suc n) (Some n) kids) = r.1 in in_kids low (omega arith) a
      | inr a ↦ in_more (at_range (suc n + size kids) (preorder (suc n + size kids) parent more) k x a).0 a
    ]

pub record TreeWithin (n m at end : ℕ) : Type 0 where
  pub low : n ≤ at
  pub some : at < end
  pub high : end ≤ m

pub tree_within : {A : Type 0} (n : ℕ) (f : Forest A) (at end : ℕ) → IsTreeAt n f at end → TreeWithin n (n + size f) at end
tree_within n empty at end h = absurd h
tree_within n (tree a kids more) at end (inl h) = let p : at ≡ n = h.0 in let q : end ≡ suc n + size kids = h.1 in record { low = omega arith; some = omega arith; high = omega arith }
tree_within n (tree a kids more) at end (inr (inl h)) = let r = tree_within (suc n) kids at end h in
    let p : suc n ≤ at = r.low in let q : at < end = r.some in let s : end ≤ suc n + size kids = r.high in record { low = omega arith; some = omega arith; high = omega arith }
tree_within n (tree a kids more) at end (inr (inr h)) = let r = tree_within (suc n + size kids) more at end h in
    let p : suc n + size kids ≤ at = r.low in let q : at < end = r.some in let s : end ≤ suc n + size kids + size more = r.high in record { low = omega arith; some = omega arith; high = omega arith }

pub tree_there : {A : Type 0} (n : ℕ) (f : Forest A) (at : ℕ) → n ≤ at → at < n + size f → (end : ℕ) × IsTreeAt n f at end
tree_there n empty at low high = absurd (omega arith)
tree_there n (tree a kids more) at low high = elim (cases_eq at n) [
  | inl e ↦ (suc n + size kids, inl (e, refl))
  | inr ne ↦ elim (cases_lt at (suc n + size kids)) [
    | inl l ↦ let r = tree_there (suc n) kids at (above at n low ne) l in (r.0, inr (inl r.1))
    | inr g ↦ let r = tree_there (suc n + size kids) more at g (omega arith) in (r.0, inr (inr r.1))
  ]
]
  where
    above : (at n : ℕ) → n ≤ at → (at ≡ n → ⊥) → suc n ≤ at
    above at n low ne = elim (cases_lt n at) [ inl l ↦ omega arith | inr g ↦ absurd (ne (omega arith)) ]

-- the children's trees hang from the node
kids_from : (n : ℕ) (kids : Forest (Node BagPairs)) (k : ℕ) (x : TreeNode) → NodeAt (suc n) (preorder (suc n) (Some n) kids) k x → IsFrom n x.parent
kids_from n kids k x h = elim (fits_at (Some n) n (suc n) (preorder (suc n) (Some n) kids) k x h (FitParents-preorder (suc n) n (Some n) kids (omega arith))) [
  | inl e ↦ subst (λ q. IsFrom n q) (sym e) (omega arith)
  | inr r ↦ subst (λ q. IsFrom n q) (sym r.1) r.2
]

-- what stands inside a tree hangs from its root
inside : (n : ℕ) (parent : Option ℕ) (f : Forest (Node BagPairs)) (at end r : ℕ) (x : TreeNode) → IsTreeAt n f at end → NodeAt n (preorder n parent f) r x → at < r → r < end → IsFrom at x.parent
inside n parent empty at end r x t h low high = absurd h
inside n parent (tree b kids more) at end r x (inl t) h low high = by (place3 n parent b kids more r x h)
  where
    by : Place3 n parent b kids more r x → IsFrom at x.parent
    by (at_root e s) = let p : at ≡ n = t.0 in absurd (omega arith)
    by (in_kids a c k) = subst (λ q. IsFrom q x.parent) (sym t.0) (kids_from n kids r x k)
    by (in_more a k) = let p : end ≡ suc n + size kids = t.1 in absurd (omega arith)
inside n parent (tree b kids more) at end r x (inr (inl t)) h low high =
    by (place3 n parent b kids more r x h) (tree_within (suc n) kids at end t) (λ k. inside (suc n) (Some n) kids at end r x t k low high)
  where
    by : Place3 n parent b kids more r x → TreeWithin (suc n) (suc n + size kids) at end → (NodeAt (suc n) (preorder (suc n) (Some n) kids) r x → IsFrom at x.parent) → IsFrom at x.parent
    by (at_root e s) w rest = let p : suc n ≤ at = w.low in absurd (omega arith)
    by (in_kids a c k) w rest = rest k
    by (in_more a k) w rest = let p : end ≤ suc n + size kids = w.high in absurd (omega arith)
inside n parent (tree b kids more) at end r x (inr (inr t)) h low high =
    by (place3 n parent b kids more r x h) (tree_within (suc n + size kids) more at end t) (λ k. inside (suc n + size kids) parent more at end r x t k low high)
  where
    by : Place3 n parent b kids more r x → TreeWithin (suc n + size kids) (suc n + size kids + size more) at end
        → (NodeAt (suc n + size kids) (preorder (suc n + size kids) parent more) r x → IsFrom at x.parent) → IsFrom at x.parent
    by (at_root e s) w rest = let p : suc n + size kids ≤ at = w.low in absurd (omega arith)
    by (in_kids a c k) w rest = let p : suc n + size kids ≤ at = w.low in absurd (omega arith)
    by (in_more a k) w rest = rest k

-- a parent stands before number n
abbrev IsBefore : ℕ → Option ℕ → Type 0
IsBefore n None = ⊤
IsBefore n (Some p) = p < n

before_later : (n m : ℕ) (parent : Option ℕ) → n ≤ m → IsBefore n parent → IsBefore m parent
before_later n m None le h = tt
before_later n m (Some p) le h = omega arith

not_from : (n at : ℕ) (parent : Option ℕ) → IsBefore n parent → n ≤ at → IsFrom at parent → ⊥
not_from n at None before le h = h
not_from n at (Some p) before le h = omega arith

begins : (m : ℕ) (parent : Option ℕ) (f : Forest (Node BagPairs)) (k : ℕ) (x : TreeNode) → k ≡ m → NodeAt m (preorder m parent f) k x → x.parent ≡ parent
begins m parent empty k x e h = absurd h
begins m parent (tree b kids more) k x e h = by (place3 m parent b kids more k x h)
  where
    by : Place3 m parent b kids more k x → x.parent ≡ parent
    by (at_root p s) = ap (λ (y : TreeNode). y.parent) s
    by (in_kids a c i) = absurd (omega arith)
    by (in_more a i) = absurd (omega arith)

-- what stands right behind a tree does not
behind_not : (n : ℕ) (parent : Option ℕ) (f : Forest (Node BagPairs)) (at end : ℕ) (x : TreeNode) → IsBefore n parent → IsTreeAt n f at end → NodeAt n (preorder n parent f) end x → IsFrom at x.parent → ⊥
behind_not n parent empty at end x before t h from = h
behind_not n parent (tree b kids more) at end x before (inl t) h from = by (place3 n parent b kids more end x h)
  where
    by : Place3 n parent b kids more end x → ⊥
    by (at_root e s) = let p : end ≡ suc n + size kids = t.1 in omega arith
    by (in_kids a c k) = let p : end ≡ suc n + size kids = t.1 in omega arith
    by (in_more a k) =
        let e : x.parent ≡ parent = begins (suc n + size kids) parent more end x t.1 k in
        let p : at ≡ n = t.0 in
        not_from n at parent before (omega arith) (subst (λ q. IsFrom at q) e from)
behind_not n parent (tree b kids more) at end x before (inr (inl t)) h from =
    by (place3 n parent b kids more end x h) (tree_within (suc n) kids at end t) (λ k. let p : n < suc n = omega arith in behind_not (suc n) (Some n) kids at end x p t k from)
  where
    by : Place3 n parent b kids more end x → TreeWithin (suc n) (suc n + size kids) at end → (NodeAt (suc n) (preorder (suc n) (Some n) kids) end x → ⊥) → ⊥
    by (at_root e s) w rest = let p : suc n ≤ at = w.low in let q : at < end = w.some in omega arith
    by (in_kids a c k) w rest = rest k
    by (in_more a k) w rest =
        let p : suc n ≤ at = w.low in
        let q : end ≤ suc n + size kids = w.high in
        let e : x.parent ≡ parent = begins (suc n + size kids) parent more end x (omega arith) k in
        not_from n at parent before (omega arith) (subst (λ q. IsFrom at q) e from)
behind_not n parent (tree b kids more) at end x before (inr (inr t)) h from =
    by (place3 n parent b kids more end x h) (tree_within (suc n + size kids) more at end t)
    (λ k. behind_not (suc n + size kids) parent more at end x (before_later n (suc n + size kids) parent (omega arith) before) t k from)
  where
    by : Place3 n parent b kids more end x → TreeWithin (suc n + size kids) (suc n + size kids + size more) at end
        → (NodeAt (suc n + size kids) (preorder (suc n + size kids) parent more) end x → ⊥) → ⊥
    by (at_root e s) w rest = let p : suc n + size kids ≤ at = w.low in let q : at < end = w.some in omega arith
    by (in_kids a c k) w rest = let p : suc n + size kids ≤ at = w.low in let q : at < end = w.some in omega arith
    by (in_more a k) w rest = rest k

pub length-laid : (nodes : List TreeNode) (f : Forest (Node BagPairs)) → AreLaid nodes f → length nodes ≡ size f
length-laid nodes f laid = ap length laid ∙ length-preorder 0 None f

-- each of the nodes behind one and before a number hangs from it
abbrev pub AllFrom : List TreeNode → ℕ → ℕ → Type 0
AllFrom nodes at end = (r : ℕ) (x : TreeNode) → at < r → r < end → slice_get nodes r ≡ Some x → IsFrom at x.parent

laid_at : (nodes : List TreeNode) (f : Forest (Node BagPairs)) (k : ℕ) (x : TreeNode) → AreLaid nodes f → slice_get nodes k ≡ Some x → NodeAt 0 (preorder 0 None f) k x
laid_at nodes f k x laid e = subst (λ xs. NodeAt 0 xs k x) laid (node_at 0 k k nodes x (omega arith) e)

-- where they do and the next one does not, the tree ends
pub tree_ends : (nodes : List TreeNode) (at end : ℕ) → at < length nodes → at < end → end ≤ length nodes → AllFrom nodes at end
    → ((x : TreeNode) → slice_get nodes end ≡ Some x → IsFrom at x.parent → ⊥) → (f : Forest (Node BagPairs)) → AreLaid nodes f → IsTreeAt 0 f at end
tree_ends nodes at end here some high all next f laid =
    let count : length nodes ≡ size f = length-laid nodes f laid in
    let r = tree_there 0 f at (omega arith) (omega (arith, count)) in
    let w = tree_within 0 f at r.0 r.1 in
    let low : at < r.0 = w.some in
    let top : r.0 ≤ 0 + size f = w.high in
    elim (cases_order end r.0) [
      | inl e ↦ subst (λ k. IsTreeAt 0 f at k) (sym e) r.1
      | inr (inl l) ↦ let x = slice_get-some nodes end (omega arith) in absurd (next x.0 x.1 (inside 0 None f at r.0 end x.0 r.1 (laid_at nodes f end x.0 laid x.1) some l))
      | inr (inr l) ↦ let x = slice_get-some nodes r.0 (omega arith) in absurd (behind_not 0 None f at r.0 x.0 tt r.1 (laid_at nodes f r.0 x.0 laid x.1) (all r.0 x.0 low l x.1))
    ]

-- none yet, and one more
pub none_from : (nodes : List TreeNode) (at : ℕ) → AllFrom nodes at (at + 1)
none_from nodes at r x low high e = absurd (omega arith)

pub more_from : (nodes : List TreeNode) (at end : ℕ) (y : TreeNode) → AllFrom nodes at end → y ≡ get_or nodes end y → end < length nodes → IsFrom at y.parent → AllFrom nodes at (end + 1)
more_from nodes at end y all is within from r x low high e = elim (cases_lt r end) [
  | inl l ↦ all r x low l e
  | inr g ↦
      let q : r ≡ end = omega arith in
      let here : slice_get nodes end ≡ Some y = slice_get-get_or nodes end y within ∙ ap (λ z. Some z) (sym is) in
      let same : y ≡ x = same_Some y x (sym here ∙ subst (λ k. slice_get nodes k ≡ Some x) q e) in
      subst (λ (z : TreeNode). IsFrom at z.parent) same from
]

-- the node at a place is the one that was read there
pub read_node : (nodes : List TreeNode) (k : ℕ) (x y : TreeNode) → y ≡ get_or nodes k y → k < length nodes → slice_get nodes k ≡ Some x → y ≡ x
read_node nodes k x y is within e = same_Some y x (sym (slice_get-get_or nodes k y within ∙ ap (λ z. Some z) (sym is)) ∙ e)

pub past_nodes : (nodes : List TreeNode) (k : ℕ) (x : TreeNode) → length nodes ≤ k → slice_get nodes k ≡ Some x → ⊥
past_nodes nodes k x past e = let l : k < length nodes = slice_get_within nodes k x e in omega arith
