-- The first nodes of the sets, and the places where they stand.
use Rattle.std.specs.Prelude.{◌≡◌, ℕ, ◌+◌, ◌<◌, List, [], ◌∷◌, length, refl}
use Rattle.std.proofs.Common.{inl, inr, ap, sym, ◌∙◌, subst, arith}
use Rattle.std.proofs.lemmas.Option.{same_Some, slice_get_within}
use Rattle.gr_base.specs.Lists.{IsAmong}
use Rattle.gr_base.specs.Forests.{Forest, empty, tree, labels, size}
use Rattle.gr_base.proofs.ListLemmas.{IsAmong-append, IsAmong-append_left, IsAmong-append_right, IsAmong-slice_get, slice_get-IsAmong, same_head}
use Rattle.gr_base.proofs.ForestLemmas.{length-labels}
use Rattle.td_forest.specs.Nodes.{IsForest}
use Rattle.td_forest.specs.Names.{IsHead}
use Rattle.td_forest.specs.Walks.{IsHeadAt}
use Rattle.td_forest.proofs.Forming.{forest_is}
use Rattle.td_forest.proofs.SpanLemmas.{span_unique}
use Rattle.td_forest.proofs.Walking.{set_at}

-- the set that a node is the first of
pub head_set : (F : Forest (List ℕ)) (x : ℕ) → IsHead F x → (rest : List ℕ) × IsAmong (labels F) (x ∷ rest)
head_set empty x h = absurd h
head_set (tree [] kids more) x (inl h) = let r = head_set kids x h in (r.0, inr (IsAmong-append_left (labels kids) (labels more) (x ∷ r.0) r.1))
head_set (tree [] kids more) x (inr h) = let r = head_set more x h in (r.0, inr (IsAmong-append_right (labels kids) (labels more) (x ∷ r.0) r.1))
head_set (tree (y ∷ ys) kids more) x (inl h) = (ys, inl (ap (λ z. z ∷ ys) h))
head_set (tree (y ∷ ys) kids more) x (inr (inl h)) = let r = head_set kids x h in (r.0, inr (IsAmong-append_left (labels kids) (labels more) (x ∷ r.0) r.1))
head_set (tree (y ∷ ys) kids more) x (inr (inr h)) = let r = head_set more x h in (r.0, inr (IsAmong-append_right (labels kids) (labels more) (x ∷ r.0) r.1))

pub set_head : (F : Forest (List ℕ)) (x : ℕ) (rest : List ℕ) → IsAmong (labels F) (x ∷ rest) → IsHead F x
set_head empty x rest i = absurd i
set_head (tree [] kids more) x rest (inl e) = absurd (differ e)
  where
    differ : x ∷ rest ≡ [] → ⊥
    differ q = cc
set_head (tree [] kids more) x rest (inr i) = elim (IsAmong-append (labels kids) (labels more) (x ∷ rest) i) [ inl j ↦ inl (set_head kids x rest j) | inr j ↦ inr (set_head more x rest j) ]
set_head (tree (y ∷ ys) kids more) x rest (inl e) = inl (same_head x y rest ys e)
set_head (tree (y ∷ ys) kids more) x rest (inr i) =
    elim (IsAmong-append (labels kids) (labels more) (x ∷ rest) i) [ inl j ↦ inr (inl (set_head kids x rest j)) | inr j ↦ inr (inr (set_head more x rest j)) ]

pub head_place : (F : Forest (List ℕ)) (x : ℕ) → IsHead F x → (place : ℕ) × (place < size F) × IsHeadAt F place x
head_place F x h =
    let r = head_set F x h in
    let p = slice_get-IsAmong (labels F) (x ∷ r.0) r.1 in
    let l : p.0 < length (labels F) = slice_get_within (labels F) p.0 (x ∷ r.0) p.1 in
    (p.0, subst (λ n. p.0 < n) (length-labels F) l, (r.0, p.1))

pub place_head : (F : Forest (List ℕ)) (place x : ℕ) → IsHeadAt F place x → IsHead F x
place_head F place x h = set_head F x h.0 (IsAmong-slice_get (labels F) place (x ∷ h.0) h.1)

-- a head stands at one place
pub heads_once : (F : Forest (List ℕ)) (p q x : ℕ) → IsForest F → IsHeadAt F p x → IsHeadAt F q x → p ≡ q
heads_once F p q x f a b =
    let is = forest_is F f in
    let s = set_at 0 F p is.rise (subst (λ n. p < n) (length-labels F) (slice_get_within (labels F) p (x ∷ a.0) a.1)) in
    let t = set_at 0 F q is.rise (subst (λ n. q < n) (length-labels F) (slice_get_within (labels F) q (x ∷ b.0) b.1)) in
    let i : IsAmong s.set x = subst (λ zs. IsAmong zs x) (same_Some (x ∷ a.0) s.set (sym a.1 ∙ s.is)) (inl refl) in
    let j : IsAmong t.set x = subst (λ zs. IsAmong zs x) (same_Some (x ∷ b.0) t.set (sym b.1 ∙ t.is)) (inl refl) in
    let u = span_unique 0 F x (0 + p) s.behind (0 + q) t.behind is.once (s.spans x i) (t.spans x j) in
    let e : 0 + p ≡ 0 + q = u.0 in
    omega arith
