-- The sets of a forest and its nodes, and what a step makes of the sets.
use Rattle.std.specs.Prelude.{◌≡◌, ℕ, ◌<◌, List, [], ◌∷◌, ◌++◌, ◌⊎◌, refl}
use Rattle.std.proofs.Common.{inl, inr, ap, sym, ◌∙◌, subst, arith}
use Rattle.gr_base.specs.Lists.{IsAmong, IsWithin, Each, IsRising, gathered}
use Rattle.gr_base.specs.Forests.{Forest, empty, tree, labels}
use Rattle.gr_base.proofs.ListLemmas.{IsAmong-append, IsAmong-append_left, IsAmong-append_right, Each-left, Each-right, Each-append}
use Rattle.gr_base.proofs.ForestLemmas.{labels-beside}
use Rattle.gr_base.proofs.Gathering.{gathered-append}
use Rattle.td_forest.specs.Nodes.{IsIn}
use Rattle.td_forest.specs.Steps.{first_trees, trees_behind, put}
use Rattle.td_forest.specs.Spots.{Spot, join, wrap, down, along, after, IsSpot}
use Rattle.td_forest.proofs.Twins.{AreSameIn, AllOnce, AllRise}
use Rattle.td_forest.proofs.SetLemmas.{put-new}
use Rattle.td_forest.proofs.Stepping.{beside-split}

-- the set of a node of a forest
pub record HasSet (F : Forest (List ℕ)) (x : ℕ) : Type 0 where
  pub set : List ℕ
  pub there : IsAmong (labels F) set
  pub is : IsAmong set x

pub has_set : (F : Forest (List ℕ)) (x : ℕ) → IsIn F x → HasSet F x
has_set empty x i = absurd i
has_set (tree a kids more) x (inl i) = record { set = a; there = inl refl; is = i }
has_set (tree a kids more) x (inr (inl i)) = let r = has_set kids x i in record { set = r.set; there = inr (IsAmong-append_left (labels kids) (labels more) r.set r.there); is = r.is }
has_set (tree a kids more) x (inr (inr i)) = let r = has_set more x i in record { set = r.set; there = inr (IsAmong-append_right (labels kids) (labels more) r.set r.there); is = r.is }

-- a node of a set of the forest is in the forest, and its tree node has just that set
pub set_in : (F : Forest (List ℕ)) (set : List ℕ) (x : ℕ) → IsAmong (labels F) set → IsAmong set x → IsIn F x
set_in empty set x l i = absurd l
set_in (tree a kids more) set x (inl e) i = inl (subst (λ zs. IsAmong zs x) e i)
set_in (tree a kids more) set x (inr l) i =
    elim (IsAmong-append (labels kids) (labels more) set l) [ inl j ↦ inr (inl (set_in kids set x j i)) | inr j ↦ inr (inr (set_in more set x j i)) ]

pub same_of : (F : Forest (List ℕ)) (set : List ℕ) (x y : ℕ) → IsAmong (labels F) set → IsAmong set x → IsAmong set y → AreSameIn F x y
same_of empty set x y l i j = absurd l
same_of (tree a kids more) set x y (inl e) i j = inl (subst (λ zs. IsAmong zs x) e i, subst (λ zs. IsAmong zs y) e j)
same_of (tree a kids more) set x y (inr l) i j =
    elim (IsAmong-append (labels kids) (labels more) set l) [ inl k ↦ inr (inl (same_of kids set x y k i j)) | inr k ↦ inr (inr (same_of more set x y k i j)) ]

pub same_in : (F : Forest (List ℕ)) (x y : ℕ) → AreSameIn F x y → IsIn F x
same_in empty x y h = h
same_in (tree a kids more) x y (inl h) = inl h.0
same_in (tree a kids more) x y (inr (inl h)) = inr (inl (same_in kids x y h))
same_in (tree a kids more) x y (inr (inr h)) = inr (inr (same_in more x y h))

pub of_same : (F : Forest (List ℕ)) (set : List ℕ) (x y : ℕ) → AllOnce F → IsAmong (labels F) set → IsAmong set x → AreSameIn F x y → IsAmong set y
of_same empty set x y once l i h = absurd l
of_same (tree a kids more) set x y once (inl e) i (inl h) = subst (λ zs. IsAmong zs y) (sym e) h.1
of_same (tree a kids more) set x y once (inl e) i (inr (inl h)) = absurd (once.1 x (subst (λ zs. IsAmong zs x) e i) (same_in kids x y h))
of_same (tree a kids more) set x y once (inl e) i (inr (inr h)) = absurd (once.2 x (subst (λ zs. IsAmong zs x) e i) (same_in more x y h))
of_same (tree a kids more) set x y once (inr l) i h = elim (IsAmong-append (labels kids) (labels more) set l) [
  | inl k ↦
      let there : IsIn kids x = set_in kids set x k i in
      elim h [ inl p ↦ absurd (once.1 x p.0 there) | inr p ↦ elim p [ inl q ↦ of_same kids set x y once.4 k i q | inr q ↦ absurd (once.3 x there (same_in more x y q)) ] ]
  | inr k ↦
      let there : IsIn more x = set_in more set x k i in
      elim h [ inl p ↦ absurd (once.2 x p.0 there) | inr p ↦ elim p [ inl q ↦ absurd (once.3 x (same_in kids x y q) there) | inr q ↦ of_same more set x y once.5 k i q ] ]
]

-- a rising set whose members are all one node is that node alone
pub single_set : (set : List ℕ) (r : ℕ) → IsRising set → IsAmong set r → ((y : ℕ) → IsAmong set y → y ≡ r) → set ≡ r ∷ []
single_set [] r rise i one = absurd i
single_set (x ∷ []) r rise i one = ap (λ z. z ∷ []) (one x (inl refl))
single_set (x ∷ y ∷ ys) r rise i one =
    let h : x < y = rise.0.0 in
    let a : x ≡ r = one x (inl refl) in
    let b : y ≡ r = one y (inr (inl refl)) in
    absurd (omega arith)

labels-split : {A : Type 0} (n : ℕ) (F : Forest A) → labels (first_trees n F) ++ labels (trees_behind n F) ≡ labels F
labels-split n F = sym (labels-beside (first_trees n F) (trees_behind n F)) ∙ ap (λ G. labels G) (beside-split n F)

-- what holds of each set after a step of a node greater than all others, and of a set where it holds of it with that node put in, holds of each set before
module _ (P : List ℕ → Type 0) (x : ℕ) (less : (set : List ℕ) → (set ≡ [] → ⊥) → ((y : ℕ) → IsAmong set y → y < x) → P (put x set) → P set) where
  pub sets_before : (s : Spot) (F : Forest (List ℕ)) → AllRise F → ((y : ℕ) → IsIn F y → y < x) → IsSpot s F → Each P (labels (after x s F)) → Each P (labels F)
  sets_before join empty rise low at e = tt
  sets_before join (tree set kids more) rise low at e = (less set rise.0 (λ y i. low y (inl i)) e.0, e.1)
  sets_before (wrap n) F rise low at e = subst (λ xs. Each P xs) (labels-split n F) e.1
  sets_before (down s) empty rise low at e = tt
  sets_before (down s) (tree set kids more) rise low at e = (
    e.0,
    Each-append P (labels kids) (labels more) (sets_before s kids rise.2 (λ y i. low y (inr (inl i))) at (Each-left P (labels (after x s kids)) (labels more) e.1))
        (Each-right P (labels (after x s kids)) (labels more) e.1),
  )
  sets_before (along s) empty rise low at e = tt
  sets_before (along s) (tree set kids more) rise low at e = (
    e.0,
    Each-append P (labels kids) (labels more) (Each-left P (labels kids) (labels (after x s more)) e.1)
        (sets_before s more rise.3 (λ y i. low y (inr (inr i))) at (Each-right P (labels kids) (labels (after x s more)) e.1)),
  )

-- what holds of each set before a step, and of the set of the new node, holds of each set after it
module _ (P : List ℕ → Type 0) (x : ℕ) where
  pub sets_after : (s : Spot) (F : Forest (List ℕ)) → IsSpot s F → Each P (labels F) → ((set : List ℕ) → IsAmong (labels (after x s F)) set → IsAmong set x → P set) → Each P (labels (after x s F))
  sets_after join empty at e new = absurd at
  sets_after join (tree set kids more) at e new = (new (put x set) (inl refl) (put-new x set), e.1)
  sets_after (wrap n) F at e new = (new (x ∷ []) (inl refl) (inl refl), subst (λ xs. Each P xs) (sym (labels-split n F)) e)
  sets_after (down s) empty at e new = absurd at
  sets_after (down s) (tree set kids more) at e new = (
    e.0,
    Each-append P (labels (after x s kids)) (labels more)
        (sets_after s kids at (Each-left P (labels kids) (labels more) e.1) (λ set l i. new set (inr (IsAmong-append_left (labels (after x s kids)) (labels more) set l)) i))
        (Each-right P (labels kids) (labels more) e.1),
  )
  sets_after (along s) empty at e new = absurd at
  sets_after (along s) (tree set kids more) at e new = (
    e.0,
    Each-append P (labels kids) (labels (after x s more)) (Each-left P (labels kids) (labels more) e.1)
        (sets_after s more at (Each-right P (labels kids) (labels more) e.1) (λ set l i. new set (inr (IsAmong-append_right (labels kids) (labels (after x s more)) set l)) i)),
  )

within_both : {A : Type 0} (a b c d : List A) → IsWithin a c → IsWithin b d → IsWithin (a ++ b) (c ++ d)
within_both a b c d f g x i = elim (IsAmong-append a b x i) [ inl j ↦ IsAmong-append_left c d x (f x j) | inr j ↦ IsAmong-append_right c d x (g x j) ]

within_same : {A : Type 0} (xs : List A) → IsWithin xs xs
within_same xs x i = i

-- what is gathered from the sets before a step of a node greater than all others is within what is gathered after it
module _ {B : Type 0} (f : List ℕ → List B) (x : ℕ) (less : (set : List ℕ) → ((y : ℕ) → IsAmong set y → y < x) → IsWithin (f set) (f (put x set))) where
  gathered_kids : (set : List ℕ) (kids more K M : List (List ℕ)) → IsWithin (gathered f kids) (gathered f K) → IsWithin (gathered f more) (gathered f M)
      → IsWithin (gathered f (set ∷ kids ++ more)) (gathered f (set ∷ K ++ M))
  gathered_kids set kids more K M a b =
      within_both (f set) (gathered f (kids ++ more)) (f set) (gathered f (K ++ M)) (within_same (f set))
      (rw (gathered-append f kids more, gathered-append f K M) (within_both (gathered f kids) (gathered f more) (gathered f K) (gathered f M) a b))

  pub gathered_before : (s : Spot) (F : Forest (List ℕ)) → ((y : ℕ) → IsIn F y → y < x) → IsSpot s F → IsWithin (gathered f (labels F)) (gathered f (labels (after x s F)))
  gathered_before join empty low at = absurd at
  gathered_before join (tree set kids more) low at =
      within_both (f set) (gathered f (labels kids ++ labels more)) (f (put x set)) (gathered f (labels kids ++ labels more)) (less set (λ y i. low y (inl i)))
      (within_same (gathered f (labels kids ++ labels more)))
  gathered_before (wrap n) F low at =
      λ y i. IsAmong-append_right (f (x ∷ [])) (gathered f (labels (first_trees n F) ++ labels (trees_behind n F))) y (subst (λ xs. IsAmong (gathered f xs) y) (sym (labels-split n F)) i)
  gathered_before (down s) empty low at = absurd at
  gathered_before (down s) (tree set kids more) low at =
      gathered_kids set (labels kids) (labels more) (labels (after x s kids)) (labels more) (gathered_before s kids (λ y i. low y (inr (inl i))) at) (within_same (gathered f (labels more)))
  gathered_before (along s) empty low at = absurd at
  gathered_before (along s) (tree set kids more) low at =
      gathered_kids set (labels kids) (labels more) (labels kids) (labels (after x s more)) (within_same (gathered f (labels kids))) (gathered_before s more (λ y i. low y (inr (inr i))) at)

-- what is gathered after a step is gathered before it, or is of the new node
module _ {B : Type 0} (f : List ℕ → List B) (x : ℕ) (E : B → Type 0) (y : B) (alone : IsAmong (f (x ∷ [])) y → E y) where
  part_of : (set : List ℕ) (K M : List (List ℕ)) → IsAmong (gathered f (set ∷ K ++ M)) y → IsAmong (f set) y ⊎ (IsAmong (gathered f K) y ⊎ IsAmong (gathered f M) y)
  part_of set K M i = elim (IsAmong-append (f set) (gathered f (K ++ M)) y i) [
    | inl j ↦ inl j
    | inr j ↦ inr (IsAmong-append (gathered f K) (gathered f M) y (subst (λ zs. IsAmong zs y) (gathered-append f K M) j))
  ]

  of_part : (set : List ℕ) (K M : List (List ℕ)) → IsAmong (f set) y ⊎ (IsAmong (gathered f K) y ⊎ IsAmong (gathered f M) y) → IsAmong (gathered f (set ∷ K ++ M)) y
  of_part set K M (inl j) = IsAmong-append_left (f set) (gathered f (K ++ M)) y j
  of_part set K M (inr (inl j)) = IsAmong-append_right (f set) (gathered f (K ++ M)) y (subst (λ zs. IsAmong zs y) (sym (gathered-append f K M)) (IsAmong-append_left (gathered f K) (gathered f M) y j))
  of_part set K M (inr (inr j)) = IsAmong-append_right (f set) (gathered f (K ++ M)) y (subst (λ zs. IsAmong zs y) (sym (gathered-append f K M)) (IsAmong-append_right (gathered f K) (gathered f M) y j))

  pub gathered_after : (s : Spot) (F : Forest (List ℕ)) → IsSpot s F
      → ((set : List ℕ) → IsAmong (labels (after x s F)) (put x set) → IsAmong (f (put x set)) y → IsAmong (f set) y ⊎ E y)
      → IsAmong (gathered f (labels (after x s F))) y → IsAmong (gathered f (labels F)) y ⊎ E y
  gathered_after join empty at new i = absurd at
  gathered_after join (tree set kids more) at new i = elim (part_of (put x set) (labels kids) (labels more) i) [
    | inl j ↦ elim (new set (inl refl) j) [ inl k ↦ inl (of_part set (labels kids) (labels more) (inl k)) | inr e ↦ inr e ]
    | inr j ↦ inl (of_part set (labels kids) (labels more) (inr j))
  ]
  gathered_after (wrap n) F at new i = elim (IsAmong-append (f (x ∷ [])) (gathered f (labels (first_trees n F) ++ labels (trees_behind n F))) y i) [
    | inl j ↦ inr (alone j)
    | inr j ↦ inl (subst (λ xs. IsAmong (gathered f xs) y) (labels-split n F) j)
  ]
  gathered_after (down s) empty at new i = absurd at
  gathered_after (down s) (tree set kids more) at new i = elim (part_of set (labels (after x s kids)) (labels more) i) [
    | inl j ↦ inl (of_part set (labels kids) (labels more) (inl j))
    | inr j ↦ elim j [
      | inl k ↦ elim (gathered_after s kids at (λ t l m. new t (inr (IsAmong-append_left (labels (after x s kids)) (labels more) (put x t) l)) m) k) [
        | inl q ↦ inl (of_part set (labels kids) (labels more) (inr (inl q)))
        | inr e ↦ inr e
      ]
      | inr k ↦ inl (of_part set (labels kids) (labels more) (inr (inr k)))
    ]
  ]
  gathered_after (along s) empty at new i = absurd at
  gathered_after (along s) (tree set kids more) at new i = elim (part_of set (labels kids) (labels (after x s more)) i) [
    | inl j ↦ inl (of_part set (labels kids) (labels more) (inl j))
    | inr j ↦ elim j [
      | inl k ↦ inl (of_part set (labels kids) (labels more) (inr (inl k)))
      | inr k ↦ elim (gathered_after s more at (λ t l m. new t (inr (IsAmong-append_right (labels kids) (labels (after x s more)) (put x t) l)) m) k) [
        | inl q ↦ inl (of_part set (labels kids) (labels more) (inr (inr q)))
        | inr e ↦ inr e
      ]
    ]
  ]

-- two sets of a forest with a node in common are one
pub set_once : (F : Forest (List ℕ)) (s t : List ℕ) (x : ℕ) → AllOnce F → IsAmong (labels F) s → IsAmong (labels F) t → IsAmong s x → IsAmong t x → s ≡ t
set_once empty s t x once l k i j = absurd l
set_once (tree a kids more) s t x once (inl e) (inl f) i j = e ∙ sym f
set_once (tree a kids more) s t x once (inl e) (inr k) i j =
    let here : IsAmong a x = subst (λ zs. IsAmong zs x) e i in
    elim (IsAmong-append (labels kids) (labels more) t k) [ inl q ↦ absurd (once.1 x here (set_in kids t x q j)) | inr q ↦ absurd (once.2 x here (set_in more t x q j)) ]
set_once (tree a kids more) s t x once (inr l) (inl f) i j =
    let here : IsAmong a x = subst (λ zs. IsAmong zs x) f j in
    elim (IsAmong-append (labels kids) (labels more) s l) [ inl q ↦ absurd (once.1 x here (set_in kids s x q i)) | inr q ↦ absurd (once.2 x here (set_in more s x q i)) ]
set_once (tree a kids more) s t x once (inr l) (inr k) i j = elim (IsAmong-append (labels kids) (labels more) s l) [
  | inl p ↦ elim (IsAmong-append (labels kids) (labels more) t k) [
    | inl q ↦ set_once kids s t x once.4 p q i j
    | inr q ↦ absurd (once.3 x (set_in kids s x p i) (set_in more t x q j))
  ]
  | inr p ↦ elim (IsAmong-append (labels kids) (labels more) t k) [
    | inl q ↦ absurd (once.3 x (set_in kids t x q j) (set_in more s x p i))
    | inr q ↦ set_once more s t x once.5 p q i j
  ]
]
