-- What a step keeps: nodes, each node once, rising sets and the relations between the nodes that were there.
use Rattle.std.specs.Prelude.{◌≡◌, ℕ, List, [], ◌∷◌, ◌⊎◌}
use Rattle.std.proofs.Common.{inl, inr, subst, sym}
use Rattle.gr_base.specs.Lists.{IsAmong}
use Rattle.gr_base.specs.Forests.{Forest, empty, tree}
use Rattle.td_forest.specs.Nodes.{IsIn}
use Rattle.td_forest.proofs.Twins.{AreSameIn, IsOverIn, IsLeftIn, AllOnce, AllRise}
use Rattle.td_forest.specs.Steps.{first_trees, trees_behind}
use Rattle.td_forest.specs.Spots.{Spot, join, wrap, down, along, after, IsSpot}
use Rattle.td_forest.proofs.SetLemmas.{in-put, put-in, put-old, put-full, put-once, put-rises}
use Rattle.td_forest.proofs.Stepping.{beside-split}
use Rattle.td_forest.proofs.Beside.{in_beside, beside_in, same_beside, beside_same, over_beside, beside_over, LeftBeside, left_beside, beside_left, once_beside, rise_beside}

-- the first trees and those behind them
pub in_split : (n : ℕ) (F : Forest (List ℕ)) (y : ℕ) → IsIn F y → IsIn (first_trees n F) y ⊎ IsIn (trees_behind n F) y
in_split n F y i = in_beside (first_trees n F) (trees_behind n F) y (subst (λ G. IsIn G y) (sym (beside-split n F)) i)

pub split_in : (n : ℕ) (F : Forest (List ℕ)) (y : ℕ) → IsIn (first_trees n F) y ⊎ IsIn (trees_behind n F) y → IsIn F y
split_in n F y i = subst (λ G. IsIn G y) (beside-split n F) (beside_in (first_trees n F) (trees_behind n F) y i)

pub over_split : (n : ℕ) (F : Forest (List ℕ)) (x y : ℕ) → IsOverIn F x y → IsOverIn (first_trees n F) x y ⊎ IsOverIn (trees_behind n F) x y
over_split n F x y i = over_beside (first_trees n F) (trees_behind n F) x y (subst (λ G. IsOverIn G x y) (sym (beside-split n F)) i)

pub split_over : (n : ℕ) (F : Forest (List ℕ)) (x y : ℕ) → IsOverIn (first_trees n F) x y ⊎ IsOverIn (trees_behind n F) x y → IsOverIn F x y
split_over n F x y i = subst (λ G. IsOverIn G x y) (beside-split n F) (beside_over (first_trees n F) (trees_behind n F) x y i)

pub same_split : (n : ℕ) (F : Forest (List ℕ)) (x y : ℕ) → AreSameIn F x y → AreSameIn (first_trees n F) x y ⊎ AreSameIn (trees_behind n F) x y
same_split n F x y i = same_beside (first_trees n F) (trees_behind n F) x y (subst (λ G. AreSameIn G x y) (sym (beside-split n F)) i)

pub split_same : (n : ℕ) (F : Forest (List ℕ)) (x y : ℕ) → AreSameIn (first_trees n F) x y ⊎ AreSameIn (trees_behind n F) x y → AreSameIn F x y
split_same n F x y i = subst (λ G. AreSameIn G x y) (beside-split n F) (beside_same (first_trees n F) (trees_behind n F) x y i)

pub left_split : (n : ℕ) (F : Forest (List ℕ)) (x y : ℕ) → IsLeftIn F x y → LeftBeside (first_trees n F) (trees_behind n F) x y
left_split n F x y i = left_beside (first_trees n F) (trees_behind n F) x y (subst (λ G. IsLeftIn G x y) (sym (beside-split n F)) i)

pub split_left : (n : ℕ) (F : Forest (List ℕ)) (x y : ℕ) → LeftBeside (first_trees n F) (trees_behind n F) x y → IsLeftIn F x y
split_left n F x y i = subst (λ G. IsLeftIn G x y) (beside-split n F) (beside_left (first_trees n F) (trees_behind n F) x y i)

-- the nodes after a step are those before it and the new one
pub in_after : (x : ℕ) (s : Spot) (F : Forest (List ℕ)) (y : ℕ) → IsIn F y → IsSpot s F → IsIn (after x s F) y
in_after x join empty y i at = absurd i
in_after x join (tree set kids more) y (inl i) at = inl (in-put x set y i)
in_after x join (tree set kids more) y (inr i) at = inr i
in_after x (wrap n) F y i at = inr (in_split n F y i)
in_after x (down s) empty y i at = absurd i
in_after x (down s) (tree set kids more) y (inl i) at = inl i
in_after x (down s) (tree set kids more) y (inr (inl i)) at = inr (inl (in_after x s kids y i at))
in_after x (down s) (tree set kids more) y (inr (inr i)) at = inr (inr i)
in_after x (along s) empty y i at = absurd i
in_after x (along s) (tree set kids more) y (inl i) at = inl i
in_after x (along s) (tree set kids more) y (inr (inl i)) at = inr (inl i)
in_after x (along s) (tree set kids more) y (inr (inr i)) at = inr (inr (in_after x s more y i at))

alone_in : (x y : ℕ) (A : Type 0) → IsAmong (x ∷ []) y → (y ≡ x → ⊥) → A
alone_in x y A (inl e) ne = absurd (ne e)
alone_in x y A (inr k) ne = absurd k

pub after_in : (x : ℕ) (s : Spot) (F : Forest (List ℕ)) (y : ℕ) → IsIn (after x s F) y → (y ≡ x → ⊥) → IsIn F y
after_in x join empty y i ne = absurd i
after_in x join (tree set kids more) y (inl i) ne = inl (put-old x set y i ne)
after_in x join (tree set kids more) y (inr i) ne = inr i
after_in x (wrap n) F y (inl i) ne = alone_in x y (IsIn F y) i ne
after_in x (wrap n) F y (inr i) ne = split_in n F y i
after_in x (down s) empty y i ne = absurd i
after_in x (down s) (tree set kids more) y (inl i) ne = inl i
after_in x (down s) (tree set kids more) y (inr (inl i)) ne = inr (inl (after_in x s kids y i ne))
after_in x (down s) (tree set kids more) y (inr (inr i)) ne = inr (inr i)
after_in x (along s) empty y i ne = absurd i
after_in x (along s) (tree set kids more) y (inl i) ne = inl i
after_in x (along s) (tree set kids more) y (inr (inl i)) ne = inr (inl i)
after_in x (along s) (tree set kids more) y (inr (inr i)) ne = inr (inr (after_in x s more y i ne))

-- a node that is new to a part of a forest with y in it is not y
not_new : (x y : ℕ) (A : Type 0) → (y ≡ x → ⊥) → (y ≡ x) → A
not_new x y A ne e = absurd (ne e)

pub in_or_new : (x : ℕ) (s : Spot) (F : Forest (List ℕ)) (y : ℕ) → IsIn (after x s F) y → (IsIn F y) ⊎ (y ≡ x)
in_or_new x join empty y i = absurd i
in_or_new x join (tree set kids more) y (inl i) = elim (put-in x set y i) [ inl j ↦ inl (inl j) | inr e ↦ inr e ]
in_or_new x join (tree set kids more) y (inr i) = inl (inr i)
in_or_new x (wrap n) F y (inl i) = elim i [ inl e ↦ inr e | inr k ↦ absurd k ]
in_or_new x (wrap n) F y (inr i) = inl (split_in n F y i)
in_or_new x (down s) empty y i = absurd i
in_or_new x (down s) (tree set kids more) y (inl i) = inl (inl i)
in_or_new x (down s) (tree set kids more) y (inr (inl i)) = elim (in_or_new x s kids y i) [ inl j ↦ inl (inr (inl j)) | inr e ↦ inr e ]
in_or_new x (down s) (tree set kids more) y (inr (inr i)) = inl (inr (inr i))
in_or_new x (along s) empty y i = absurd i
in_or_new x (along s) (tree set kids more) y (inl i) = inl (inl i)
in_or_new x (along s) (tree set kids more) y (inr (inl i)) = inl (inr (inl i))
in_or_new x (along s) (tree set kids more) y (inr (inr i)) = elim (in_or_new x s more y i) [ inl j ↦ inl (inr (inr j)) | inr e ↦ inr e ]

-- where the part lacks what P has, so does the part after a step of a node that P lacks
apart : (P : ℕ → Type 0) (x : ℕ) (s : Spot) (F : Forest (List ℕ)) → ((y : ℕ) → P y → IsIn F y → ⊥) → (P x → ⊥) → (y : ℕ) → P y → IsIn (after x s F) y → ⊥
apart P x s F h new y p i = elim (in_or_new x s F y i) [ inl j ↦ h y p j | inr e ↦ new (subst P e p) ]

pub once_after : (x : ℕ) (s : Spot) (F : Forest (List ℕ)) → AllOnce F → (IsIn F x → ⊥) → AllOnce (after x s F)
once_after x join empty once new = tt
once_after x join (tree set kids more) once new = (
  put-once x set once.0 (λ i. new (inl i)),
  (λ y i j. elim (put-in x set y i) [ inl a ↦ once.1 y a j | inr e ↦ new (inr (inl (subst (λ z. IsIn kids z) e j))) ]),
  (λ y i j. elim (put-in x set y i) [ inl a ↦ once.2 y a j | inr e ↦ new (inr (inr (subst (λ z. IsIn more z) e j))) ]),
  once.3,
  once.4,
  once.5,
)
once_after x (wrap n) F once new =
    let r = once_beside (first_trees n F) (trees_behind n F) (subst (λ G. AllOnce G) (sym (beside-split n F)) once) in (
      ((λ i. i), tt),
      (λ y i j. elim i [ inl e ↦ new (subst (λ z. IsIn F z) e (split_in n F y (inl j))) | inr k ↦ k ]),
      (λ y i j. elim i [ inl e ↦ new (subst (λ z. IsIn F z) e (split_in n F y (inr j))) | inr k ↦ k ]),
      r.2,
      r.0,
      r.1,
    )
once_after x (down s) empty once new = tt
once_after x (down s) (tree set kids more) once new = (
  once.0,
  apart (λ y. IsAmong set y) x s kids once.1 (λ i. new (inl i)),
  once.2,
  (λ y i j. apart (λ y. IsIn more y) x s kids (λ y a b. once.3 y b a) (λ i. new (inr (inr i))) y j i),
  once_after x s kids once.4 (λ i. new (inr (inl i))),
  once.5,
)
once_after x (along s) empty once new = tt
once_after x (along s) (tree set kids more) once new = (
  once.0,
  once.1,
  apart (λ y. IsAmong set y) x s more once.2 (λ i. new (inl i)),
  apart (λ y. IsIn kids y) x s more once.3 (λ i. new (inr (inl i))),
  once.4,
  once_after x s more once.5 (λ i. new (inr (inr i))),
)

cons_empty : (x : ℕ) (xs : List ℕ) → x ∷ xs ≡ [] → ⊥
cons_empty x xs e = cc

pub rise_after : (x : ℕ) (s : Spot) (F : Forest (List ℕ)) → AllRise F → (IsIn F x → ⊥) → AllRise (after x s F)
rise_after x join empty rise new = tt
rise_after x join (tree set kids more) rise new = (put-full x set, put-rises x set rise.1 (λ i. new (inl i)), rise.2, rise.3)
rise_after x (wrap n) F rise new =
    let r = rise_beside (first_trees n F) (trees_behind n F) (subst (λ G. AllRise G) (sym (beside-split n F)) rise) in
    ((λ e. absurd (cons_empty x [] e)), (tt, tt), r.0, r.1)
rise_after x (down s) empty rise new = tt
rise_after x (down s) (tree set kids more) rise new = (rise.0, rise.1, rise_after x s kids rise.2 (λ i. new (inr (inl i))), rise.3)
rise_after x (along s) empty rise new = tt
rise_after x (along s) (tree set kids more) rise new = (rise.0, rise.1, rise.2, rise_after x s more rise.3 (λ i. new (inr (inr i))))
