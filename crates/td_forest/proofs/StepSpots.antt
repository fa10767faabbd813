-- A step named by nodes is the step at its spot.
use Rattle.std.specs.Prelude.{◌≡◌, ℕ, zero, suc, ◌-◌, ◌≤◌, List, [], ◌∷◌, Some, None, refl}
use Rattle.std.proofs.Common.{inl, inr, ap, ap₂, sym, ◌∙◌, subst, arith}
use Rattle.gr_base.specs.Forests.{Forest, empty, tree, beside}
use Rattle.td_forest.specs.declared.Step.{Step}
use Rattle.td_forest.specs.declared.Step.TheVariants.{Merge, Insert}
use Rattle.td_forest.specs.Nodes.{IsIn}
use Rattle.td_forest.specs.Steps.{width, first_trees, trees_behind, put, kids_of, merged, inserted, change_under, after_step, IsStep}
use Rattle.td_forest.specs.Spots.{Spot, after, spot_into, spot_under, insertion, spot_of}
use Rattle.td_forest.proofs.Twins.{AllOnce}
use Rattle.td_forest.proofs.Named.{has_true, has_false, has_in_true, has_in_false}

-- a node that is not there is merged into nothing
pub merged-absent : (x at : ℕ) (F : Forest (List ℕ)) → (IsIn F at → ⊥) → merged x at F ≡ F
merged-absent x at empty h = refl
merged-absent x at (tree set kids more) h =
    rw (has_false at set (λ i. h (inl i))) (ap₂ (λ K M. tree set K M) (merged-absent x at kids (λ i. h (inr (inl i)))) (merged-absent x at more (λ i. h (inr (inr i)))))

merged-spot : (x at : ℕ) (F : Forest (List ℕ)) → AllOnce F → IsIn F at → merged x at F ≡ after x (spot_into at F) F
merged-spot x at empty once i = absurd i
merged-spot x at (tree set kids more) once (inl i) =
    rw (has_true at set i) (ap₂ (λ K M. tree (put x set) K M) (merged-absent x at kids (λ j. once.1 at i j)) (merged-absent x at more (λ j. once.2 at i j)))
merged-spot x at (tree set kids more) once (inr (inl i)) =
    rw (has_false at set (λ j. once.1 at j i), has_in_true at kids i)
    (ap₂ (λ K M. tree set K M) (merged-spot x at kids once.4 i) (merged-absent x at more (λ j. once.3 at i j)))
merged-spot x at (tree set kids more) once (inr (inr i)) =
    rw (has_false at set (λ j. once.2 at j i), has_in_false at kids (λ j. once.3 at j i))
    (ap₂ (λ K M. tree set K M) (merged-absent x at kids (λ j. once.3 at j i)) (merged-spot x at more once.5 i))

pub inserted-spot : (x from to : ℕ) (F : Forest (List ℕ)) → from ≤ to → to ≤ width F → inserted x from to F ≡ after x (insertion from (to - from)) F
inserted-spot x zero to F a b = let e : to - 0 ≡ to = omega arith in ap (λ k. tree (x ∷ []) (first_trees k F) (trees_behind to F)) e ∙ ap (λ k. tree (x ∷ []) (first_trees k F) (trees_behind to F)) (sym e) ∙ last e
  where
    last : to - 0 ≡ to → tree (x ∷ []) (first_trees (to - 0) F) (trees_behind to F) ≡ tree (x ∷ []) (first_trees (to - 0) F) (trees_behind (to - 0) F)
    last e = ap (λ k. tree (x ∷ []) (first_trees (to - 0) F) (trees_behind k F)) (sym e)
inserted-spot x (suc i) zero F a b = absurd (omega arith)
inserted-spot x (suc i) (suc t) empty a b = absurd (omega arith)
inserted-spot x (suc i) (suc t) (tree set kids more) a b =
    let e : suc t - suc i ≡ t - i = omega arith in
    ap (λ k. tree set kids (beside (first_trees i more) (tree (x ∷ []) (first_trees k (trees_behind i more)) (trees_behind t more)))) e
    ∙ ap (λ G. tree set kids G) (inserted-spot x i t more (omega arith) (omega arith))
    ∙ ap (λ k. tree set kids (after x (insertion i k) more)) (sym e)

pub change-absent : (u : ℕ) (f : Forest (List ℕ) → Forest (List ℕ)) (F : Forest (List ℕ)) → (IsIn F u → ⊥) → change_under u f F ≡ F
change-absent u f empty h = refl
change-absent u f (tree set kids more) h =
    rw (has_false u set (λ i. h (inl i))) (ap₂ (λ K M. tree set K M) (change-absent u f kids (λ i. h (inr (inl i)))) (change-absent u f more (λ i. h (inr (inr i)))))

change-spot : (x u : ℕ) (f : Forest (List ℕ) → Forest (List ℕ)) (s : Spot) (F : Forest (List ℕ)) → AllOnce F → IsIn F u → f (kids_of u F) ≡ after x s (kids_of u F)
    → change_under u f F ≡ after x (spot_under u s F) F
change-spot x u f s empty once i e = absurd i
change-spot x u f s (tree set kids more) once (inl i) e =
    let t = has_true u set i in
    let k : kids_of u (tree set kids more) ≡ kids = rw t refl in
    rw t (ap (λ K. tree set K more) (subst (λ K. f K ≡ after x s K) k e))
change-spot x u f s (tree set kids more) once (inr (inl i)) e =
    let t = has_false u set (λ j. once.1 u j i) in
    let v = has_in_true u kids i in
    let k : kids_of u (tree set kids more) ≡ kids_of u kids = rw (t, v) refl in
    rw (t, v) (ap₂ (λ K M. tree set K M) (change-spot x u f s kids once.4 i (subst (λ K. f K ≡ after x s K) k e)) (change-absent u f more (λ j. once.3 u i j)))
change-spot x u f s (tree set kids more) once (inr (inr i)) e =
    let t = has_false u set (λ j. once.2 u j i) in
    let v = has_in_false u kids (λ j. once.3 u j i) in
    let k : kids_of u (tree set kids more) ≡ kids_of u more = rw (t, v) refl in
    rw (t, v) (ap₂ (λ K M. tree set K M) (change-absent u f kids (λ j. once.3 u j i)) (change-spot x u f s more once.5 i (subst (λ K. f K ≡ after x s K) k e)))

pub step-spot : (x : ℕ) (s : Step) (F : Forest (List ℕ)) → AllOnce F → IsStep F s → after_step x s F ≡ after x (spot_of s F) F
step-spot x (Merge at) F once h = merged-spot x at F once h
step-spot x (Insert None from to) F once h = inserted-spot x from to F h.0 h.1
step-spot x (Insert (Some u) from to) F once h = change-spot x u (λ G. inserted x from to G) (insertion from (to - from)) F once h.0 (inserted-spot x from to (kids_of u F) h.1 h.2)
