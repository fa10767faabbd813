-- What a step makes of positions.
use Rattle.std.specs.Prelude.{◌≡◌, ℕ, zero, suc, ◌+◌, ◌-◌, ◌<◌, ◌≤◌, List, [], ◌∷◌, ◌++◌, ◌⊎◌, Bool, true, false, if◌then◌else◌, Option, Some, None, refl}
use Rattle.std.proofs.Common.{inl, inr, ap, sym, ◌∙◌, subst, arith}
use Rattle.std.proofs.lemmas.Bool.{cases_lt, cases_eq, lt-ltb, le-ltb}
use Rattle.gr_base.specs.Lists.{IsAmong}
use Rattle.gr_base.specs.Forests.{Forest, empty, tree, map_forest, label_at}
use Rattle.td_forest.specs.declared.Step.TheVariants.{Merge, Insert}
use Rattle.td_forest.specs.declared.Made.{Made}
use Rattle.td_forest.specs.Nodes.{Stands, IsIn}
use Rattle.td_forest.specs.Steps.{width, first_trees, trees_behind, put, has, kids_of, merged, inserted, change_under, after_step, IsStep, IsGrown, forest_of}
use Rattle.td_forest.specs.Spots.{after, insertion, spot_of}
use Rattle.td_forest.specs.Moves.{IsBase, moved, stay, IsMoved}
use Rattle.td_forest.proofs.Twins.{AllOnce}
use Rattle.td_forest.proofs.SetLemmas.{in-put, put-new, eqb-same, eqb-other}
use Rattle.td_forest.proofs.Named.{has_true, has_false, has_in_true, has_in_false}
use Rattle.td_forest.proofs.Growing.{in_or_new}
use Rattle.td_forest.proofs.StepSpots.{step-spot, inserted-spot, change-absent}
use Rattle.td_forest.proofs.Positions.{none_some, at_in}
use Rattle.td_forest.proofs.Places.{grown_push, steps_is}

-- the label at a position of a forest whose labels are changed
abbrev changed : (List ℕ → List ℕ) → Option (List ℕ) → Option (List ℕ)
changed g None = None
changed g (Some set) = Some (g set)

label_at-map : (g : List ℕ → List ℕ) (F : Forest (List ℕ)) (p : List ℕ) → label_at (map_forest g F) p ≡ changed g (label_at F p)
label_at-map g empty p = refl
label_at-map g (tree set kids more) [] = refl
label_at-map g (tree set kids more) (zero ∷ []) = refl
label_at-map g (tree set kids more) (zero ∷ j ∷ p) = label_at-map g kids (j ∷ p)
label_at-map g (tree set kids more) (suc i ∷ p) = label_at-map g more (i ∷ p)

abbrev with_node : ℕ → ℕ → List ℕ → List ℕ
with_node x at set = if has at set then put x set else set

with_old : (x at : ℕ) (set : List ℕ) (y : ℕ) → IsAmong set y → IsAmong (with_node x at set) y
with_old x at set y i = both (has at set)
  where
    both : (b : Bool) → IsAmong (if b then put x set else set) y
    both true = in-put x set y i
    both false = i

-- a step of merging moves no node
merged_old : (x at : ℕ) (F : Forest (List ℕ)) (y : ℕ) (p : List ℕ) → Stands F y p → Stands (merged x at F) y p
merged_old x at F y p h =
    (with_node x at h.0, label_at-map (with_node x at) F p ∙ ap (changed (with_node x at)) h.1, with_old x at h.0 y h.2)

merged_new : (x at : ℕ) (F : Forest (List ℕ)) (p : List ℕ) → Stands F at p → Stands (merged x at F) x p
merged_new x at F p h =
    let e : with_node x at h.0 ≡ put x h.0 = rw (has_true at h.0 h.2) refl in
    (put x h.0, label_at-map (with_node x at) F p ∙ ap (changed (with_node x at)) h.1 ∙ ap (λ s. Some s) e, put-new x h.0)

-- no step adds more than its node
step_only : (m : Made) (F : Forest (List ℕ)) → AllOnce F → IsStep F m.step → (y : ℕ) → IsIn (after_step m.node m.step F) y → IsIn F y ⊎ (y ≡ m.node)
step_only m F once can y i = in_or_new m.node (spot_of m.step F) F y (subst (λ G. IsIn G y) (step-spot m.node m.step F once can) i)

pub merge_moves : (x at : ℕ) (F : Forest (List ℕ)) (p : List ℕ) → AllOnce F → IsIn F at → Stands F at p → IsMoved F (merged x at F) stay x p
merge_moves x at F p once i h = record {
  old = merged_old x at F;
  new = merged_new x at F p h;
  only = step_only (record { node = x; step = Merge at }) F once i;
}

-- a position and what stands there, in the parts of a list of trees
first_at : (n : ℕ) (F : Forest (List ℕ)) (j : ℕ) (q : List ℕ) → j < n → label_at (first_trees n F) (j ∷ q) ≡ label_at F (j ∷ q)
first_at zero F j q h = absurd (omega arith)
first_at (suc n) empty j q h = refl
first_at (suc n) (tree set kids more) zero [] h = refl
first_at (suc n) (tree set kids more) zero (k ∷ q) h = refl
first_at (suc n) (tree set kids more) (suc j) q h = first_at n more j q (omega arith)

-- a tree is one further on
along_at : (set : List ℕ) (kids more : Forest (List ℕ)) (i j : ℕ) (q : List ℕ) → j ≡ suc i → label_at (tree set kids more) (j ∷ q) ≡ label_at more (i ∷ q)
along_at set kids more i j q e = ap (λ k. label_at (tree set kids more) (k ∷ q)) e

behind_at : (n : ℕ) (F : Forest (List ℕ)) (j : ℕ) (q : List ℕ) → label_at (trees_behind n F) (j ∷ q) ≡ label_at F ((n + j) ∷ q)
behind_at zero F j q = let e : j ≡ 0 + j = omega arith in ap (λ k. label_at F (k ∷ q)) e
behind_at (suc n) empty j q = refl
behind_at (suc n) (tree set kids more) j q = behind_at n more j q ∙ sym (along_at set kids more (n + j) (suc n + j) q (omega arith))

module _ (x n : ℕ) where
  -- what stands before the new tree node, under it, and behind it
  before_new : (i : ℕ) (F : Forest (List ℕ)) (j : ℕ) (q : List ℕ) → j < i → label_at (after x (insertion i n) F) (j ∷ q) ≡ label_at F (j ∷ q)
  before_new zero F j q h = absurd (omega arith)
  before_new (suc i) empty j q h = refl
  before_new (suc i) (tree set kids more) zero [] h = refl
  before_new (suc i) (tree set kids more) zero (k ∷ q) h = refl
  before_new (suc i) (tree set kids more) (suc j) q h = before_new i more j q (omega arith)

  under_new : (i : ℕ) (F : Forest (List ℕ)) (j : ℕ) (q : List ℕ) → j < n → label_at (after x (insertion i n) F) (i ∷ j ∷ q) ≡ label_at F ((i + j) ∷ q)
  under_new zero F j q h = let e : j ≡ 0 + j = omega arith in first_at n F j q h ∙ ap (λ k. label_at F (k ∷ q)) e
  under_new (suc i) empty j q h = refl
  under_new (suc i) (tree set kids more) j q h = under_new i more j q h ∙ sym (along_at set kids more (i + j) (suc i + j) q (omega arith))

  behind_new : (i : ℕ) (F : Forest (List ℕ)) (j : ℕ) (q : List ℕ) → label_at (after x (insertion i n) F) (suc (i + j) ∷ q) ≡ label_at F ((i + n + j) ∷ q)
  behind_new zero F j q =
      let e : 0 + j ≡ j = omega arith in
      let f : 0 + n + j ≡ n + j = omega arith in
      ap (λ k. label_at (trees_behind n F) (k ∷ q)) e ∙ behind_at n F j q ∙ ap (λ k. label_at F (k ∷ q)) (sym f)
  behind_new (suc i) empty j q = refl
  behind_new (suc i) (tree set kids more) j q =
      let e : suc i + j ≡ suc (i + j) = omega arith in
      along_at set kids (after x (insertion i n) more) (suc (i + j)) (suc (suc i + j)) q (ap suc e)
      ∙ behind_new i more j q ∙ sym (along_at set kids more (i + n + j) (suc i + n + j) q (omega arith))

  at_new : (i : ℕ) (F : Forest (List ℕ)) → i ≤ width F → label_at (after x (insertion i n) F) (i ∷ []) ≡ Some (x ∷ [])
  at_new zero F h = refl
  at_new (suc i) empty h = absurd (omega arith)
  at_new (suc i) (tree set kids more) h = at_new i more (omega arith)

-- the new position in a list of trees
moved_before : (from to i : ℕ) (q : List ℕ) → i < from → moved [] from to (i ∷ q) ≡ i ∷ q
moved_before from to i q h = rw (lt-ltb i from h) refl

moved_under : (from to i : ℕ) (q : List ℕ) → from ≤ i → i < to → moved [] from to (i ∷ q) ≡ from ∷ (i - from) ∷ q
moved_under from to i q h k = rw (le-ltb i from h, lt-ltb i to k) refl

moved_behind : (from to i : ℕ) (q : List ℕ) → from ≤ i → to ≤ i → moved [] from to (i ∷ q) ≡ suc (from + (i - to)) ∷ q
moved_behind from to i q h k = rw (le-ltb i from h, le-ltb i to k) refl

stands_at : (F G : Forest (List ℕ)) (y : ℕ) (p q : List ℕ) → Stands F y p → label_at G q ≡ label_at F p → Stands G y q
stands_at F G y p q h e = (h.0, e ∙ h.1, h.2)

insertion_old : (x from to : ℕ) (F : Forest (List ℕ)) → from ≤ to → (y : ℕ) (p : List ℕ) → Stands F y p → Stands (after x (insertion from (to - from)) F) y (moved [] from to p)
insertion_old x from to F le y [] h = absurd (no_root F h)
  where
    no_root : (F : Forest (List ℕ)) → Stands F y [] → ⊥
    no_root empty h = none_some h.0 h.1
    no_root (tree set kids more) h = none_some h.0 h.1
insertion_old x from to F le y (i ∷ q) h = elim (cases_lt i from) [
  | inl l ↦ subst (λ p. Stands (after x (insertion from (to - from)) F) y p) (sym (moved_before from to i q l))
      (stands_at F (after x (insertion from (to - from)) F) y (i ∷ q) (i ∷ q) h (before_new x (to - from) from F i q l))
  | inr g ↦ elim (cases_lt i to) [
    | inl l ↦
        let e : from + (i - from) ≡ i = omega arith in
        subst (λ p. Stands (after x (insertion from (to - from)) F) y p) (sym (moved_under from to i q g l))
        (stands_at F (after x (insertion from (to - from)) F) y (i ∷ q) (from ∷ (i - from) ∷ q) h
        (under_new x (to - from) from F (i - from) q (omega arith) ∙ ap (λ k. label_at F (k ∷ q)) e))
    | inr k ↦
        let e : from + (to - from) + (i - to) ≡ i = omega arith in
        subst (λ p. Stands (after x (insertion from (to - from)) F) y p) (sym (moved_behind from to i q g k))
        (stands_at F (after x (insertion from (to - from)) F) y (i ∷ q) (suc (from + (i - to)) ∷ q) h
        (behind_new x (to - from) from F (i - to) q ∙ ap (λ k. label_at F (k ∷ q)) e))
  ]
]

inserted_old : (x from to : ℕ) (F : Forest (List ℕ)) → from ≤ to → to ≤ width F → (y : ℕ) (p : List ℕ) → Stands F y p → Stands (inserted x from to F) y (moved [] from to p)
inserted_old x from to F a b y p h = subst (λ G. Stands G y (moved [] from to p)) (sym (inserted-spot x from to F a b)) (insertion_old x from to F a y p h)

inserted_new : (x from to : ℕ) (F : Forest (List ℕ)) → from ≤ to → to ≤ width F → Stands (inserted x from to F) x (from ∷ [])
inserted_new x from to F a b =
    subst (λ G. Stands G x (from ∷ [])) (sym (inserted-spot x from to F a b)) (x ∷ [], at_new x (to - from) from F (omega arith), inl refl)

-- further down and along
down_at : (set : List ℕ) (K M : Forest (List ℕ)) (y : ℕ) (p : List ℕ) → Stands K y p → Stands (tree set K M) y (zero ∷ p)
down_at set empty M y p h = absurd (none_some h.0 h.1)
down_at set (tree a k m) M y [] h = absurd (none_some h.0 h.1)
down_at set (tree a k m) M y (i ∷ p) h = h

abbrev next_number : List ℕ → List ℕ
next_number [] = []
next_number (i ∷ p) = suc i ∷ p

next_at : (set : List ℕ) (K M : Forest (List ℕ)) (y : ℕ) (p : List ℕ) → Stands M y p → Stands (tree set K M) y (next_number p)
next_at set K empty y p h = absurd (none_some h.0 h.1)
next_at set K (tree a k m) y [] h = absurd (none_some h.0 h.1)
next_at set K (tree a k m) y (i ∷ p) h = h

moved_same : (b from to : ℕ) (base q : List ℕ) → moved (b ∷ base) from to (b ∷ q) ≡ b ∷ moved base from to q
moved_same b from to base q = rw (eqb-same b) refl

moved_other : (b i from to : ℕ) (base q : List ℕ) → (i ≡ b → ⊥) → moved (b ∷ base) from to (i ∷ q) ≡ i ∷ q
moved_other b i from to base q ne = rw (eqb-other i b (λ e. ne (sym e))) refl

moved_next : (b i from to : ℕ) (base q : List ℕ) → moved (suc b ∷ base) from to (suc i ∷ q) ≡ next_number (moved (b ∷ base) from to (i ∷ q))
moved_next b i from to base q = elim (cases_eq i b) [
  | inl e ↦ subst (λ k. moved (suc k ∷ base) from to (suc i ∷ q) ≡ next_number (moved (k ∷ base) from to (i ∷ q))) e
      (moved_same (suc i) from to base q ∙ ap next_number (sym (moved_same i from to base q)))
  | inr ne ↦ moved_other (suc b) (suc i) from to base q (λ e. ne (omega arith)) ∙ ap next_number (sym (moved_other b i from to base q ne))
]

pub set_is : (set : List ℕ) (u : ℕ) (h : (s : List ℕ) × (◌≡◌ {A = Option (List ℕ)} (Some set) (Some s)) × IsAmong s u) → IsAmong set u
set_is set u h = let e : Some set ≡ Some h.0 = h.1 in let s : h.0 ≡ set = cc in subst (λ zs. IsAmong zs u) s h.2

module _ (x u from to : ℕ) (le : from ≤ to) where
  abbrev grown_under : Forest (List ℕ) → Forest (List ℕ)
  grown_under F = change_under u (inserted x from to) F

  under_here : (set : List ℕ) (kids more : Forest (List ℕ)) → IsAmong set u → grown_under (tree set kids more) ≡ tree set (inserted x from to kids) more
  under_here set kids more i = rw (has_true u set i) refl

  under_kids : (set : List ℕ) (kids more : Forest (List ℕ)) → AllOnce (tree set kids more) → IsIn kids u → grown_under (tree set kids more) ≡ tree set (grown_under kids) more
  under_kids set kids more once i =
      rw (has_false u set (λ j. once.1 u j i)) (ap (λ M. tree set (grown_under kids) M) (change-absent u (inserted x from to) more (λ j. once.3 u i j)))

  under_more : (set : List ℕ) (kids more : Forest (List ℕ)) → AllOnce (tree set kids more) → IsIn more u → grown_under (tree set kids more) ≡ tree set kids (grown_under more)
  under_more set kids more once i =
      rw (has_false u set (λ j. once.2 u j i)) (ap (λ K. tree set K (grown_under more)) (change-absent u (inserted x from to) kids (λ j. once.3 u j i)))

  -- the children of the node are many enough
  abbrev Fits : Forest (List ℕ) → Type 0
  Fits F = to ≤ width (kids_of u F)

  fits_here : (set : List ℕ) (kids more : Forest (List ℕ)) → IsAmong set u → Fits (tree set kids more) → to ≤ width kids
  fits_here set kids more i h = let e : kids_of u (tree set kids more) ≡ kids = rw (has_true u set i) refl in subst (λ G. to ≤ width G) e h

  fits_kids : (set : List ℕ) (kids more : Forest (List ℕ)) → AllOnce (tree set kids more) → IsIn kids u → Fits (tree set kids more) → Fits kids
  fits_kids set kids more once i h =
      let e : kids_of u (tree set kids more) ≡ kids_of u kids = rw (has_false u set (λ j. once.1 u j i), has_in_true u kids i) refl in subst (λ G. to ≤ width G) e h

  fits_more : (set : List ℕ) (kids more : Forest (List ℕ)) → AllOnce (tree set kids more) → IsIn more u → Fits (tree set kids more) → Fits more
  fits_more set kids more once i h =
      let e : kids_of u (tree set kids more) ≡ kids_of u more = rw (has_false u set (λ j. once.2 u j i), has_in_false u kids (λ j. once.3 u j i)) refl in
      subst (λ G. to ≤ width G) e h

  under_old : (F : Forest (List ℕ)) (base : List ℕ) → AllOnce F → Stands F u base → Fits F → (y : ℕ) (p : List ℕ) → Stands F y p → Stands (grown_under F) y (moved base from to p)
  under_old empty base once b fits y p h = absurd (none_some h.0 h.1)
  under_old (tree set kids more) [] once b fits y p h = absurd (none_some b.0 b.1)
  under_old (tree set kids more) (c ∷ base) once b fits y [] h = absurd (none_some h.0 h.1)
  under_old (tree set kids more) (zero ∷ []) once b fits y (zero ∷ q) h =
      let i = set_is set u b in
      subst (λ G. Stands G y (moved (zero ∷ []) from to (zero ∷ q))) (sym (under_here set kids more i))
      (subst (λ p. Stands (tree set (inserted x from to kids) more) y p) (sym (moved_same zero from to [] q)) (inner q h i))
    where
      inner : (q : List ℕ) → Stands (tree set kids more) y (zero ∷ q) → IsAmong set u → Stands (tree set (inserted x from to kids) more) y (zero ∷ moved [] from to q)
      inner [] h i = h
      inner (j ∷ q) h i = down_at set (inserted x from to kids) more y (moved [] from to (j ∷ q)) (inserted_old x from to kids le (fits_here set kids more i fits) y (j ∷ q) h)
  under_old (tree set kids more) (zero ∷ []) once b fits y (suc j ∷ q) h =
      subst (λ G. Stands G y (moved (zero ∷ []) from to (suc j ∷ q))) (sym (under_here set kids more (set_is set u b)))
      (subst (λ p. Stands (tree set (inserted x from to kids) more) y p) (sym (moved_other zero (suc j) from to [] q (λ e. omega arith))) h)
  under_old (tree set kids more) (zero ∷ c ∷ base) once b fits y (zero ∷ q) h =
      let i : IsIn kids u = at_in kids u (c ∷ base) b in
      subst (λ G. Stands G y (moved (zero ∷ c ∷ base) from to (zero ∷ q))) (sym (under_kids set kids more once i))
      (subst (λ p. Stands (tree set (grown_under kids) more) y p) (sym (moved_same zero from to (c ∷ base) q))
      (inner q (λ p k. under_old kids (c ∷ base) once.4 b (fits_kids set kids more once i fits) y p k) h))
    where
      inner : (q : List ℕ) → ((p : List ℕ) → Stands kids y p → Stands (grown_under kids) y (moved (c ∷ base) from to p)) → Stands (tree set kids more) y (zero ∷ q)
          → Stands (tree set (grown_under kids) more) y (zero ∷ moved (c ∷ base) from to q)
      inner [] deeper h = h
      inner (j ∷ q) deeper h = down_at set (grown_under kids) more y (moved (c ∷ base) from to (j ∷ q)) (deeper (j ∷ q) h)
  under_old (tree set kids more) (zero ∷ c ∷ base) once b fits y (suc j ∷ q) h =
      subst (λ G. Stands G y (moved (zero ∷ c ∷ base) from to (suc j ∷ q))) (sym (under_kids set kids more once (at_in kids u (c ∷ base) b)))
      (subst (λ p. Stands (tree set (grown_under kids) more) y p) (sym (moved_other zero (suc j) from to (c ∷ base) q (λ e. omega arith))) h)
  under_old (tree set kids more) (suc c ∷ base) once b fits y (zero ∷ q) h =
      subst (λ G. Stands G y (moved (suc c ∷ base) from to (zero ∷ q))) (sym (under_more set kids more once (at_in more u (c ∷ base) b)))
      (subst (λ p. Stands (tree set kids (grown_under more)) y p) (sym (moved_other (suc c) zero from to base q (λ e. omega arith))) (inner q h))
    where
      inner : (q : List ℕ) → Stands (tree set kids more) y (zero ∷ q) → Stands (tree set kids (grown_under more)) y (zero ∷ q)
      inner [] h = h
      inner (j ∷ q) h = h
  under_old (tree set kids more) (suc c ∷ base) once b fits y (suc j ∷ q) h =
      subst (λ G. Stands G y (moved (suc c ∷ base) from to (suc j ∷ q))) (sym (under_more set kids more once (at_in more u (c ∷ base) b)))
      (subst (λ p. Stands (tree set kids (grown_under more)) y p) (sym (moved_next c j from to base q))
      (next_at set kids (grown_under more) y (moved (c ∷ base) from to (j ∷ q)) (under_old more (c ∷ base) once.5 b (fits_more set kids more once (at_in more u (c ∷ base) b) fits) y (j ∷ q) h)))

  -- the position of the new node
  under_new_at : (F : Forest (List ℕ)) (base : List ℕ) → AllOnce F → Stands F u base → Fits F → Stands (grown_under F) x (base ++ from ∷ [])
  under_new_at empty base once b fits = absurd (none_some b.0 b.1)
  under_new_at (tree set kids more) [] once b fits = absurd (none_some b.0 b.1)
  under_new_at (tree set kids more) (zero ∷ []) once b fits =
      let i = set_is set u b in
      subst (λ G. Stands G x (zero ∷ from ∷ [])) (sym (under_here set kids more i)) (inserted_new x from to kids le (fits_here set kids more i fits))
  under_new_at (tree set kids more) (zero ∷ c ∷ base) once b fits =
      let i : IsIn kids u = at_in kids u (c ∷ base) b in
      subst (λ G. Stands G x (zero ∷ c ∷ base ++ from ∷ [])) (sym (under_kids set kids more once i))
      (under_new_at kids (c ∷ base) once.4 b (fits_kids set kids more once i fits))
  under_new_at (tree set kids more) (suc c ∷ base) once b fits =
      let i : IsIn more u = at_in more u (c ∷ base) b in
      subst (λ G. Stands G x (suc c ∷ base ++ from ∷ [])) (sym (under_more set kids more once i))
      (under_new_at more (c ∷ base) once.5 b (fits_more set kids more once i fits))

pub insert_moves : (x : ℕ) (under : Option ℕ) (from to : ℕ) (F : Forest (List ℕ)) (base : List ℕ) → AllOnce F → IsStep F (Insert under from to) → IsBase F under base
    → IsMoved F (after_step x (Insert under from to) F) (moved base from to) x (base ++ from ∷ [])
insert_moves x None from to F base once step is = record {
  old = λ y p h. subst (λ b. Stands (inserted x from to F) y (moved b from to p)) (sym is) (inserted_old x from to F step.0 step.1 y p h);
  new = subst (λ b. Stands (inserted x from to F) x (b ++ from ∷ [])) (sym is) (inserted_new x from to F step.0 step.1);
  only = step_only (record { node = x; step = Insert None from to }) F once step;
}
insert_moves x (Some u) from to F base once step is = record {
  old = under_old x u from to step.1 F base once is step.2;
  new = under_new_at x u from to step.1 F base once is step.2;
  only = step_only (record { node = x; step = Insert (Some u) from to }) F once step;
}

-- the same of the forests of lists of steps
pub steps_merge : (ms new : List Made) (x at : ℕ) → IsGrown empty ms → IsStep (forest_of ms) (Merge at) → new ≡ ms ++ record { node = x; step = Merge at } ∷ [] → (p : List ℕ) → Stands (forest_of ms) at p
    → IsMoved (forest_of ms) (forest_of new) stay x p
steps_merge ms new x at grown step e p is =
    let m : Made = record { node = x; step = Merge at } in
    let f : forest_of new ≡ after_step x (Merge at) (forest_of ms) = ap forest_of e ∙ grown_push ms m empty in
    subst (λ G. IsMoved (forest_of ms) G stay x p) (sym f) (merge_moves x at (forest_of ms) p (steps_is ms grown).once step is)

pub steps_insert : (ms new : List Made) (x : ℕ) (under : Option ℕ) (from to : ℕ) → IsGrown empty ms → IsStep (forest_of ms) (Insert under from to)
    → new ≡ ms ++ record { node = x; step = Insert under from to } ∷ [] → (base : List ℕ) → IsBase (forest_of ms) under base
    → IsMoved (forest_of ms) (forest_of new) (moved base from to) x (base ++ from ∷ [])
steps_insert ms new x under from to grown step e base is =
    let m : Made = record { node = x; step = Insert under from to } in
    let f : forest_of new ≡ after_step x (Insert under from to) (forest_of ms) = ap forest_of e ∙ grown_push ms m empty in
    subst (λ G. IsMoved (forest_of ms) G (moved base from to) x (base ++ from ∷ [])) (sym f) (insert_moves x under from to (forest_of ms) base (steps_is ms grown).once step is)
