-- What a step of the last node adds to the network.
use Rattle.std.specs.Prelude.{◌≡◌, ℕ, ◌-◌, ◌<◌, List, [], ◌∷◌, ◌++◌, map, ◌⊎◌, Bool, true, false, ◌==◌, if◌then◌else◌, Option, Some, None, slice_get, refl}
use Rattle.std.proofs.Common.{inl, inr, ap, sym, ◌∙◌, subst}
use Rattle.std.proofs.lemmas.Bool.{cases_eq}
use Rattle.gr_base.specs.Lists.{IsAmong, IsWithin, gathered}
use Rattle.gr_base.specs.Forests.{Forest, empty, tree, labels}
use Rattle.gr_base.proofs.ListLemmas.{IsAmong-append, IsAmong-append_left, IsAmong-append_right, IsAmong-map, IsAmong-gathered}
use Rattle.gr_base.proofs.ForestLemmas.{labels-beside, labels-map}
use Rattle.gr_terms.specs.Networks.{Assertion}
use Rattle.td_desc.specs.Descriptions.{Description}
use Rattle.td_forest.specs.declared.Step.{Step}
use Rattle.td_forest.specs.declared.Step.TheVariants.{Merge, Insert}
use Rattle.td_forest.specs.Nodes.{IsIn, IsForestOf}
use Rattle.td_forest.specs.Steps.{put, has, first_trees, trees_behind, merged, inserted, change_under, after_step, IsStep}
use Rattle.td_forest.specs.Names.{IsHead}
use Rattle.td_forest.specs.Spots.{spot_of}
use Rattle.td_forest.proofs.Twins.{AllOnce}
use Rattle.td_forest.proofs.SetLemmas.{put-last, put-new, eqb-other}
use Rattle.td_forest.proofs.Named.{has_true, has_false}
use Rattle.td_forest.proofs.Places.{spot_there}
use Rattle.td_forest.proofs.StepSpots.{step-spot}
use Rattle.td_forest.proofs.Heading.{head_set}
use Rattle.td_forest.proofs.Forming.{forest_is}
use Rattle.td_forest.proofs.OneStep.{step_below}
use Rattle.td_forest.proofs.Sets.{set_in, set_once, gathered_before, gathered_after}
use Rattle.td_colour.specs.Models.{node_links, set_links, merged_network}
use Rattle.td_colour.proofs.Modelling.{links_less}

-- what is gathered of changed elements is gathered of the elements, or is of E
gathered_changed : {A B : Type 0} (f : A → List B) (g : A → A) (E : B → Type 0) (y : B) (xs : List A) → ((x : A) → IsAmong xs x → IsAmong (f (g x)) y → IsAmong (f x) y ⊎ E y)
    → IsAmong (gathered f (map g xs)) y → IsAmong (gathered f xs) y ⊎ E y
gathered_changed f g E y [] one i = absurd i
gathered_changed f g E y (x ∷ xs) one i = elim (IsAmong-append (f (g x)) (gathered f (map g xs)) y i) [
  | inl j ↦ elim (one x (inl refl) j) [ inl k ↦ inl (IsAmong-append_left (f x) (gathered f xs) y k) | inr e ↦ inr e ]
  | inr j ↦ elim (gathered_changed f g E y xs (λ z k. one z (inr k)) j) [ inl k ↦ inl (IsAmong-append_right (f x) (gathered f xs) y k) | inr e ↦ inr e ]
]

gathered_end : {A B : Type 0} (f : A → List B) (xs : List A) (x : A) (y : B) → IsAmong (gathered f (xs ++ x ∷ [])) y → IsAmong (gathered f xs) y ⊎ IsAmong (f x) y
gathered_end f [] x y i = elim (IsAmong-append (f x) [] y i) [ inl j ↦ inr j | inr j ↦ absurd j ]
gathered_end f (z ∷ zs) x y i = elim (IsAmong-append (f z) (gathered f (zs ++ x ∷ [])) y i) [
  | inl j ↦ inl (IsAmong-append_left (f z) (gathered f zs) y j)
  | inr j ↦ elim (gathered_end f zs x y j) [ inl k ↦ inl (IsAmong-append_right (f z) (gathered f zs) y k) | inr k ↦ inr k ]
]

-- an insertion makes a tree node of the new node alone
pub single_inserted : (x from to : ℕ) (F : Forest (List ℕ)) → IsAmong (labels (inserted x from to F)) (x ∷ [])
single_inserted x from to F =
    subst (λ zs. IsAmong zs (x ∷ [])) (sym (labels-beside (first_trees from F) (tree (x ∷ []) (first_trees (to - from) (trees_behind from F)) (trees_behind to F))))
    (IsAmong-append_right (labels (first_trees from F)) (labels (tree (x ∷ []) (first_trees (to - from) (trees_behind from F)) (trees_behind to F))) (x ∷ []) (inl refl))

pub single_under : (x u from to : ℕ) (F : Forest (List ℕ)) → AllOnce F → IsIn F u → IsAmong (labels (change_under u (inserted x from to) F)) (x ∷ [])
single_under x u from to empty once i = absurd i
single_under x u from to (tree set kids more) once (inl i) =
    rw (has_true u set i) (inr (IsAmong-append_left (labels (inserted x from to kids)) (labels more) (x ∷ []) (single_inserted x from to kids)))
single_under x u from to (tree set kids more) once (inr (inl i)) =
    rw (has_false u set (λ j. once.1 u j i))
    (inr (IsAmong-append_left (labels (change_under u (inserted x from to) kids)) (labels (change_under u (inserted x from to) more)) (x ∷ []) (single_under x u from to kids once.4 i)))
single_under x u from to (tree set kids more) once (inr (inr i)) =
    rw (has_false u set (λ j. once.2 u j i))
    (inr (IsAmong-append_right (labels (change_under u (inserted x from to) kids)) (labels (change_under u (inserted x from to) more)) (x ∷ []) (single_under x u from to more once.5 i)))

pub single_label : (x : ℕ) (under : Option ℕ) (from to : ℕ) (F : Forest (List ℕ)) → AllOnce F → IsStep F (Insert under from to) → IsAmong (labels (after_step x (Insert under from to) F)) (x ∷ [])
single_label x None from to F once step = single_inserted x from to F
single_label x (Some u) from to F once step = single_under x u from to F once step.0

true_has : (x : ℕ) (set : List ℕ) → has x set ≡ true → IsAmong set x
true_has x [] e = cc
true_has x (y ∷ ys) e = elim (cases_eq y x) [
  | inl q ↦ inl (sym q)
  | inr ne ↦ inr (true_has x ys (sym (rest_of (eqb-other y x (λ q. ne (sym q)))) ∙ e))
]
  where
    rest_of : (y == x) ≡ false → (if y == x then true else has x ys) ≡ has x ys
    rest_of f = rw f refl

module _ {V S : Type 0} (d : Description V S) (m : ℕ) (F : Forest (List ℕ)) (f : IsForestOf m F) where
  abbrev links : List ℕ → List (Assertion V S)
  links set = set_links d.nodes set

  low : (y : ℕ) → IsIn F y → y < m
  low y i = (f.nodes y).0 i

  -- what was linked before a step is linked after it
  pub links_kept : (s : Step) → IsStep F s → IsWithin (merged_network d F) (merged_network d (after_step m s F))
  links_kept s step y i = elim (IsAmong-append d.network (gathered links (labels F)) y i) [
    | inl j ↦ IsAmong-append_left d.network (gathered links (labels (after_step m s F))) y j
    | inr j ↦ IsAmong-append_right d.network (gathered links (labels (after_step m s F))) y
        (subst (λ G. IsAmong (gathered links (labels G)) y) (sym (step-spot m s F (forest_is F f.forest).once step))
        (gathered_before links m (links_less d.nodes m) (spot_of s F) F low (spot_there s F (forest_is F f.forest).once step) y j))
  ]

  -- an insertion links nothing more
  pub insert_links : (under : Option ℕ) (from to : ℕ) → IsStep F (Insert under from to) → IsWithin (merged_network d (after_step m (Insert under from to) F)) (merged_network d F)
  insert_links under from to step y i =
      let s = Insert under from to in
      let once = (forest_is F f.forest).once in
      let e = step-spot m s F once step in
      let after_once = (forest_is (after_step m s F) (step_below m F s f step).forest).once in
      elim (IsAmong-append d.network (gathered links (labels (after_step m s F))) y i) [
        | inl j ↦ IsAmong-append_left d.network (gathered links (labels F)) y j
        | inr j ↦ elim (gathered_after links m (λ z. ⊥) y (λ k. k) (spot_of s F) F (spot_there s F once step)
            (λ set l k.
            let there : IsAmong (labels (after_step m s F)) (put m set) = subst (λ G. IsAmong (labels G) (put m set)) (sym e) l in
            let q : put m set ≡ m ∷ [] = set_once (after_step m s F) (put m set) (m ∷ []) m after_once there (single_label m under from to F once step) (put-new m set) (inl refl) in
            absurd (subst (λ zs. IsAmong (links zs) y) q k))
            (subst (λ G. IsAmong (gathered links (labels G)) y) e j)) [
              | inl k ↦ IsAmong-append_right d.network (gathered links (labels F)) y k
              | inr k ↦ absurd k
            ]
      ]

  -- a merge links the slots of the first node of the tree node with those of the new one
  module _ (at : ℕ) (head : IsHead F at) where
    abbrev more_links : List (Assertion V S)
    more_links = node_links (slice_get d.nodes at) (slice_get d.nodes m)

    abbrev rest : List ℕ
    rest = (head_set F at head).0

    there : IsAmong (labels F) (at ∷ rest)
    there = (head_set F at head).1

    grown : put m (at ∷ rest) ≡ at ∷ rest ++ m ∷ []
    grown = put-last m (at ∷ rest) (λ y i. low y (set_in F (at ∷ rest) y there i))

    pub merge_adds : IsWithin more_links (merged_network d (after_step m (Merge at) F))
    merge_adds y i =
        let e : (if has at (at ∷ rest) then put m (at ∷ rest) else (at ∷ rest)) ≡ at ∷ rest ++ m ∷ [] = rw (has_true at (at ∷ rest) (inl refl)) grown in
        let l : IsAmong (labels (merged m at F)) (at ∷ rest ++ m ∷ []) =
        subst (λ zs. IsAmong zs (at ∷ rest ++ m ∷ [])) (sym (labels-map (λ set. if has at set then put m set else set) F))
        (subst (λ z. IsAmong (map (λ set. if has at set then put m set else set) (labels F)) z) e (IsAmong-map (λ set. if has at set then put m set else set) (labels F) (at ∷ rest) there)) in
        IsAmong-append_right d.network (gathered links (labels (merged m at F))) y
        (IsAmong-gathered links (labels (merged m at F)) (at ∷ rest ++ m ∷ []) y l
        (IsAmong-gathered (λ w. node_links (slice_get d.nodes at) (slice_get d.nodes w)) (rest ++ m ∷ []) m y (IsAmong-append_right rest (m ∷ []) m (inl refl)) i))

    one_set : (y : Assertion V S) (set : List ℕ) → IsAmong (labels F) set → (b : Bool) → has at set ≡ b → IsAmong (links (if b then put m set else set)) y → IsAmong (links set) y ⊎ IsAmong more_links y
    one_set y set l false e i = inl i
    one_set y set l true e i =
        let same : set ≡ at ∷ rest = set_once F set (at ∷ rest) at (forest_is F f.forest).once l there (true_has at set e) (inl refl) in
        let j : IsAmong (links (at ∷ rest ++ m ∷ [])) y = subst (λ zs. IsAmong (links zs) y) (ap (put m) same ∙ grown) i in
        elim (gathered_end (λ w. node_links (slice_get d.nodes at) (slice_get d.nodes w)) rest m y j) [ inl k ↦ inl (subst (λ zs. IsAmong (links zs) y) (sym same) k) | inr k ↦ inr k ]

    pub merge_links : IsWithin (merged_network d (after_step m (Merge at) F)) (merged_network d F ++ more_links)
    merge_links y i = elim (IsAmong-append d.network (gathered links (labels (merged m at F))) y i) [
      | inl j ↦ IsAmong-append_left (merged_network d F) more_links y (IsAmong-append_left d.network (gathered links (labels F)) y j)
      | inr j ↦ elim (gathered_changed links (λ set. if has at set then put m set else set) (λ z. IsAmong more_links z) y (labels F)
          (λ set l k. one_set y set l (has at set) refl k)
          (subst (λ zs. IsAmong (gathered links zs) y) (labels-map (λ set. if has at set then put m set else set) F) j)) [
            | inl k ↦ IsAmong-append_left (merged_network d F) more_links y (IsAmong-append_right d.network (gathered links (labels F)) y k)
            | inr k ↦ IsAmong-append_right (merged_network d F) more_links y k
          ]
    ]
