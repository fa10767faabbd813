-- The forests of the first m nodes are finitely many, and so are the forest models among them.
use Rattle.std.specs.Prelude.{◌≡◌, ℕ, zero, suc, ◌<◌, ◌≤◌, List, [], ◌∷◌, ◌++◌, map, length, Option, Some, None, refl}
use Rattle.std.proofs.Common.{inl, inr, sym, subst, arith}
use Rattle.std.proofs.lemmas.Bool.{cases_lt}
use Rattle.gr_base.specs.Lists.{IsAmong, Each, IsListing, IsCount, gathered}
use Rattle.gr_base.specs.Forests.{Forest, empty, tree, labels, IsOneTree}
use Rattle.gr_base.proofs.ListLemmas.{Each-at, IsAmong-map, IsAmong-map_from, IsAmong-append, IsAmong-append_left, IsAmong-append_right, IsAmong-gathered, IsAmong-gathered_from}
use Rattle.gr_terms.specs.Networks.{Agrees}
use Rattle.td_forest.specs.declared.Step.{Step}
use Rattle.td_forest.specs.declared.Step.TheVariants.{Merge, Insert}
use Rattle.td_forest.specs.Nodes.{IsForestOf}
use Rattle.td_forest.specs.Steps.{width, kids_of, IsStep, after_step}
use Rattle.td_forest.specs.Without.{without}
use Rattle.td_forest.proofs.OneStep.{named_step, without_below, step_below, below_back}
use Rattle.td_desc.specs.Descriptions.{Description}
use Rattle.td_colour.specs.Colours.{IsLawful}
use Rattle.td_colour.specs.Models.{merged_network, AllHold, IsForestModel, IsMinimalModel}
use Rattle.gr_base.specs.Decisions.{IsDecided, AreToldApart}
use Rattle.gr_base.proofs.Deciding.{decided_by, decided_both, decided_number, decided_list, decided_forest, decided_each, listing_of}
use Rattle.gr_terms.proofs.Agreeing.{decided_agrees}
use Rattle.td_count.proofs.Placing.{decided_relations, decided_lawful}

-- ---- the numbers below one
abbrev below : ℕ → List ℕ
below zero = []
below (suc n) = n ∷ below n

below_less : (n x : ℕ) → IsAmong (below n) x → x < n
below_less zero x i = absurd i
below_less (suc n) x (inl e) = omega arith
below_less (suc n) x (inr i) = let h : x < n = below_less n x i in omega arith

less_below : (n x : ℕ) → x < n → IsAmong (below n) x
less_below zero x h = absurd (omega arith)
less_below (suc n) x h = elim (cases_lt x n) [ inl l ↦ inr (less_below n x l) | inr g ↦ inl (omega arith) ]

-- ---- the steps of a forest
abbrev insertions_to : Option ℕ → ℕ → List Step
insertions_to under to = map (λ from. Insert under from to) (below (suc to))

abbrev insertions : Option ℕ → ℕ → List Step
insertions under w = gathered (insertions_to under) (below (suc w))

insertions_only : (under : Option ℕ) (w : ℕ) (s : Step) → IsAmong (insertions under w) s → (from to : ℕ) × (s ≡ Insert under from to) × (from ≤ to) × (to ≤ w)
insertions_only under w s i =
    let a = IsAmong-gathered_from (insertions_to under) (below (suc w)) s i in
    let b = IsAmong-map_from (λ from. Insert under from a.0) (below (suc a.0)) s a.2 in
    let h : a.0 < suc w = below_less (suc w) a.0 a.1 in
    let k : b.0 < suc a.0 = below_less (suc a.0) b.0 b.1 in
    (b.0, a.0, b.2, omega arith, omega arith)

insertions_all : (under : Option ℕ) (w from to : ℕ) → from ≤ to → to ≤ w → IsAmong (insertions under w) (Insert under from to)
insertions_all under w from to low high =
    IsAmong-gathered (insertions_to under) (below (suc w)) to (Insert under from to) (less_below (suc w) to (omega arith))
    (IsAmong-map (λ k. Insert under k to) (below (suc to)) from (less_below (suc to) from (omega arith)))

module _ (m : ℕ) (F : Forest (List ℕ)) (f : IsForestOf m F) where
  abbrev under_nodes : ℕ → List Step
  under_nodes u = insertions (Some u) (width (kids_of u F))

  abbrev steps : List Step
  steps = map Merge (below m) ++ (insertions None (width F) ++ gathered under_nodes (below m))

  insertion_step : (under : Option ℕ) (w : ℕ) → ((from to : ℕ) → from ≤ to → to ≤ w → IsStep F (Insert under from to)) → (s : Step) → IsAmong (insertions under w) s → IsStep F s
  insertion_step under w is s i = let r = insertions_only under w s i in subst (λ t. IsStep F t) (sym r.2) (is r.0 r.1 r.3 r.4)

  under_step : (s : Step) → IsAmong (gathered under_nodes (below m)) s → IsStep F s
  under_step s i =
      let r = IsAmong-gathered_from under_nodes (below m) s i in
      insertion_step (Some r.0) (width (kids_of r.0 F)) (λ from to low high. ((f.nodes r.0).1 (below_less m r.0 r.1), low, high)) s r.2

  merge_step : (s : Step) → IsAmong (map Merge (below m)) s → IsStep F s
  merge_step s i = let r = IsAmong-map_from Merge (below m) s i in subst (λ t. IsStep F t) (sym r.2) ((f.nodes r.0).1 (below_less m r.0 r.1))

  steps_only : (s : Step) → IsAmong steps s → IsStep F s
  steps_only s i = elim (IsAmong-append (map Merge (below m)) (insertions None (width F) ++ gathered under_nodes (below m)) s i) [
    | inl j ↦ merge_step s j
    | inr j ↦ elim (IsAmong-append (insertions None (width F)) (gathered under_nodes (below m)) s j) [
      | inl k ↦ insertion_step None (width F) (λ from to low high. (low, high)) s k
      | inr k ↦ under_step s k
    ]
  ]

  insertion_among : (s : Step) → IsAmong (insertions None (width F) ++ gathered under_nodes (below m)) s → IsAmong steps s
  insertion_among s i = IsAmong-append_right (map Merge (below m)) (insertions None (width F) ++ gathered under_nodes (below m)) s i

  steps_all : (s : Step) → IsStep F s → IsAmong steps s
  steps_all (Merge at) h =
      IsAmong-append_left (map Merge (below m)) (insertions None (width F) ++ gathered under_nodes (below m)) (Merge at)
      (IsAmong-map Merge (below m) at (less_below m at ((f.nodes at).0 h)))
  steps_all (Insert None from to) h =
      insertion_among (Insert None from to)
      (IsAmong-append_left (insertions None (width F)) (gathered under_nodes (below m)) (Insert None from to) (insertions_all None (width F) from to h.0 h.1))
  steps_all (Insert (Some u) from to) h =
      insertion_among (Insert (Some u) from to)
      (IsAmong-append_right (insertions None (width F)) (gathered under_nodes (below m)) (Insert (Some u) from to)
      (IsAmong-gathered under_nodes (below m) u (Insert (Some u) from to) (less_below m u ((f.nodes u).0 h.0)) (insertions_all (Some u) (width (kids_of u F)) from to h.1 h.2)))

-- ---- the forests of the first m nodes
empty_forest : IsForestOf 0 empty
empty_forest = record { forest = record { sets = tt; once = tt }; nodes = λ x. ((λ i. absurd i), (λ l. absurd (omega arith))) }

no_forest : (F : Forest (List ℕ)) → IsForestOf 0 F → F ≡ empty
no_forest empty f = refl
no_forest (tree [] kids more) f = absurd (f.forest.sets.0.0 refl)
no_forest (tree (x ∷ xs) kids more) f = let l : x < 0 = (f.nodes x).0 (inl (inl refl)) in absurd (omega arith)

decided_trees : AreToldApart (Forest (List ℕ))
decided_trees = decided_forest (decided_list decided_number)

module _ (m : ℕ) where
  -- what steps make of the forests of a list
  record Grown (Es : List (Forest (List ℕ))) : Type 0 where
    pub list : List (Forest (List ℕ))
    pub only : (G : Forest (List ℕ)) → IsAmong list G → IsForestOf (suc m) G
    pub all : (F : Forest (List ℕ)) (s : Step) → IsAmong Es F → IsStep F s → IsAmong list (after_step m s F)

  grow : (Es : List (Forest (List ℕ))) → Each (IsForestOf m) Es → Grown Es
  grow [] e = record { list = []; only = λ G i. absurd i; all = λ F s i h. absurd i }
  grow (F ∷ Es) e =
      let r = grow Es e.1 in
      let here = map (λ (s : Step). after_step m s F) (steps m F e.0) in
      record {
        list = here ++ r.list;
        only = λ G i. elim (IsAmong-append here r.list G i) [
          | inl j ↦
              let t = IsAmong-map_from (λ s. after_step m s F) (steps m F e.0) G j in
              subst (λ H. IsForestOf (suc m) H) (sym t.2) (step_below m F t.0 e.0 (steps_only m F e.0 t.0 t.1))
          | inr j ↦ r.only G j
        ];
        all = λ E s i h. elim i [
          | inl p ↦
              IsAmong-append_left here r.list (after_step m s E)
              (subst (λ H. IsAmong here (after_step m s H)) (sym p) (IsAmong-map (λ t. after_step m t F) (steps m F e.0) s (steps_all m F e.0 s (subst (λ H. IsStep H s) p h))))
          | inr j ↦ IsAmong-append_right here r.list (after_step m s E) (r.all E s j h)
        ];
      }

  forests_more : (Fs : List (Forest (List ℕ))) → IsListing (IsForestOf m) Fs → (Gs : List (Forest (List ℕ))) × IsListing (IsForestOf (suc m)) Gs
  forests_more Fs l =
      let r = grow Fs l.only in
      listing_of decided_trees (IsForestOf (suc m)) r.list (λ G i. inl (r.only G i))
      (λ G g.
      let b = below_back m G g in
      subst (λ H. IsAmong r.list H) b.2 (r.all (without m G) b.0 (l.all (without m G) (without_below m G g)) (named_step (without m G) b.0 b.1)))

pub forests_listed : (m : ℕ) → (Fs : List (Forest (List ℕ))) × IsListing (IsForestOf m) Fs
forests_listed zero = (empty ∷ [], record { once = ((λ i. i), tt); only = (empty_forest, tt); all = λ F f. inl (no_forest F f) })
forests_listed (suc m) = let r = forests_listed m in forests_more m r.0 r.1

-- ---- forest models
decided_one_tree : (F : Forest (List ℕ)) → IsDecided (IsOneTree F)
decided_one_tree empty = inr (λ h. h)
decided_one_tree (tree a kids empty) = inl tt
decided_one_tree (tree a kids (tree b others more)) = inr (λ h. h)

module _ {V S : Type 0} (variables : AreToldApart V) (slots : AreToldApart S) (d : Description V S) where
  -- what is left to decide of a forest
  abbrev Fits : ℕ → Forest (List ℕ) → Type 0
  Fits m F = AllHold d.relations m F × (Each (IsLawful d.nodes) (labels F) × Agrees (merged_network d F))

  pub decided_model : (m : ℕ) (F : Forest (List ℕ)) → IsForestOf m F → IsDecided (IsForestModel d m F)
  decided_model m F f =
      decided_by (Fits m F) (IsForestModel d m F) (λ h. record { nodes = f; relations = h.0; colours = h.1.0; network = h.1.1 }) (λ h. (h.relations, (h.colours, h.network)))
      (decided_both (AllHold d.relations m F) (Each (IsLawful d.nodes) (labels F) × Agrees (merged_network d F)) (decided_relations F m d.relations)
      (decided_both (Each (IsLawful d.nodes) (labels F)) (Agrees (merged_network d F))
      (decided_each (IsLawful d.nodes) (labels F) (λ set i. decided_lawful d.nodes set)) (decided_agrees variables slots (merged_network d F))))

  pub models_listed : (m : ℕ) → (Fs : List (Forest (List ℕ))) × IsListing (IsForestModel d m) Fs
  models_listed m =
      let r = forests_listed m in
      listing_of decided_trees (IsForestModel d m) r.0 (λ F i. decided_model m F (Each-at (IsForestOf m) r.0 F r.1.only i)) (λ F h. r.1.all F h.nodes)

  pub models_counted : (m : ℕ) → (n : ℕ) × IsCount (IsForestModel d m) n
  models_counted m = let r = models_listed m in (length r.0, (r.0, r.1, refl))

  -- and the minimal models among them
  pub minimal_listed : (Fs : List (Forest (List ℕ))) × IsListing (IsMinimalModel d) Fs
  minimal_listed =
      let r = models_listed (length d.nodes) in
      listing_of decided_trees (IsMinimalModel d) r.0
      (λ F i.
      decided_by (IsOneTree F) (IsMinimalModel d F)
      (λ one. record { model = Each-at (IsForestModel d (length d.nodes)) r.0 F r.1.only i; one = one }) (λ h. h.one) (decided_one_tree F))
      (λ F h. r.1.all F h.model)
