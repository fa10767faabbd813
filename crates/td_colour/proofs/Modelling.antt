-- Forest models: one node less, and one node more.
use Rattle.std.specs.Prelude.{◌≡◌, ℕ, suc, ◌<◌, List, [], ◌∷◌, ◌++◌, ◌↔◌, length, slice_get, refl}
use Rattle.std.proofs.Common.{inl, inr, ap, sym, ◌∙◌, subst, arith, append-nil}
use Rattle.gr_base.specs.Lists.{IsAmong, IsWithin, Each, gathered}
use Rattle.gr_base.specs.Forests.{Forest, empty, tree, labels}
use Rattle.gr_base.proofs.ListLemmas.{IsAmong-append, IsAmong-append_left, IsAmong-append_right, Each-at}
use Rattle.gr_terms.specs.Networks.{Assertion, Agrees}
use Rattle.gr_terms.proofs.NetworkLemmas.{Agrees-part}
use Rattle.td_desc.specs.declared.Colour.TheVariants.{Black, White}
use Rattle.td_desc.specs.declared.Related.{Related}
use Rattle.td_desc.specs.Descriptions.{Description, DescribedNode}
use Rattle.td_forest.specs.declared.Step.{Step}
use Rattle.td_forest.specs.Nodes.{IsIn, IsForestOf}
use Rattle.td_forest.specs.Steps.{put, after_step, IsStep}
use Rattle.td_forest.specs.Without.{without}
use Rattle.td_forest.proofs.SetLemmas.{in-put, put-in, put-length, put-last}
use Rattle.td_forest.proofs.Forming.{forest_is}
use Rattle.td_forest.proofs.OneStep.{take_out, TakenOut, without_below, step_below, below_back, below_once, step_taken_back, last_new}
use Rattle.td_forest.proofs.Sets.{has_set, set_once, sets_before, sets_after, gathered_before}
use Rattle.td_colour.specs.Colours.{IsOf, IsLawful, IsAllowed, BlacksFirst}
use Rattle.td_colour.specs.Models.{node_links, set_links, merged_network, AllHold, IsForestModel, ComesFrom}
use Rattle.td_colour.proofs.Colouring.{one_colour}
use Rattle.td_colour.proofs.Twinning.{holds_less}

-- the last node is in a forest of those up to it, and greater than the others
last_in : (m : ℕ) (G : Forest (List ℕ)) → IsForestOf (suc m) G → IsIn G m
last_in m G g = (g.nodes m).1 (omega arith)

-- a set is lawful where it is with a later node more
lawful_less : {S : Type 0} (nodes : List (DescribedNode S)) → BlacksFirst nodes → (x : ℕ) (set : List ℕ) → (set ≡ [] → ⊥) → ((y : ℕ) → IsAmong set y → y < x) → IsLawful nodes (put x set) → IsLawful nodes set
lawful_less nodes first x set full low (inl l) = elim (put-in x set l.0 l.1) [
  | inl i ↦ inl (l.0, i, l.2, λ y j ne. l.3 y (in-put x set y j) ne)
  | inr e ↦ absurd (member set full (λ z i.
      let below : z < x = low z i in
      let black : IsOf nodes Black z = first z l.0 (subst (λ w. z < w) (sym e) below) l.2 in
      let white : IsOf nodes White z = l.3 z (in-put x set z i) (λ q. let p : z ≡ x = q ∙ e in omega arith) in
      let bad : Black ≡ White = one_colour nodes z Black White black white in cc))
]
  where
    member : (set : List ℕ) → (set ≡ [] → ⊥) → ((z : ℕ) → IsAmong set z → ⊥) → ⊥
    member [] full none = full refl
    member (z ∷ zs) full none = none z (inl refl)
lawful_less nodes first x set full low (inr l) = absurd (full (short set (ap (λ zs. length zs) l.1)))
  where
    short : (set : List ℕ) → length (put x set) ≡ 1 → set ≡ []
    short [] e = refl
    short (y ∷ ys) e = let n : length (put x (y ∷ ys)) ≡ suc (suc (length ys)) = put-length x (y ∷ ys) in absurd (omega arith)

-- and its links are among those of the set with the later node
gathered_push : {A B : Type 0} (f : A → List B) (xs : List A) (x : A) → IsWithin (gathered f xs) (gathered f (xs ++ x ∷ []))
gathered_push f [] x y i = absurd i
gathered_push f (z ∷ zs) x y i = elim (IsAmong-append (f z) (gathered f zs) y i) [
  | inl j ↦ IsAmong-append_left (f z) (gathered f (zs ++ x ∷ [])) y j
  | inr j ↦ IsAmong-append_right (f z) (gathered f (zs ++ x ∷ [])) y (gathered_push f zs x y j)
]

links_push : {V S : Type 0} (nodes : List (DescribedNode S)) (x : ℕ) (set : List ℕ) → IsWithin {A = Assertion V S} (set_links nodes set) (set_links nodes (set ++ x ∷ []))
links_push nodes x [] y i = absurd i
links_push nodes x (z ∷ zs) y i = gathered_push (λ w. node_links (slice_get nodes z) (slice_get nodes w)) zs x y i

pub links_less : {V S : Type 0} (nodes : List (DescribedNode S)) (x : ℕ) (set : List ℕ) → ((y : ℕ) → IsAmong set y → y < x) → IsWithin {A = Assertion V S} (set_links nodes set) (set_links nodes (put x set))
links_less {V} {S} nodes x set low = subst (λ zs. IsWithin {A = Assertion V S} (set_links nodes set) (set_links nodes zs)) (sym (put-last x set low)) (links_push nodes x set)

module _ {V S : Type 0} (d : Description V S) where
  -- the last node taken out
  module _ (first : BlacksFirst d.nodes) (m : ℕ) (G : Forest (List ℕ)) (g : IsForestOf (suc m) G) where
    taken : TakenOut m G
    taken = take_out m G (forest_is G g.forest) (last_in m G g)

    low : (y : ℕ) → IsIn (without m G) y → y < m
    low y i = ((without_below m G g).nodes y).0 i

    pub lawful_without : Each (IsLawful d.nodes) (labels G) → Each (IsLawful d.nodes) (labels (without m G))
    lawful_without e =
        sets_before (IsLawful d.nodes) m (lawful_less d.nodes first m) taken.spot (without m G) taken.is.rise low taken.there (subst (λ H. Each (IsLawful d.nodes) (labels H)) (sym taken.back) e)

    pub network_without : IsWithin (merged_network d (without m G)) (merged_network d G)
    network_without y i = elim (IsAmong-append d.network (gathered (set_links d.nodes) (labels (without m G))) y i) [
      | inl j ↦ IsAmong-append_left d.network (gathered (set_links d.nodes) (labels G)) y j
      | inr j ↦ IsAmong-append_right d.network (gathered (set_links d.nodes) (labels G)) y
          (subst (λ H. IsAmong (gathered (set_links d.nodes) (labels H)) y) taken.back
          (gathered_before (set_links d.nodes) m (links_less d.nodes m) taken.spot (without m G) low taken.there y j))
    ]

  -- relations between the nodes before hold still
  hold_without : (m : ℕ) (G : Forest (List ℕ)) (rs : List Related) → IsForestOf (suc m) G → AllHold rs (suc m) G → AllHold rs m (without m G)
  hold_without m G [] g h = tt
  hold_without m G (r ∷ rs) g h = (
    (λ a b. holds_less m G g (without_below m G g) r.from r.to a b r.how (h.0 (omega arith) (omega arith))),
    hold_without m G rs g h.1,
  )

  pub model_without : BlacksFirst d.nodes → (m : ℕ) (G : Forest (List ℕ)) → IsForestModel d (suc m) G → IsForestModel d m (without m G)
  model_without first m G h = record {
    nodes = without_below m G h.nodes;
    relations = hold_without m G d.relations h.nodes h.relations;
    colours = lawful_without first m G h.nodes h.colours;
    network = Agrees-part (merged_network d (without m G)) (merged_network d G) (network_without first m G h.nodes) h.network;
  }

  -- where the forest without the last node is a model, the relations, the tree node of the last node and the network are left to decide
  pub model_with : (m : ℕ) (G : Forest (List ℕ)) → IsForestOf (suc m) G → IsForestModel d m (without m G) → AllHold d.relations (suc m) G → IsAllowed d.nodes G m → Agrees (merged_network d G) → IsForestModel d (suc m) G
  model_with m G g h hold allowed agrees =
      let is = forest_is G g.forest in
      let t = take_out m G is (last_in m G g) in
      record {
        nodes = g;
        relations = hold;
        colours = subst (λ H. Each (IsLawful d.nodes) (labels H)) t.back
            (sets_after (IsLawful d.nodes) m t.spot (without m G) t.there h.colours
            (λ set l i.
            let e : allowed.0 ≡ set = set_once G allowed.0 set m is.once allowed.1 (subst (λ H. IsAmong (labels H) set) t.back l) allowed.2 i in
            subst (λ zs. IsLawful d.nodes zs) e allowed.3));
        network = agrees;
      }

  pub model_allowed : (m : ℕ) (G : Forest (List ℕ)) → IsForestModel d (suc m) G → IsAllowed d.nodes G m
  model_allowed m G h = let s = has_set G m (last_in m G h.nodes) in (s.set, s.there, s.is, Each-at (IsLawful d.nodes) (labels G) s.set h.colours s.there)

  -- each model of one node more comes from exactly one model by exactly one step
  pub model_back : BlacksFirst d.nodes → (m : ℕ) (G : Forest (List ℕ)) → IsForestModel d (suc m) G → ComesFrom d m G
  model_back first m G h =
      let r = below_back m G h.nodes in
      record { before = without m G; model = model_without first m G h; step = r.0; named = r.1; is = r.2 }

  pub model_once : (m : ℕ) (G : Forest (List ℕ)) (a b : ComesFrom d m G) → (a.before ≡ b.before) × (a.step ≡ b.step)
  model_once m G a b = below_once m a.before b.before a.step b.step a.model.nodes b.model.nodes a.named b.named (a.is ∙ sym b.is)

  -- after a step to a model just three things are left to decide
  pub step_decides : (m : ℕ) (F : Forest (List ℕ)) (s : Step) → IsForestModel d m F → IsStep F s
      → IsForestModel d (suc m) (after_step m s F) ↔ (AllHold d.relations (suc m) (after_step m s F) × IsAllowed d.nodes (after_step m s F) m × Agrees (merged_network d (after_step m s F)))
  step_decides m F s f step =
      let G = after_step m s F in
      let g = step_below m F s f.nodes step in
      let e : without m G ≡ F = step_taken_back F m s (forest_is F f.nodes.forest) (last_new m F f.nodes) step in (
        (λ h. (h.relations, model_allowed m G h, h.network)),
        (λ h. model_with m G g (subst (λ H. IsForestModel d m H) (sym e) f) h.0 h.1 h.2),
      )

  -- the empty forest is the one model of no nodes, where the network agrees
  pub model_none : (F : Forest (List ℕ)) → IsForestModel d 0 F ↔ ((F ≡ empty) × Agrees d.network)
  model_none F = (
    (λ h. (none F h, Agrees-part d.network (merged_network d F) (λ e i. IsAmong-append_left d.network (gathered (set_links d.nodes) (labels F)) e i) h.network)),
    (λ h. subst (λ H. IsForestModel d 0 H) (sym h.0) (record {
      nodes = record { forest = record { sets = tt; once = tt }; nodes = λ x. ((λ i. absurd i), (λ l. absurd (omega arith))) };
      relations = all_none d.relations;
      colours = tt;
      network = subst (λ N. Agrees N) (sym (append-nil d.network)) h.1;
    })),
  )
    where
      none : (F : Forest (List ℕ)) → IsForestModel d 0 F → F ≡ empty
      none empty h = refl
      none (tree [] kids more) h = absurd (h.nodes.forest.sets.0.0 refl)
      none (tree (x ∷ xs) kids more) h = let l : x < 0 = (h.nodes.nodes x).0 (inl (inl refl)) in absurd (omega arith)

      all_none : (rs : List Related) → AllHold rs 0 empty
      all_none [] = tt
      all_none (r ∷ rs) = ((λ a b. absurd (omega arith)), all_none rs)
