-- Which steps the colour of a node leaves to it.
use Rattle.std.specs.Prelude.{◌≡◌, ℕ, suc, ◌-◌, ◌<◌, List, [], ◌∷◌, map, if◌then◌else◌, Option, refl}
use Rattle.std.proofs.Common.{inl, inr, subst, sym, ◌∙◌, arith}
use Rattle.std.proofs.lemmas.Bool.{cases_eq}
use Rattle.gr_base.specs.Lists.{IsAmong, IsRising}
use Rattle.gr_base.specs.Forests.{Forest, labels}
use Rattle.gr_base.proofs.ListLemmas.{IsAmong-map, Each-at}
use Rattle.gr_base.proofs.ForestLemmas.{labels-map}
use Rattle.td_forest.specs.declared.Step.{Step}
use Rattle.td_forest.specs.declared.Step.TheVariants.{Merge, Insert}
use Rattle.td_forest.specs.Nodes.{IsIn, IsNodeSet}
use Rattle.td_forest.specs.Steps.{put, has, merged, after_step, IsStep}
use Rattle.td_forest.specs.Names.{IsHead, IsNamedStep}
use Rattle.td_forest.specs.Without.{without}
use Rattle.td_forest.proofs.SetLemmas.{in-put, put-new, put-in}
use Rattle.td_forest.proofs.Named.{has_true}
use Rattle.td_forest.proofs.Naming.{head_in}
use Rattle.td_forest.proofs.Heading.{head_set, set_head}
use Rattle.td_forest.proofs.Forming.{forest_is}
use Rattle.td_forest.proofs.OneStep.{step_below, named_step, below_back}
use Rattle.td_forest.proofs.Sets.{has_set, set_in, set_once}
use Rattle.td_desc.specs.declared.Colour.{Colour}
use Rattle.td_desc.specs.declared.Colour.TheVariants.{Black, White, Red}
use Rattle.td_desc.specs.Descriptions.{Description}
use Rattle.td_colour.specs.Colours.{IsOf, IsLawful, IsAllowed, BlacksFirst}
use Rattle.td_colour.specs.Models.{IsForestModel}
use Rattle.td_colour.proofs.Colouring.{one_colour, one_black, red_alone}
use Rattle.td_colour.proofs.Modelling.{model_allowed}
use Rattle.td_colour.proofs.Linking.{single_label}
use Rattle.td_solver.specs.Candidates.{Suits, IsCandidate}
use Rattle.td_solver.specs.Tasks.{RedsLast}

-- a merge puts the new node into the set
merged_set : (m at : ℕ) (F : Forest (List ℕ)) (set : List ℕ) → IsAmong (labels F) set → IsAmong set at → IsAmong (labels (merged m at F)) (put m set)
merged_set m at F set l i =
    let g : List ℕ → List ℕ = λ zs. if has at zs then put m zs else zs in
    let e : (if has at set then put m set else set) ≡ put m set = rw (has_true at set i) refl in
    subst (λ zs. IsAmong zs (put m set)) (sym (labels-map g F)) (subst (λ z. IsAmong (map g (labels F)) z) e (IsAmong-map g (labels F) set l))

module _ (d : Description ℕ ℕ) (first : BlacksFirst d.nodes) (last : RedsLast d.nodes) (m : ℕ) (F : Forest (List ℕ)) (model : IsForestModel d m F) where
  differ : (x : ℕ) (a b : Colour) → IsOf d.nodes a x → IsOf d.nodes b x → (a ≡ b → ⊥) → ⊥
  differ x a b p q ne = ne (one_colour d.nodes x a b p q)

  lawful : (set : List ℕ) → IsAmong (labels F) set → IsLawful d.nodes set
  lawful set l = Each-at (IsLawful d.nodes) (labels F) set model.colours l

  rising : (set : List ℕ) → IsAmong (labels F) set → IsRising set
  rising set l = (Each-at IsNodeSet (labels F) set model.nodes.forest.sets l).1

  -- the first of a tree node is no white
  head_of : (x : ℕ) (rest : List ℕ) → IsAmong (labels F) (x ∷ rest) → IsLawful d.nodes (x ∷ rest) → IsOf d.nodes White x → ⊥
  head_of x rest l (inl h) white = elim h.1 [
    | inl e ↦ differ x White Black white (subst (λ z. IsOf d.nodes Black z) e h.2) (λ q. cc)
    | inr i ↦ differ x White Black white (first x h.0 (Each-at (λ w. x < w) rest h.0 (rising (x ∷ rest) l).0 i) h.2) (λ q. cc)
  ]
  head_of x rest l (inr h) white = differ x White Red white (subst (λ z. IsOf d.nodes Red z) (sym (same h.1)) h.2) (λ q. cc)
    where
      same : x ∷ rest ≡ h.0 ∷ [] → x ≡ h.0
      same e = cc

  pub head_dark : (x : ℕ) → IsHead F x → IsOf d.nodes White x → ⊥
  head_dark x h = let s = head_set F x h in head_of x s.0 s.1 (lawful (x ∷ s.0) s.1)

  -- and what is no white is the first
  first_of : (x : ℕ) (set : List ℕ) → IsAmong (labels F) set → IsAmong set x → IsLawful d.nodes set → (IsOf d.nodes White x → ⊥) → IsHead F x
  first_of x [] l i h dark = absurd i
  first_of x (y ∷ ys) l (inl e) h dark = subst (λ z. IsHead F z) (sym e) (set_head F y ys l)
  first_of x (y ∷ ys) l (inr i) (inl h) dark =
      let less : y < x = Each-at (λ w. y < w) ys x (rising (y ∷ ys) l).0 i in
      elim (cases_eq x h.0) [
        | inl e ↦
            let black : IsOf d.nodes Black y = first y x less (subst (λ z. IsOf d.nodes Black z) (sym e) h.2) in
            let white : IsOf d.nodes White y = h.3 y (inl refl) (λ q. (let p : y ≡ x = q ∙ sym e in omega arith)) in
            absurd (differ y Black White black white (λ q. cc))
        | inr ne ↦ absurd (dark (h.3 x (inr i) ne))
      ]
  first_of x (y ∷ ys) l (inr i) (inr h) dark = let none : ys ≡ [] = short h.1 in absurd (subst (λ zs. IsAmong zs x) none i)
    where
      short : y ∷ ys ≡ h.0 ∷ [] → ys ≡ []
      short e = cc

  pub dark_head : (x : ℕ) → x < m → (IsOf d.nodes White x → ⊥) → IsHead F x
  dark_head x low dark = let s = has_set F x ((model.nodes.nodes x).1 low) in first_of x s.set s.there s.is (lawful s.set s.there) dark

  -- after a merge the rule holds where the new node is white
  module _ (at : ℕ) (head : IsHead F at) where
    here : IsIn F at
    here = head_in F at head

    low : at < m
    low = (model.nodes.nodes at).0 here

    white_set : IsOf d.nodes White m → (set : List ℕ) → IsAmong (labels F) set → IsLawful d.nodes set → IsLawful d.nodes (put m set)
    white_set white set l (inl h) = inl (h.0, in-put m set h.0 h.1, h.2, λ y i ne. elim (put-in m set y i) [ inl j ↦ h.3 y j ne | inr e ↦ subst (λ z. IsOf d.nodes White z) (sym e) white ])
    white_set white set l (inr h) =
        let r : IsAmong set h.0 = subst (λ zs. IsAmong zs h.0) (sym h.1) (inl refl) in
        absurd (last h.0 m ((model.nodes.nodes h.0).0 (set_in F set h.0 l r)) h.2 white)

    pub merge_allowed : IsOf d.nodes White m → IsAllowed d.nodes (after_step m (Merge at) F) m
    merge_allowed white =
        let s = has_set F at here in
        (put m s.set, merged_set m at F s.set s.there s.is, put-new m s.set, white_set white s.set s.there (lawful s.set s.there))

    at_beside : (set : List ℕ) → IsAmong (labels (after_step m (Merge at) F)) set → IsAmong set m → IsAmong set at
    at_beside set l i =
        let s = has_set F at here in
        let once = (forest_is (after_step m (Merge at) F) (step_below m F (Merge at) model.nodes here).forest).once in
        let e : put m s.set ≡ set = set_once (after_step m (Merge at) F) (put m s.set) set m once (merged_set m at F s.set s.there s.is) l (put-new m s.set) i in
        subst (λ zs. IsAmong zs at) e (in-put m s.set at s.is)

    pub merge_white : (c : Colour) → IsOf d.nodes c m → IsAllowed d.nodes (after_step m (Merge at) F) m → Suits c (Merge at)
    merge_white White is a = tt
    merge_white Black is a = one_black d.nodes a.0 m at a.3 a.2 (at_beside a.0 a.1 a.2) (λ e. (let q : m ≡ at = e in let l : at < m = low in omega arith)) is (first at m low is)
    merge_white Red is a = red_alone d.nodes a.0 m at a.3 a.2 (at_beside a.0 a.1 a.2) (λ e. (let q : m ≡ at = e in let l : at < m = low in omega arith)) is

  -- after an insertion it holds where the new node is no white
  module _ (under : Option ℕ) (from to : ℕ) (step : IsStep F (Insert under from to)) where
    alone : IsAmong (labels (after_step m (Insert under from to) F)) (m ∷ [])
    alone = single_label m under from to F (forest_is F model.nodes.forest).once step

    pub insert_allowed : (c : Colour) → IsOf d.nodes c m → Suits c (Insert under from to) → IsAllowed d.nodes (after_step m (Insert under from to) F) m
    insert_allowed White is suits = absurd suits
    insert_allowed Black is suits = (m ∷ [], alone, inl refl, inl (m, inl refl, is, λ y i ne. elim i [ inl e ↦ absurd (ne e) | inr k ↦ absurd k ]))
    insert_allowed Red is suits = (m ∷ [], alone, inl refl, inr (m, refl, is))

    one_alone : IsOf d.nodes White m → IsLawful d.nodes (m ∷ []) → ⊥
    one_alone white (inl h) = elim h.1 [ inl e ↦ differ m White Black white (subst (λ z. IsOf d.nodes Black z) e h.2) (λ q. cc) | inr k ↦ absurd k ]
    one_alone white (inr h) = differ m White Red white (subst (λ z. IsOf d.nodes Red z) (sym (same h.1)) h.2) (λ q. cc)
      where
        same : m ∷ [] ≡ h.0 ∷ [] → m ≡ h.0
        same e = cc

    pub insert_dark : (c : Colour) → IsOf d.nodes c m → IsAllowed d.nodes (after_step m (Insert under from to) F) m → Suits c (Insert under from to)
    insert_dark White is a =
        let once = (forest_is (after_step m (Insert under from to) F) (step_below m F (Insert under from to) model.nodes step).forest).once in
        let e : a.0 ≡ m ∷ [] = set_once (after_step m (Insert under from to) F) a.0 (m ∷ []) m once a.1 alone a.2 (inl refl) in
        one_alone is (subst (λ zs. IsLawful d.nodes zs) e a.3)
    insert_dark Black is a = tt
    insert_dark Red is a = tt

  -- the rule holds at the new node just where the step suits its colour
  pub suits_allowed : (c : Colour) (s : Step) → IsOf d.nodes c m → IsNamedStep F s → Suits c s → IsAllowed d.nodes (after_step m s F) m
  suits_allowed White (Merge at) is named suits = merge_allowed at named is
  suits_allowed Black (Merge at) is named suits = absurd suits
  suits_allowed Red (Merge at) is named suits = absurd suits
  suits_allowed c (Insert under from to) is named suits = insert_allowed under from to (named_step F (Insert under from to) named) c is suits

  pub allowed_suits : (c : Colour) (s : Step) → IsOf d.nodes c m → IsNamedStep F s → IsAllowed d.nodes (after_step m s F) m → Suits c s
  allowed_suits c (Merge at) is named a = merge_white at named c is a
  allowed_suits c (Insert under from to) is named a = insert_dark under from to (named_step F (Insert under from to) named) c is a

  -- each model of one node more comes by a candidate
  pub by_candidate : (c : Colour) → IsOf d.nodes c m → (H : Forest (List ℕ)) → IsForestModel d (suc m) H → without m H ≡ F → (s : Step) × IsCandidate F c s × (H ≡ after_step m s F)
  by_candidate c is H h parent =
      let r = below_back m H h.nodes in
      let named : IsNamedStep F r.0 = subst (λ E. IsNamedStep E r.0) parent r.1 in
      let e : after_step m r.0 F ≡ H = subst (λ E. after_step m r.0 E ≡ H) parent r.2 in
      let a : IsAllowed d.nodes (after_step m r.0 F) m = subst (λ E. IsAllowed d.nodes E m) (sym e) (model_allowed d m H h) in
      (r.0, (named, allowed_suits c r.0 is named a), sym e)
