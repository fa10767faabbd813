-- Facts clash exactly where the network doesn't agree, a root has two colours, or a variable of a node stands as a value; and the nodes in order.
use Rattle.std.specs.Prelude.{◌≡◌, ℕ, ◌+◌, ◌*◌, ◌<◌, ◌≤◌, List, [], ◌∷◌, ◌++◌, map, length, get_or, Bool, false, Option, Some, None, ◌⊎◌, refl}
use Rattle.std.proofs.Common.{inl, inr, ap, ap₂, sym, ◌∙◌, subst, arith}
use Rattle.std.proofs.lemmas.List.{map-append}
use Rattle.std.proofs.lemmas.Option.{same_Some, none-some}
use Rattle.gr_base.specs.Lists.{IsAmong, IsWithin, Each, NoneTwice, IsSublist, gathered}
use Rattle.gr_base.proofs.ListLemmas.{Each-at, Each-members, Each-map, IsAmong-map, IsAmong-map_from, IsAmong-append, IsAmong-append_left, IsAmong-append_right, IsAmong-slice_get, slice_get-mapped}
use Rattle.gr_terms.specs.Networks.{Agrees}
use Rattle.gr_terms.specs.Views.{network_of}
use Rattle.td_desc.specs.declared.Colour.{Colour}
use Rattle.td_desc.specs.declared.Colour.TheVariants.{Black, White, Red}
use Rattle.mg_facts.specs.declared.variable.Variable.{Variable}
use Rattle.mg_facts.specs.declared.fact.Fact.{Fact}
use Rattle.mg_facts.specs.Said.{Said, coloured}
use Rattle.mg_facts.specs.Meanings.{AreIdentified, itself, backwards, onwards, standing, HasColour, IsNodeVariable, IsValueVariable, Clashes, by_names, by_colours, by_value, IsColour, AreFirsts, IsPartOfColour, AreNodes, IsPlaceOf}
use Rattle.mg_facts.specs.Numbered.{named, all_said, IsBelow, all_asserted, stand_in, values_in, colours_in}
use Rattle.mg_facts.specs.Classes.{AreRoots, root, HasTwoColours, AreColours, AreMarked, AreFirstOnes, HasMarked, or_red, shown, IsShownPart, InOrder, StandsAt, ArePlaces}
use Rattle.mg_facts.proofs.GatheredLemmas.{IsSublist-map}
use Rattle.mg_facts.proofs.ReadingLemmas.{agrees-said}
use Rattle.mg_facts.proofs.ClassLemmas.{one_root, root_one}
use Rattle.mg_facts.proofs.MeaningLemmas.{standing_below, values_below, colours_below, standing-said, colour_to, colour_from, value_number, number_value, standing_number, number_standing}

pub sublist_within : {A : Type 0} (xs ys : List A) → IsSublist xs ys → IsWithin xs ys
sublist_within xs [] h x i = subst (λ z. IsAmong z x) h i
sublist_within xs (y ∷ ys) (inl h) x i = inr (sublist_within xs ys h x i)
sublist_within xs (y ∷ ys) (inr h) x i = elim (subst (λ z. IsAmong z x) h.1 i) [ inl e ↦ inl e | inr j ↦ inr (sublist_within h.0 ys h.2 x j) ]

module _ (names : List Variable) (facts : List Fact) (once : NoneTwice names) (below : Each (IsBelow (length names)) facts)
    (roots : List ℕ) (are : AreRoots facts (length names) roots) where
  abbrev all : List Said
  all = all_said names facts

  stand : (x : ℕ) → IsAmong (gathered stand_in facts) x → x < length names
  stand x i = Each-at (λ x. x < length names) (gathered stand_in facts) x (standing_below (length names) facts below) i

  value : (x : ℕ) → IsAmong (gathered values_in facts) x → x < length names
  value x i = Each-at (λ x. x < length names) (gathered values_in facts) x (values_below (length names) facts below) i

  colour : (x : ℕ) (c : Colour) → IsAmong (gathered colours_in facts) (x, c) → x < length names
  colour x c i = Each-at (λ (p : ℕ × Colour). p.0 < length names) (gathered colours_in facts) (x, c) (colours_below (length names) facts below) i

  -- variables that are one with one variable are one
  both_one : (v : Variable) (x y : ℕ) → AreIdentified all v (named names x) → AreIdentified all v (named names y) → AreIdentified all (named names x) (named names y)
  both_one v x y h k = onwards _ _ _ (backwards _ _ h) k

  -- CLASHES

  pub two_colours_clash : HasTwoColours roots (gathered colours_in facts) → Clashes all
  two_colours_clash h =
      by_colours (named names h.x) h.c h.d
      (named names h.x, colour_from names facts h.x h.c h.first, itself (named names h.x))
      (named names h.y, colour_from names facts h.y h.d h.second, root_one names facts once below roots are h.x h.y (colour h.x h.c h.first) (colour h.y h.d h.second) h.one)
      h.differ

  pub value_node_clashes : (table : List Bool) → AreMarked roots (gathered stand_in facts) table → HasMarked roots table (gathered values_in facts) → Clashes all
  value_node_clashes table marked h =
      let x = h.0 in
      let q = marked.only (root roots x) h.2 in
      let e : root roots x ≡ root roots q.0 = sym q.2 in
      by_value (named names x)
      (named names q.0, number_standing names facts q.0 q.1, root_one names facts once below roots are x q.0 (value x h.1) (stand q.0 q.1) e)
      (named names x, number_value names facts x h.1, itself (named names x))

  one_colour : (table : List (Option Colour)) → AreColours roots (gathered colours_in facts) table → (v : Variable) (c d : Colour) → HasColour all v c → HasColour all v d → c ≡ d
  one_colour table colours v c d h k =
      let p = colour_to names facts h.0 c h.1 in
      let q = colour_to names facts k.0 d k.1 in
      let l : AreIdentified all v (named names p.0) = subst (λ z. AreIdentified all v z) p.2 h.2 in
      let m : AreIdentified all v (named names q.0) = subst (λ z. AreIdentified all v z) q.2 k.2 in
      let e : root roots p.0 ≡ root roots q.0 = one_root names facts once below roots are p.0 q.0 (colour p.0 c p.1) (colour q.0 d q.1) (both_one v p.0 q.0 l m) in
      same_Some c d (sym (colours.all p.0 c p.1) ∙ ap (λ r. get_or table r None) e ∙ colours.all q.0 d q.1)

  pub no_clash : Agrees (network_of (all_asserted facts)) → (table : List (Option Colour)) → AreColours roots (gathered colours_in facts) table
      → (marks : List Bool) → AreMarked roots (gathered stand_in facts) marks → (HasMarked roots marks (gathered values_in facts) → ⊥) → Clashes all → ⊥
  no_clash agrees table colours marks marked none (by_names h) = h ((agrees-said names once facts below).1 agrees)
  no_clash agrees table colours marks marked none (by_colours v c d h k differ) = differ (one_colour table colours v c d h k)
  no_clash agrees table colours marks marked none (by_value v h k) =
      let s = k.1 in
      let q = value_number names facts s.0 k.0 s.1 s.2 in
      let p = standing_number names facts h.0 h.1 in
      let l : AreIdentified all v (named names p.0) = subst (λ z. AreIdentified all v z) p.2 h.2 in
      let m : AreIdentified all v (named names q.0) = subst (λ z. AreIdentified all v z) q.2 k.2 in
      let e : root roots p.0 ≡ root roots q.0 = one_root names facts once below roots are p.0 q.0 (stand p.0 p.1) (value q.0 q.1) (both_one v p.0 q.0 l m) in
      none (q.0, q.1, sym (ap (λ r. get_or marks r false) e) ∙ marked.all p.0 p.1)

  pub disagrees_clash : (Agrees (network_of (all_asserted facts)) → ⊥) → Clashes all
  disagrees_clash h = by_names (λ a. h ((agrees-said names once facts below).0 a))

  -- COLOURS

  module _ (table : List (Option Colour)) (colours : AreColours roots (gathered colours_in facts) table) where
    colour_by : (x : ℕ) → x < length names → (o : Option Colour) → get_or table (root roots x) None ≡ o → IsColour all (named names x) (or_red roots table o)
    colour_by x l None e = inr (
      refl,
      λ d h.
          let p = colour_to names facts h.0 d h.1 in
          let m : AreIdentified all (named names x) (named names p.0) = subst (λ z. AreIdentified all (named names x) z) p.2 h.2 in
          let r : root roots x ≡ root roots p.0 = one_root names facts once below roots are x p.0 l (colour p.0 d p.1) m in
          none-some d (sym e ∙ ap (λ r. get_or table r None) r ∙ colours.all p.0 d p.1),
    )
    colour_by x l (Some c) e =
        let q = colours.only (root roots x) c e in
        inl (named names q.0, colour_from names facts q.0 c q.1, root_one names facts once below roots are x q.0 l (colour q.0 c q.1) (sym q.2))

    pub shown_colour : (x : ℕ) → x < length names → IsColour all (named names x) (shown roots table x)
    shown_colour x l = colour_by x l (get_or table (root roots x) None) refl

    colour_unique : (v : Variable) (c d : Colour) → IsColour all v c → IsColour all v d → c ≡ d
    colour_unique v c d (inl h) (inl k) = one_colour table colours v c d h k
    colour_unique v c d (inl h) (inr k) = absurd (k.1 c h)
    colour_unique v c d (inr h) (inl k) = absurd (h.1 d k)
    colour_unique v c d (inr h) (inr k) = h.0 ∙ sym k.0

    part_of_colour : (c : Colour) (firsts part : List ℕ) → Each (λ x. x < length names) firsts → IsShownPart roots table c firsts part
        → IsPartOfColour all c (map (named names) firsts) (map (named names) part)
    part_of_colour c firsts part less h = record {
      order = IsSublist-map (named names) part firsts h.order;
      only = Each-map (named names) (λ x. IsColour all x c) part (Each-members (λ x. IsColour all (named names x) c) part
          (λ x i. subst (λ z. IsColour all (named names x) z) (Each-at (λ x. shown roots table x ≡ c) part x h.only i)
          (shown_colour x (Each-at (λ x. x < length names) firsts x less (sublist_within part firsts h.order x i)))));
      whole = λ v i is.
          let r = IsAmong-map_from (named names) firsts v i in
          let l : r.0 < length names = Each-at (λ x. x < length names) firsts r.0 less r.1 in
          let e : shown roots table r.0 ≡ c = colour_unique v (shown roots table r.0) c (subst (λ z. IsColour all z (shown roots table r.0)) (sym r.2) (shown_colour r.0 l)) is in
          subst (λ z. IsAmong (map (named names) part) z) (sym r.2) (IsAmong-map (named names) part r.0 (h.whole r.0 r.1 e));
    }

    -- NODES

    first_ones : (seen xs firsts : List ℕ) → Each (λ x. x < length names) seen → Each (λ x. x < length names) xs → AreFirstOnes roots seen xs firsts
        → AreFirsts all (map (named names) seen) (map (named names) xs) (map (named names) firsts)
    first_ones seen [] firsts s l h = ap (map (named names)) h
    first_ones seen (x ∷ xs) firsts s l (inl h) =
        let y = h.0.0 in
        inl ((named names y, IsAmong-map (named names) seen y h.0.1, root_one names facts once below roots are x y l.0 (Each-at (λ x. x < length names) seen y s h.0.1) h.0.2), first_ones seen xs firsts s l.1 h.1)
    first_ones seen (x ∷ xs) firsts s l (inr h) =
        inr (
          (λ v i ident.
              let r = IsAmong-map_from (named names) seen v i in
              h.0 r.0 r.1 (one_root names facts once below roots are x r.0 l.0 (Each-at (λ x. x < length names) seen r.0 s r.1) (subst (λ z. AreIdentified all (named names x) z) r.2 ident))),
          (map (named names) h.1.0, ap (map (named names)) h.1.1, first_ones (x ∷ seen) xs h.1.0 (l.0, s) l.1 h.1.2),
        )

    -- the firsts are among the others, and each other one has a first one
    pub firsts_within : (seen xs firsts : List ℕ) → AreFirstOnes roots seen xs firsts → IsWithin firsts xs
    firsts_within seen [] firsts h x i = subst (λ z. IsAmong z x) h i
    firsts_within seen (y ∷ xs) firsts (inl h) x i = inr (firsts_within seen xs firsts h.1 x i)
    firsts_within seen (y ∷ xs) firsts (inr h) x i =
        elim (subst (λ z. IsAmong z x) h.1.1 i) [ inl e ↦ inl e | inr j ↦ inr (firsts_within (y ∷ seen) xs h.1.0 h.1.2 x j) ]

    first_of : (seen xs firsts : List ℕ) → AreFirstOnes roots seen xs firsts → (x : ℕ) → IsAmong xs x
        → ((f : ℕ) × IsAmong firsts f × (root roots x ≡ root roots f)) ⊎ ((f : ℕ) × IsAmong seen f × (root roots x ≡ root roots f))
    first_of seen [] firsts h x i = absurd i
    first_of seen (y ∷ xs) firsts (inl h) x (inl e) = inr (h.0.0, h.0.1, ap (root roots) e ∙ h.0.2)
    first_of seen (y ∷ xs) firsts (inl h) x (inr i) = first_of seen xs firsts h.1 x i
    first_of seen (y ∷ xs) firsts (inr h) x (inl e) = inl (y, subst (λ z. IsAmong z y) (sym h.1.1) (inl refl), ap (root roots) e)
    first_of seen (y ∷ xs) firsts (inr h) x (inr i) =
        elim (first_of (y ∷ seen) xs h.1.0 h.1.2 x i) [
          | inl r ↦ inl (r.0, subst (λ z. IsAmong z r.0) (sym h.1.1) (inr r.1), r.2)
          | inr r ↦ elim r.1 [
            | inl e ↦ inl (y, subst (λ z. IsAmong z y) (sym h.1.1) (inl refl), r.2 ∙ ap (root roots) e)
            | inr j ↦ inr (r.0, j, r.2)
          ]
        ]

    module _ (firsts nodes : List ℕ) (are_firsts : AreFirstOnes roots [] (gathered stand_in facts) firsts) (order : InOrder roots table firsts nodes) where
      firsts_below : Each (λ x. x < length names) firsts
      firsts_below = Each-members (λ x. x < length names) firsts (λ x i. stand x (firsts_within [] (gathered stand_in facts) firsts are_firsts x i))

      part_below : (c : Colour) (part : List ℕ) → IsShownPart roots table c firsts part → Each (λ x. x < length names) part
      part_below c part h = Each-members (λ x. x < length names) part (λ x i. Each-at (λ x. x < length names) firsts x firsts_below (sublist_within part firsts h.order x i))

      three : (x : ℕ) → IsAmong (order.blacks ++ order.whites ++ order.reds) x → x < length names
      three x i =
          elim (IsAmong-append (order.blacks ++ order.whites) order.reds x i) [
            | inl j ↦ elim (IsAmong-append order.blacks order.whites x j) [
              | inl k ↦ Each-at (λ x. x < length names) order.blacks x (part_below Black order.blacks order.are_black) k
              | inr k ↦ Each-at (λ x. x < length names) order.whites x (part_below White order.whites order.are_white) k
            ]
            | inr j ↦ Each-at (λ x. x < length names) order.reds x (part_below Red order.reds order.are_red) j
          ]

      pub nodes_below : Each (λ x. x < length names) nodes
      nodes_below = Each-members (λ x. x < length names) nodes (λ x i. three x (subst (λ z. IsAmong z x) order.parts i))

      map_three : map (named names) nodes ≡ map (named names) order.blacks ++ map (named names) order.whites ++ map (named names) order.reds
      map_three =
          ap (map (named names)) order.parts ∙ map-append (named names) (order.blacks ++ order.whites) order.reds
          ∙ ap (λ z. z ++ map (named names) order.reds) (map-append (named names) order.blacks order.whites)

      pub are_nodes : AreNodes all (map (named names) nodes)
      are_nodes = record {
        firsts = map (named names) firsts;
        blacks = map (named names) order.blacks;
        whites = map (named names) order.whites;
        reds = map (named names) order.reds;
        are_firsts = subst (λ z. AreFirsts all [] z (map (named names) firsts)) (sym (standing-said names facts)) (first_ones [] (gathered stand_in facts) firsts tt (standing_below (length names) facts below) are_firsts);
        are_black = part_of_colour Black firsts order.blacks firsts_below order.are_black;
        are_white = part_of_colour White firsts order.whites firsts_below order.are_white;
        are_red = part_of_colour Red firsts order.reds firsts_below order.are_red;
        parts = map_three;
      }

      -- each standing variable has a node
      shown_among : (f : ℕ) (c : Colour) → IsAmong firsts f → shown roots table f ≡ c → IsAmong (order.blacks ++ order.whites ++ order.reds) f
      shown_among f Black i e = IsAmong-append_left (order.blacks ++ order.whites) order.reds f (IsAmong-append_left order.blacks order.whites f (order.are_black.whole f i e))
      shown_among f White i e = IsAmong-append_left (order.blacks ++ order.whites) order.reds f (IsAmong-append_right order.blacks order.whites f (order.are_white.whole f i e))
      shown_among f Red i e = IsAmong-append_right (order.blacks ++ order.whites) order.reds f (order.are_red.whole f i e)

      node_of_standing : (x : ℕ) → IsAmong (gathered stand_in facts) x → (f : ℕ) × IsAmong nodes f × (root roots x ≡ root roots f)
      node_of_standing x i =
          elim (first_of [] (gathered stand_in facts) firsts are_firsts x i) [
            | inl r ↦ (r.0, subst (λ z. IsAmong z r.0) (sym order.parts) (shown_among r.0 (shown roots table r.0) r.1 refl), r.2)
            | inr r ↦ absurd r.1
          ]

      module _ (places : List ℕ) (are_places : ArePlaces roots nodes places) where
        pub place_stands : (x : ℕ) → IsAmong (gathered stand_in facts) x → StandsAt roots nodes (get_or places (root roots x) 0) (root roots x)
        place_stands x i =
            let r = node_of_standing x i in
            subst (λ z. StandsAt roots nodes (get_or places z 0) z) (sym r.2) (are_places.stand r.0 r.1)

        pub place_of : (x : ℕ) → IsAmong (gathered stand_in facts) x → IsPlaceOf all (map (named names) nodes) (get_or places (root roots x) 0) (named names x)
        place_of x i =
            let s = place_stands x i in
            let j : s.0 < length names = Each-at (λ x. x < length names) nodes s.0 nodes_below (IsAmong-slice_get nodes (get_or places (root roots x) 0) s.0 s.1) in
            (named names s.0, slice_get-mapped (named names) nodes (get_or places (root roots x) 0) s.0 s.1, root_one names facts once below roots are x s.0 (stand x i) j (sym s.2))
