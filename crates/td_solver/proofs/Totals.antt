-- What the search spends, against the numbers of models of the first nodes.
use Rattle.std.specs.Prelude.{◌≡◌, ℕ, zero, suc, ◌+◌, ◌<◌, ◌≤◌, List, [], ◌∷◌, ◌++◌, ◌⊎◌, length, map, refl}
use Rattle.std.proofs.Common.{inl, inr, subst, sym, ap, ◌∙◌, arith, length-append}
use Rattle.std.proofs.lemmas.List.{length-map}
use Rattle.gr_base.specs.Lists.{IsAmong, NoneTwice, Each, IsListing, gathered}
use Rattle.gr_base.specs.Forests.{Forest, empty, labels}
use Rattle.gr_base.proofs.ListLemmas.{Each-at, IsAmong-map, IsAmong-map_from, IsAmong-append_left}
use Rattle.gr_base.proofs.Counting.{length-within}
use Rattle.gr_terms.specs.Networks.{Agrees}
use Rattle.gr_terms.proofs.NetworkLemmas.{Agrees-part}
use Rattle.td_desc.specs.Descriptions.{Description}
use Rattle.td_forest.specs.Without.{without}
use Rattle.td_colour.specs.Colours.{BlacksFirst}
use Rattle.td_colour.specs.Models.{set_links, merged_network, IsForestModel}
use Rattle.td_colour.proofs.Modelling.{model_without, model_none}
use Rattle.td_solver.specs.declared.Solved.TheVariants.{All, Cut}
use Rattle.td_solver.specs.Searches.{IsPartListing, Below}
use Rattle.td_solver.specs.Solutions.{IsModelTotal}
use Rattle.td_solver.specs.Turns.{IsFoundIn, IsSpent}
use Rattle.td_solver.proofs.Finding.{listing_both, all_below}

-- the list without one of its elements
record Taken {A : Type 0} (ys : List A) (x : A) : Type 0 where
  pub rest : List A
  pub long : length ys ≡ suc (length rest)
  pub others : (y : A) → IsAmong ys y → (y ≡ x) ⊎ IsAmong rest y

taken_later : {A : Type 0} (z x : A) (ys : List A) → Taken ys x → Taken (z ∷ ys) x
taken_later z x ys t =
    let l : length ys ≡ suc (length t.rest) = t.long in
    record {
      rest = z ∷ t.rest;
      long = omega arith;
      others = λ y i. elim i [ inl e ↦ inr (inl e) | inr j ↦ elim (t.others y j) [ inl e ↦ inl e | inr k ↦ inr (inr k) ] ];
    }

taken : {A : Type 0} (ys : List A) (x : A) → IsAmong ys x → Taken ys x
taken [] x i = absurd i
taken (z ∷ ys) x (inl e) = record { rest = ys; long = refl; others = λ y i. elim i [ inl q ↦ inl (q ∙ sym e) | inr j ↦ inr j ] }
taken (z ∷ ys) x (inr i) = taken_later z x ys (taken ys x i)

-- a part listing is not longer than a listing, and two listings are of one length
part_shorter : {A : Type 0} (P : A → Type 0) (xs ys : List A) → IsPartListing P xs → IsListing P ys → length xs ≤ length ys
part_shorter P xs ys p l = length-within xs ys p.once (λ x i. l.all x (Each-at P xs x p.only i))

listings_long : {A : Type 0} (P : A → Type 0) (xs ys : List A) → IsListing P xs → IsListing P ys → length xs ≡ length ys
listings_long P xs ys a b =
    let h : length xs ≤ length ys = part_shorter P xs ys (record { once = a.once; only = a.only }) b in
    let k : length ys ≤ length xs = part_shorter P ys xs (record { once = b.once; only = b.only }) a in
    omega arith

abbrev at_level : ℕ → Forest (List ℕ) → ℕ × Forest (List ℕ)
at_level n G = (n, G)

module _ (d : Description ℕ ℕ) (first : BlacksFirst d.nodes) (base : IsForestModel d 0 empty) where
  abbrev OfLevel : ℕ → ℕ × Forest (List ℕ) → Type 0
  OfLevel n p = (p.0 ≡ n) × IsForestModel d n p.1

  -- from the empty forest the search finds just all models
  pub below_all : (m : ℕ) (G : Forest (List ℕ)) → IsForestModel d m G → Below (IsForestModel d) without m 0 empty G
  below_all m G h = all_below (IsForestModel d) without empty (λ F f. sym ((model_none d F).0 f).0) (model_without d first) m G h

  below_model : (j m : ℕ) (F G : Forest (List ℕ)) → IsForestModel d m F → Below (IsForestModel d) without j m F G → IsForestModel d (m + j) G
  below_model zero m F G h b = let e : m ≡ m + 0 = omega arith in subst (λ k. IsForestModel d k G) e (subst (λ H. IsForestModel d m H) b h)
  below_model (suc j) m F G h b = let e : suc m + j ≡ m + suc j = omega arith in subst (λ k. IsForestModel d k G) e (below_model j (suc m) b.0 G b.1 b.3)

  pub all_model : (n : ℕ) (G : Forest (List ℕ)) → Below (IsForestModel d) without n 0 empty G → IsForestModel d n G
  all_model n G b = let e : 0 + n ≡ n = omega arith in subst (λ k. IsForestModel d k G) e (below_model n 0 empty G base b)

  -- the models of n nodes, each beside n
  level_once : (n : ℕ) (Gs : List (Forest (List ℕ))) → NoneTwice Gs → NoneTwice (map (at_level n) Gs)
  level_once n [] once = tt
  level_once n (G ∷ Gs) once = (
    (λ i.
        let r = IsAmong-map_from (at_level n) Gs (at_level n G) i in
        let e : G ≡ r.0 = ap (λ (p : ℕ × Forest (List ℕ)). p.1) r.2 in
        once.0 (subst (λ H. IsAmong Gs H) (sym e) r.1)),
    level_once n Gs once.1,
  )

  level_only : (n : ℕ) (Gs : List (Forest (List ℕ))) → Each (IsForestModel d n) Gs → Each (OfLevel n) (map (at_level n) Gs)
  level_only n [] e = tt
  level_only n (G ∷ Gs) e = ((refl, e.0), level_only n Gs e.1)

  level_all : (n : ℕ) (Gs : List (Forest (List ℕ))) (p : ℕ × Forest (List ℕ)) → p.0 ≡ n → IsAmong Gs p.1 → IsAmong (map (at_level n) Gs) p
  level_all n Gs p e i = subst (λ k. IsAmong (map (at_level n) Gs) (at_level k p.1)) (sym e) (IsAmong-map (at_level n) Gs p.1 i)

  level : (n : ℕ) (Gs : List (Forest (List ℕ))) → IsListing (IsForestModel d n) Gs → IsListing (OfLevel n) (map (at_level n) Gs)
  level n Gs l = record { once = level_once n Gs l.once; only = level_only n Gs l.only; all = λ p h. level_all n Gs p h.0 (l.all p.1 h.1) }

  -- what is found with so many nodes at most
  found_wider : (n : ℕ) (p : ℕ × Forest (List ℕ)) → IsFoundIn d n 0 empty p → IsFoundIn d (suc n) 0 empty p
  found_wider n p h = let a : p.0 ≤ n = h.most in record { some = h.some; most = omega arith; below = h.below }

  found_last : (n : ℕ) (p : ℕ × Forest (List ℕ)) → OfLevel (suc n) p → IsFoundIn d (suc n) 0 empty p
  found_last n p h = subst (λ k. IsFoundIn d (suc n) 0 empty (at_level k p.1)) (sym h.0) (record { some = omega arith; most = omega arith; below = below_all (suc n) p.1 h.1 })

  last_or_less : (k n : ℕ) → k ≤ suc n → (k ≤ n) ⊎ (k ≡ suc n)
  last_or_less zero n h = inl (omega arith)
  last_or_less (suc k) zero h = inr (omega arith)
  last_or_less (suc k) (suc n) h = elim (last_or_less k n (omega arith)) [ inl a ↦ inl (omega arith) | inr b ↦ inr (omega arith) ]

  found_parts : (n : ℕ) (p : ℕ × Forest (List ℕ)) → IsFoundIn d (suc n) 0 empty p → IsFoundIn d n 0 empty p ⊎ OfLevel (suc n) p
  found_parts n p h = elim (last_or_less p.0 n h.most) [
    | inl low ↦ inl (record { some = h.some; most = low; below = h.below })
    | inr last ↦ inr (last, subst (λ j. IsForestModel d j p.1) last (all_model p.0 p.1 h.below))
  ]

  -- the models of the first 1 to n nodes, each beside its number of nodes: as many as the total says
  record Levels (n total : ℕ) : Type 0 where
    pub found : List (ℕ × Forest (List ℕ))
    pub listing : IsListing (IsFoundIn d n 0 empty) found
    pub long : length found ≡ total

  levels : (n total : ℕ) → IsModelTotal d n total → Levels n total
  levels zero total c = record {
    found = [];
    listing = record { once = tt; only = tt; all = λ p h. let a : 0 < p.0 = h.some in let b : p.0 ≤ 0 = h.most in absurd (omega arith) };
    long = sym c;
  }
  levels (suc n) total c =
      let r = levels n c.0 c.2 in
      let Gs = c.3.0 in
      let last = map (at_level (suc n)) Gs in
      let a : length (r.found ++ last) ≡ length r.found + length last = length-append r.found last in
      let b : length last ≡ length Gs = length-map Gs (at_level (suc n)) in
      let l : length r.found ≡ c.0 = r.long in
      let e : length Gs ≡ c.1 = c.3.2 in
      let t : total ≡ c.0 + c.1 = c.4 in
      record {
        found = r.found ++ last;
        listing = listing_both (IsFoundIn d n 0 empty) (OfLevel (suc n)) (IsFoundIn d (suc n) 0 empty) r.found last r.listing
            (level (suc n) Gs c.3.1) (λ p h k. let x : p.0 ≤ n = h.most in let y : p.0 ≡ suc n = k.0 in omega arith) (found_wider n) (found_last n) (found_parts n);
        long = omega arith;
      }

  -- All: just as much was spent as the total says; Cut: the budget was less than that
  pub spent_all : (n total before after : ℕ) → IsModelTotal d n total → IsSpent d n 0 empty before after All → before ≡ after + total
  spent_all n total before after c s =
      let r = levels n total c in
      let a : length s.0 ≡ length r.found = listings_long (IsFoundIn d n 0 empty) s.0 r.found s.1 r.listing in
      let b : length r.found ≡ total = r.long in
      let e : before ≡ after + length s.0 = s.2 in
      omega arith

  pub spent_cut : (n total before after : ℕ) → IsModelTotal d n total → IsSpent d n 0 empty before after Cut → before < total
  spent_cut n total before after c s =
      let r = levels n total c in
      let a : length s.0 ≤ length r.found = part_shorter (IsFoundIn d n 0 empty) s.0 r.found s.1 r.listing in
      let b : length r.found ≡ total = r.long in
      let e : before < length s.0 = s.2 in
      omega arith

-- where the network does not agree, nothing is a model
module _ (d : Description ℕ ℕ) (bad : Agrees d.network → ⊥) where
  pub no_model : (m : ℕ) (F : Forest (List ℕ)) → IsForestModel d m F → ⊥
  no_model m F h = bad (Agrees-part d.network (merged_network d F) (λ e i. IsAmong-append_left d.network (gathered (set_links d.nodes) (labels F)) e i) h.network)

  none_listed : (n : ℕ) (Gs : List (Forest (List ℕ))) → Each (IsForestModel d n) Gs → length Gs ≡ 0
  none_listed n [] e = refl
  none_listed n (G ∷ Gs) e = absurd (no_model n G e.0)

  pub total_none : (n total : ℕ) → IsModelTotal d n total → total ≡ 0
  total_none zero total c = c
  total_none (suc n) total c =
      let a : c.0 ≡ 0 = total_none n c.0 c.2 in
      let b : length c.3.0 ≡ 0 = none_listed (suc n) c.3.0 c.3.1.only in
      let e : length c.3.0 ≡ c.1 = c.3.2 in
      let t : total ≡ c.0 + c.1 = c.4 in
      omega arith

-- a description has one total
pub one_total : (d : Description ℕ ℕ) (n a b : ℕ) → IsModelTotal d n a → IsModelTotal d n b → a ≡ b
one_total d zero a b s t = s ∙ sym t
one_total d (suc n) a b s t =
    let e : s.0 ≡ t.0 = one_total d n s.0 t.0 s.2 t.2 in
    let l : length s.3.0 ≡ length t.3.0 = listings_long (IsForestModel d (suc n)) s.3.0 t.3.0 s.3.1 t.3.1 in
    let p : length s.3.0 ≡ s.1 = s.3.2 in
    let q : length t.3.0 ≡ t.1 = t.3.2 in
    let u : a ≡ s.0 + s.1 = s.4 in
    let v : b ≡ t.0 + t.1 = t.4 in
    omega arith
