-- A tree whose slots and values are those of a network has one canonical form, whatever exact labelling it is made with.
use Rattle.std.specs.Prelude.{◌≡◌, ℕ, zero, suc, ◌<◌, ◌≤◌, Bool, true, false, ◌==◌, List, [], ◌∷◌, ◌++◌, map, ◌⊎◌, ⊤, if◌then◌else◌, refl}
use Rattle.std.proofs.Common.{inl, inr, ap, ap₂, sym, ◌∙◌, subst, arith}
use Rattle.std.proofs.lemmas.Bool.{false≢true}
use Rattle.std.proofs.lemmas.Bool.Decides.{Decides-eqb}
use Rattle.gr_base.specs.Lists.{IsAmong, IsWithin, IsBefore, InByteOrder, gathered}
use Rattle.gr_base.specs.Forests.{Forest, empty, tree, AreAlike, labels}
use Rattle.gr_base.proofs.Counting.{IsBefore-irreflexive}
use Rattle.gr_base.proofs.ListLemmas.{Each-at, IsAmong-append, IsAmong-append_left, IsAmong-append_right, IsAmong-map, IsAmong-map_from, same_head, same_tail, IsAmong-gathered, IsAmong-gathered_from}
use Rattle.gr_base.proofs.OrderedPairs.{InByteOrder-unique}
use Rattle.gr_terms.specs.Canonical.{Decorated, Label, Literal, Node, Pairs, named, numbered, category, properties, values, node_slots, node_values, tree_slots, walked, literal_terms, map_literal, IsMet, IsNumberedFrom, IsCanonicalForm, ListsNode, ListsSlot}
use Rattle.gr_terms.specs.Constants.{CAT}
use Rattle.gr_terms.specs.Networks.{Term, Assertion, HasValue}
use Rattle.td_canon.proofs.MeetingLemmas.{named-numbered, same_numbered}

-- R holds element by element
abbrev pub Zipped : {A B : Type 0} → (A → B → Type 0) → List A → List B → Type 0
Zipped R [] [] = ⊤
Zipped R [] (y ∷ ys) = ⊥
Zipped R (x ∷ xs) [] = ⊥
Zipped R (x ∷ xs) (y ∷ ys) = R x y × Zipped R xs ys

Zipped-append : {A B : Type 0} (R : A → B → Type 0) (xs : List A) (ys : List B) (us : List A) (vs : List B) → Zipped R xs ys → Zipped R us vs → Zipped R (xs ++ us) (ys ++ vs)
Zipped-append R [] [] us vs h k = k
Zipped-append R [] (y ∷ ys) us vs h k = absurd h
Zipped-append R (x ∷ xs) [] us vs h k = absurd h
Zipped-append R (x ∷ xs) (y ∷ ys) us vs h k = (h.0, Zipped-append R xs ys us vs h.1 k)

Zipped-map : {A B C : Type 0} (R : B → C → Type 0) (f : A → B) (g : A → C) (xs : List A) → ((x : A) → IsAmong xs x → R (f x) (g x)) → Zipped R (map f xs) (map g xs)
Zipped-map R f g [] each = tt
Zipped-map R f g (x ∷ xs) each = (each x (inl refl), Zipped-map R f g xs (λ y i. each y (inr i)))

-- ---- pairs in byte order

module _ (text : ℕ → List ℕ) where
  abbrev pub attribute_text : ℕ × Label → List ℕ
  attribute_text p = text p.0

  -- two pairs of one attribute are one
  pub one_pair : (ps : Pairs) (p q : ℕ × Label) → InByteOrder (map attribute_text ps) → IsAmong ps p → IsAmong ps q → p.0 ≡ q.0 → p ≡ q
  one_pair [] p q order i j e = absurd i
  one_pair (r ∷ ps) p q order (inl h) (inl k) e = h ∙ sym k
  one_pair (r ∷ ps) p q order (inl h) (inr j) e =
      let before : IsBefore (text r.0) (text q.0) = Each-at (IsBefore (text r.0)) (map attribute_text ps) (text q.0) order.0 (IsAmong-map attribute_text ps q j) in
      let same : text q.0 ≡ text r.0 = ap text (sym e) ∙ ap attribute_text h in
      absurd (IsBefore-irreflexive (text r.0) (subst (λ k. IsBefore (text r.0) k) same before))
  one_pair (r ∷ ps) p q order (inr i) (inl k) e =
      let before : IsBefore (text r.0) (text p.0) = Each-at (IsBefore (text r.0)) (map attribute_text ps) (text p.0) order.0 (IsAmong-map attribute_text ps p i) in
      let same : text p.0 ≡ text r.0 = ap text e ∙ ap attribute_text k in
      absurd (IsBefore-irreflexive (text r.0) (subst (λ z. IsBefore (text r.0) z) same before))
  one_pair (r ∷ ps) p q order (inr i) (inr j) e = one_pair ps p q order.1 i j e

  -- each value is the category or one of the properties
  pub category_found : (ps : Pairs) (p : ℕ × Label) → IsAmong ps p → p.0 ≡ CAT → (q : ℕ × Label) × IsAmong ps q × (q.0 ≡ CAT) × (category ps ≡ q.1 ∷ [])
  category_found [] p i e = absurd i
  category_found (r ∷ ps) p i e = by (r.0 == CAT) refl i (λ j. category_found ps p j e)
    where
      by : (b : Bool) → (r.0 == CAT) ≡ b → IsAmong (r ∷ ps) p → (IsAmong ps p → (q : ℕ × Label) × IsAmong ps q × (q.0 ≡ CAT) × (category ps ≡ q.1 ∷ [])) →
          (q : ℕ × Label) × IsAmong (r ∷ ps) q × (q.0 ≡ CAT) × ((if b then (r.1 ∷ []) else category ps) ≡ q.1 ∷ [])
      by true f j later = (r, inl refl, (Decides-eqb r.0 CAT).0 f, refl)
      by false f (inl h) later = absurd (false≢true (sym f ∙ (Decides-eqb r.0 CAT).1 (sym (ap (λ (z : ℕ × Label). z.0) h) ∙ e)))
      by false f (inr j) later = let s = later j in (s.0, inr s.1, s.2, s.3)

  pub property_found : (ps : Pairs) (p : ℕ × Label) → IsAmong ps p → (p.0 ≡ CAT → ⊥) → IsAmong (properties ps) p
  property_found [] p i other = i
  property_found (r ∷ ps) p i other = by (r.0 == CAT) refl i (λ j. property_found ps p j other)
    where
      by : (b : Bool) → (r.0 == CAT) ≡ b → IsAmong (r ∷ ps) p → (IsAmong ps p → IsAmong (properties ps) p) → IsAmong (if b then properties ps else (r ∷ properties ps)) p
      by true f (inl h) later = absurd (other (ap (λ (z : ℕ × Label). z.0) h ∙ (Decides-eqb r.0 CAT).0 f))
      by true f (inr j) later = later j
      by false f (inl h) later = inl h
      by false f (inr j) later = inr (later j)

  pub own_value : (ps : Pairs) (p : ℕ × Label) → InByteOrder (map attribute_text ps) → IsAmong ps p → IsAmong (category ps ++ values (properties ps)) p.1
  own_value ps p order i = by (p.0 == CAT) refl
    where
      by : (b : Bool) → (p.0 == CAT) ≡ b → IsAmong (category ps ++ values (properties ps)) p.1
      by true e =
          let is : p.0 ≡ CAT = (Decides-eqb p.0 CAT).0 e in
          let r = category_found ps p i is in
          let same : p ≡ r.0 = one_pair ps p r.0 order i r.1 (is ∙ sym r.2) in
          IsAmong-append_left (category ps) (values (properties ps)) p.1 (subst (λ ls. IsAmong ls p.1) (sym r.3) (inl (ap (λ (z : ℕ × Label). z.1) same)))
      by false e =
          IsAmong-append_right (category ps) (values (properties ps)) p.1
          (IsAmong-map (λ (q : ℕ × Label). q.1) (properties ps) p (property_found ps p i (λ is. false≢true (sym e ∙ (Decides-eqb p.0 CAT).1 is))))

-- ---- two forms of one tree

module _ {V S : Type 0} (text : ℕ → List ℕ) (N : List (Assertion V S)) (t : Decorated S (Term V)) where
  -- the attribute has a value at some slot of the tree
  abbrev pub IsMetAttribute : ℕ → Type 0
  IsMetAttribute p = (s : S) × (x : Term V) × IsAmong (tree_slots t) s × HasValue N s p x

  module _ (apart : (p q : ℕ) → IsMetAttribute p → IsMetAttribute q → text p ≡ text q → p ≡ q) (c e : Decorated Pairs Label) (a : IsCanonicalForm text N t c) (b : IsCanonicalForm text N t e) where
    -- two labels of one term
    abbrev Matches : Label → Label → Type 0
    Matches v w = (x : Term V) × IsMet N t x × (v ≡ a.label x) × (w ≡ b.label x)

    matched_there : (v w z : Label) → Matches v w → Matches v z → w ≡ z
    matched_there v w z (x, i, vx, wx) (y, j, vy, zy) = wx ∙ b.exact.linked x y (a.exact.classes x y i j (sym vx ∙ vy)) ∙ sym zy

    matched_back : (v w z : Label) → Matches v z → Matches w z → v ≡ w
    matched_back v w z (x, i, vx, zx) (y, j, wy, zy) = vx ∙ a.exact.linked x y (b.exact.classes x y i j (sym zx ∙ zy)) ∙ sym wy

    name_there : (p : ℕ) (w : Label) → Matches (named p) w → w ≡ named p
    name_there p w (x, i, vx, wx) = wx ∙ (b.exact.names x p i).1 ((a.exact.names x p i).0 (sym vx))

    name_back : (p : ℕ) (v : Label) → Matches v (named p) → v ≡ named p
    name_back p v (x, i, vx, wx) = vx ∙ (a.exact.names x p i).1 ((b.exact.names x p i).0 (sym wx))

    -- ---- numbers by first meeting are fixed

    -- the first n numbers match themselves
    abbrev Known : ℕ → Type 0
    Known n = (k : ℕ) → 0 < k → k ≤ n → Matches (numbered k) (numbered k)

    -- what a walk settles: matching labels of what it meets are equal
    abbrev Settles : List Label → Type 0
    Settles vs = (v w : Label) → IsAmong vs v → Matches v w → v ≡ w

    known_more : (n k : ℕ) → k ≡ suc n → Matches (numbered k) (numbered k) → Known n → Known (suc n)
    known_more n k e m known = λ j positive below. by j positive below (below_or j)
      where
        below_or : (j : ℕ) → (j ≤ n) ⊎ (n < j)
        below_or zero = inl (omega arith)
        below_or (suc j) = two n j
          where
            two : (n j : ℕ) → (suc j ≤ n) ⊎ (n < suc j)
            two zero j = inr (omega arith)
            two (suc n) zero = inl (omega arith)
            two (suc n) (suc j) = elim (two n j) [ inl h ↦ inl (omega arith) | inr h ↦ inr (omega arith) ]

        by : (j : ℕ) → 0 < j → j ≤ suc n → (j ≤ n) ⊎ (n < j) → Matches (numbered j) (numbered j)
        by j positive below (inl h) = known j positive h
        by j positive below (inr h) = let same : k ≡ j = omega (arith, e) in subst (λ i. Matches (numbered i) (numbered i)) same m

    head_settled : (n k l : ℕ) → Known n → Matches (numbered k) (numbered l) →
        ((0 < k) × (k ≤ n)) ⊎ (k ≡ suc n) → ((0 < l) × (l ≤ n)) ⊎ (l ≡ suc n) → k ≡ l
    head_settled n k l known m (inl (p, q)) other = same_numbered k l (sym (matched_there (numbered k) (numbered l) (numbered k) m (known k p q)))
    head_settled n k l known m (inr h) (inl (p, q)) = same_numbered k l (matched_back (numbered k) (numbered l) (numbered l) m (known l p q))
    head_settled n k l known m (inr h) (inr g) = h ∙ sym g

    settle_known : (n : ℕ) (v w : Label) → Known n → (k : ℕ) → v ≡ numbered k → 0 < k → k ≤ n → Matches v w → v ≡ w
    settle_known n v w known k e p q m = e ∙ sym (matched_there (numbered k) w (numbered k) (subst (λ z. Matches z w) e m) (known k p q))

    settles : (n : ℕ) (vs ws : List Label) → Known n → IsNumberedFrom n vs → IsNumberedFrom n ws → Zipped Matches vs ws → Settles vs
    settles n [] [] known f g z = λ v w i m. absurd i
    settles n [] (w ∷ ws) known f g z = absurd z
    settles n (v ∷ vs) [] known f g z = absurd z
    settles n (named p ∷ vs) (named q ∷ ws) known f g z = λ v w i m. elim i [
      | inl h ↦ h ∙ sym (name_there p w (subst (λ y. Matches y w) h m))
      | inr j ↦ settles n vs ws known f g z.1 v w j m
    ]
    settles n (named p ∷ vs) (numbered l ∷ ws) known f g z = named-numbered p l (sym (name_there p (numbered l) z.0))
    settles n (numbered k ∷ vs) (named q ∷ ws) known f g z = named-numbered q k (sym (name_back q (numbered k) z.0))
    settles n (numbered k ∷ vs) (numbered l ∷ ws) known (inl (p, q, f)) (inl (r, s, g)) z = λ v w i m. elim i [
      | inl h ↦ settle_known n v w known k h p q m
      | inr j ↦ settles n vs ws known f g z.1 v w j m
    ]
    settles n (numbered k ∷ vs) (numbered l ∷ ws) known (inl (p, q, f)) (inr (h, g)) z =
        let same : k ≡ l = head_settled n k l known z.0 (inl (p, q)) (inr h) in absurd (omega arith)
    settles n (numbered k ∷ vs) (numbered l ∷ ws) known (inr (h, f)) (inl (r, s, g)) z =
        let same : k ≡ l = head_settled n k l known z.0 (inr h) (inl (r, s)) in absurd (omega arith)
    settles n (numbered k ∷ vs) (numbered l ∷ ws) known (inr (h, f)) (inr (g, u)) z =
        let same : k ≡ l = h ∙ sym g in
        let more : Known (suc n) = known_more n k h (subst (λ j. Matches (numbered k) (numbered j)) (sym same) z.0) known in
        λ v w i m. elim i [
          | inl d ↦ settle_known (suc n) v w more k d (omega (arith, h)) (omega (arith, h)) m
          | inr j ↦ settles (suc n) vs ws more f u z.1 v w j m
        ]

    -- ---- lists match pair by pair

    abbrev MatchPairs : ℕ × Label → ℕ × Label → Type 0
    MatchPairs p q = (p.0 ≡ q.0) × Matches p.1 q.1

    module _ (s : S) (there : IsAmong (tree_slots t) s) (ps qs : Pairs) (la : ListsSlot text N a.label s ps) (lb : ListsSlot text N b.label s qs) where
      met_a : (p : ℕ × Label) → IsAmong ps p → (x : Term V) × HasValue N s p.0 x × (p.1 ≡ a.label x)
      met_a p i = (la.pairs p.0 p.1).0 i

      met_b : (q : ℕ × Label) → IsAmong qs q → (x : Term V) × HasValue N s q.0 x × (q.1 ≡ b.label x)
      met_b q i = (lb.pairs q.0 q.1).0 i

      pair_matches : (p q : ℕ × Label) → IsAmong ps p → IsAmong qs q → text p.0 ≡ text q.0 → MatchPairs p q
      pair_matches p q i j e =
          let x = met_a p i in
          let y = met_b q j in
          let same : p.0 ≡ q.0 = apart p.0 q.0 (s, x.0, there, x.1) (s, y.0, there, y.1) e in
          let other : IsAmong qs (p.0, b.label x.0) = (lb.pairs p.0 (b.label x.0)).1 (x.0, x.1, refl) in
          let one : q ≡ (p.0, b.label x.0) = one_pair text qs q (p.0, b.label x.0) lb.order j other (sym same) in
          (same, (x.0, inl (s, p.0, there, x.1), x.2, ap (λ (z : ℕ × Label). z.1) one))

      texts_within : IsWithin (map (attribute_text text) ps) (map (attribute_text text) qs)
      texts_within k i =
          let p = IsAmong-map_from (attribute_text text) ps k i in
          let x = met_a p.0 p.1 in
          subst (λ z. IsAmong (map (attribute_text text) qs) z) (sym p.2) (IsAmong-map (attribute_text text) qs (p.0.0, b.label x.0) ((lb.pairs p.0.0 (b.label x.0)).1 (x.0, x.1, refl)))

      within_texts : IsWithin (map (attribute_text text) qs) (map (attribute_text text) ps)
      within_texts k i =
          let q = IsAmong-map_from (attribute_text text) qs k i in
          let y = met_b q.0 q.1 in
          subst (λ z. IsAmong (map (attribute_text text) ps) z) (sym q.2) (IsAmong-map (attribute_text text) ps (q.0.0, a.label y.0) ((la.pairs q.0.0 (a.label y.0)).1 (y.0, y.1, refl)))

      zip_keys : (us vs : Pairs) → IsWithin us ps → IsWithin vs qs → map (attribute_text text) us ≡ map (attribute_text text) vs → Zipped MatchPairs us vs
      zip_keys [] [] f g h = tt
      zip_keys [] (v ∷ vs) f g h = absurd cc
      zip_keys (u ∷ us) [] f g h = absurd cc
      zip_keys (u ∷ us) (v ∷ vs) f g h = (
        pair_matches u v (f u (inl refl)) (g v (inl refl)) (same_head (text u.0) (text v.0) (map (attribute_text text) us) (map (attribute_text text) vs) h),
        zip_keys us vs (λ x i. f x (inr i)) (λ x i. g x (inr i)) (same_tail (text u.0) (text v.0) (map (attribute_text text) us) (map (attribute_text text) vs) h),
      )

      pub lists_match : Zipped MatchPairs ps qs
      lists_match = zip_keys ps qs (λ x i. i) (λ x i. i) (InByteOrder-unique (map (attribute_text text) ps) (map (attribute_text text) qs) la.order lb.order texts_within within_texts)

    -- ---- and so node by node

    record MatchNodes (p q : Node Pairs) : Type 0 where
      own : Zipped MatchPairs p.own q.own
      top : Zipped MatchPairs p.top q.top
      bottom : Zipped MatchPairs p.bottom q.bottom
      order : InByteOrder (map (attribute_text text) p.own)

    node_matches : (n : Node S) (p q : Node Pairs) → ((s : S) → IsAmong (node_slots n) s → IsAmong (tree_slots t) s) → ListsNode text N a.label n p → ListsNode text N b.label n q → MatchNodes p q
    node_matches n p q slots la lb = record {
      own = lists_match n.own (slots n.own (inl refl)) p.own q.own la.own lb.own;
      top = lists_match n.top (slots n.top (inr (inl refl))) p.top q.top la.top lb.top;
      bottom = lists_match n.bottom (slots n.bottom (inr (inr (inl refl)))) p.bottom q.bottom la.bottom lb.bottom;
      order = la.own.order;
    }

    forest_matches : (f : Forest (Node S)) (g h : Forest (Node Pairs)) → ((s : S) → IsAmong (gathered node_slots (labels f)) s → IsAmong (tree_slots t) s) →
        AreAlike (ListsNode text N a.label) f g → AreAlike (ListsNode text N b.label) f h → AreAlike MatchNodes g h
    forest_matches empty empty empty slots la lb = tt
    forest_matches empty empty (tree q others rest) slots la lb = absurd lb
    forest_matches empty (tree p kids more) h slots la lb = absurd la
    forest_matches (tree n kids more) empty h slots la lb = absurd la
    forest_matches (tree n kids more) (tree p others rest) empty slots la lb = absurd lb
    forest_matches (tree n kids more) (tree p others rest) (tree q others' rest') slots la lb = (
      node_matches n p q (λ s i. slots s (IsAmong-append_left (node_slots n) (gathered node_slots (labels kids ++ labels more)) s i)) la.0 lb.0,
      forest_matches kids others others'
          (λ s i. slots s (IsAmong-append_right (node_slots n) (gathered node_slots (labels kids ++ labels more)) s (gathered_left node_slots (labels kids) (labels more) s i))) la.1 lb.1,
      forest_matches more rest rest'
          (λ s i. slots s (IsAmong-append_right (node_slots n) (gathered node_slots (labels kids ++ labels more)) s (gathered_right node_slots (labels kids) (labels more) s i))) la.2 lb.2,
    )
      where
        gathered_left : {A B : Type 0} (f : A → List B) (xs ys : List A) (y : B) → IsAmong (gathered f xs) y → IsAmong (gathered f (xs ++ ys)) y
        gathered_left f xs ys y i = let r = IsAmong-gathered_from f xs y i in IsAmong-gathered f (xs ++ ys) r.0 y (IsAmong-append_left xs ys r.0 r.1) r.2

        gathered_right : {A B : Type 0} (f : A → List B) (xs ys : List A) (y : B) → IsAmong (gathered f ys) y → IsAmong (gathered f (xs ++ ys)) y
        gathered_right f xs ys y i = let r = IsAmong-gathered_from f ys y i in IsAmong-gathered f (xs ++ ys) r.0 y (IsAmong-append_right xs ys r.0 r.1) r.2

    -- ---- along the walks

    values_match : (ps qs : Pairs) → Zipped MatchPairs ps qs → Zipped Matches (values ps) (values qs)
    values_match [] [] z = tt
    values_match [] (q ∷ qs) z = absurd z
    values_match (p ∷ ps) [] z = absurd z
    values_match (p ∷ ps) (q ∷ qs) z = (z.0.1, values_match ps qs z.1)

    category_match : (ps qs : Pairs) → Zipped MatchPairs ps qs → Zipped Matches (category ps) (category qs)
    category_match [] [] z = tt
    category_match [] (q ∷ qs) z = absurd z
    category_match (p ∷ ps) [] z = absurd z
    category_match (p ∷ ps) (q ∷ qs) z = subst (λ k. Zipped Matches (category (p ∷ ps)) (if k == CAT then (q.1 ∷ []) else category qs)) z.0.0 (by (p.0 == CAT) (category_match ps qs z.1))
      where
        by : (b : Bool) → Zipped Matches (category ps) (category qs) → Zipped Matches (if b then (p.1 ∷ []) else category ps) (if b then (q.1 ∷ []) else category qs)
        by true later = (z.0.1, tt)
        by false later = later

    properties_match : (ps qs : Pairs) → Zipped MatchPairs ps qs → Zipped MatchPairs (properties ps) (properties qs)
    properties_match [] [] z = tt
    properties_match [] (q ∷ qs) z = absurd z
    properties_match (p ∷ ps) [] z = absurd z
    properties_match (p ∷ ps) (q ∷ qs) z = subst (λ k. Zipped MatchPairs (properties (p ∷ ps)) (if k == CAT then properties qs else (q ∷ properties qs))) z.0.0 (by (p.0 == CAT) (properties_match ps qs z.1))
      where
        by : (b : Bool) → Zipped MatchPairs (properties ps) (properties qs) → Zipped MatchPairs (if b then properties ps else (p ∷ properties ps)) (if b then properties qs else (q ∷ properties qs))
        by true later = later
        by false later = (z.0, later)

    node_values_match : (p q : Node Pairs) → MatchNodes p q → Zipped Matches (node_values p) (node_values q)
    node_values_match p q m =
        Zipped-append Matches ((category p.own ++ values (properties p.own)) ++ values p.top) ((category q.own ++ values (properties q.own)) ++ values q.top) (values p.bottom) (values q.bottom)
        (Zipped-append Matches (category p.own ++ values (properties p.own)) (category q.own ++ values (properties q.own)) (values p.top) (values q.top)
        (Zipped-append Matches (category p.own) (category q.own) (values (properties p.own)) (values (properties q.own)) (category_match p.own q.own m.own)
        (values_match (properties p.own) (properties q.own) (properties_match p.own q.own m.own)))
        (values_match p.top q.top m.top))
        (values_match p.bottom q.bottom m.bottom)

    labels_match : (g h : Forest (Node Pairs)) → AreAlike MatchNodes g h → Zipped MatchNodes (labels g) (labels h)
    labels_match empty empty m = tt
    labels_match empty (tree q others rest) m = absurd m
    labels_match (tree p kids more) empty m = absurd m
    labels_match (tree p kids more) (tree q others rest) m = (m.0, Zipped-append MatchNodes (labels kids) (labels others) (labels more) (labels rest) (labels_match kids others m.1) (labels_match more rest m.2))

    gathered_match : (ps qs : List (Node Pairs)) → Zipped MatchNodes ps qs → Zipped Matches (gathered node_values ps) (gathered node_values qs)
    gathered_match [] [] z = tt
    gathered_match [] (q ∷ qs) z = absurd z
    gathered_match (p ∷ ps) [] z = absurd z
    gathered_match (p ∷ ps) (q ∷ qs) z = Zipped-append Matches (node_values p) (node_values q) (gathered node_values ps) (gathered node_values qs) (node_values_match p q z.0) (gathered_match ps qs z.1)

    literals_match : (ls : List (Literal (Term V))) → ((x : Term V) → IsAmong (gathered literal_terms ls) x → IsMet N t x) →
        Zipped Matches (gathered literal_terms (map (map_literal a.label) ls)) (gathered literal_terms (map (map_literal b.label) ls))
    literals_match [] met = tt
    literals_match (l ∷ ls) met =
        Zipped-append Matches (literal_terms (map_literal a.label l)) (literal_terms (map_literal b.label l)) (gathered literal_terms (map (map_literal a.label) ls)) (gathered literal_terms (map (map_literal b.label) ls))
        (Zipped-map Matches a.label b.label (literal_terms l) (λ x i. (x, met x (IsAmong-append_left (literal_terms l) (gathered literal_terms ls) x i), refl, refl)))
        (literals_match ls (λ x i. met x (IsAmong-append_right (literal_terms l) (gathered literal_terms ls) x i)))

    nodes_matched : AreAlike MatchNodes c.nodes e.nodes
    nodes_matched = forest_matches t.nodes c.nodes e.nodes (λ s i. IsAmong-append_left (gathered node_slots (labels t.nodes)) (t.interface ∷ []) s i) a.nodes b.nodes

    interface_matched : Zipped MatchPairs c.interface e.interface
    interface_matched =
        lists_match t.interface (IsAmong-append_right (gathered node_slots (labels t.nodes)) (t.interface ∷ []) t.interface (inl refl)) c.interface e.interface a.interface b.interface

    walks_matched : Zipped Matches (walked c) (walked e)
    walks_matched =
        Zipped-append Matches (gathered node_values (labels c.nodes) ++ values c.interface) (gathered node_values (labels e.nodes) ++ values e.interface) (gathered literal_terms c.literals) (gathered literal_terms e.literals)
        (Zipped-append Matches (gathered node_values (labels c.nodes)) (gathered node_values (labels e.nodes)) (values c.interface) (values e.interface)
        (gathered_match (labels c.nodes) (labels e.nodes) (labels_match c.nodes e.nodes nodes_matched)) (values_match c.interface e.interface interface_matched))
        (subst (λ ls. Zipped Matches (gathered literal_terms ls) (gathered literal_terms e.literals)) (sym a.literals)
        (subst (λ ls. Zipped Matches (gathered literal_terms (map (map_literal a.label) t.literals)) (gathered literal_terms ls)) (sym b.literals)
        (literals_match t.literals (λ x i. inr i))))

    settled : Settles (walked c)
    settled = settles 0 (walked c) (walked e) (λ k p q. absurd (omega arith)) a.order b.order walks_matched

    -- ---- so the forms are equal

    pairs_equal : (ps qs : Pairs) → ((p : ℕ × Label) → IsAmong ps p → IsAmong (walked c) p.1) → Zipped MatchPairs ps qs → ps ≡ qs
    pairs_equal [] [] there z = refl
    pairs_equal [] (q ∷ qs) there z = absurd z
    pairs_equal (p ∷ ps) [] there z = absurd z
    pairs_equal (p ∷ ps) (q ∷ qs) there z =
        let attribute : p.0 ≡ q.0 = z.0.0 in
        let value : p.1 ≡ q.1 = settled p.1 q.1 (there p (inl refl)) z.0.1 in
        let rest : ps ≡ qs = pairs_equal ps qs (λ r i. there r (inr i)) z.1 in
        λ i. (attribute i, value i) ∷ rest i

    node_equal : (p q : Node Pairs) → IsAmong (labels c.nodes) p → MatchNodes p q → p ≡ q
    node_equal p q among m =
        let walk : (v : Label) → IsAmong (node_values p) v → IsAmong (walked c) v =
        λ v i. IsAmong-append_left (gathered node_values (labels c.nodes) ++ values c.interface) (gathered literal_terms c.literals) v
        (IsAmong-append_left (gathered node_values (labels c.nodes)) (values c.interface) v (IsAmong-gathered node_values (labels c.nodes) p v among i)) in
        let own_values = category p.own ++ values (properties p.own) in
        let own : p.own ≡ q.own = pairs_equal p.own q.own (λ r i. walk r.1 (IsAmong-append_left (own_values ++ values p.top) (values p.bottom) r.1 (IsAmong-append_left own_values (values p.top) r.1 (own_value text p.own r m.order i)))) m.own in
        let top : p.top ≡ q.top = pairs_equal p.top q.top (λ r i. walk r.1 (IsAmong-append_left (own_values ++ values p.top) (values p.bottom) r.1 (IsAmong-append_right own_values (values p.top) r.1 (IsAmong-map (λ (z : ℕ × Label). z.1) p.top r i)))) m.top in
        let bottom : p.bottom ≡ q.bottom = pairs_equal p.bottom q.bottom (λ r i. walk r.1 (IsAmong-append_right (own_values ++ values p.top) (values p.bottom) r.1 (IsAmong-map (λ (z : ℕ × Label). z.1) p.bottom r i))) m.bottom in
        λ i. record { own = own i; top = top i; bottom = bottom i }

    forest_equal : (g h : Forest (Node Pairs)) → ((p : Node Pairs) → IsAmong (labels g) p → IsAmong (labels c.nodes) p) → AreAlike MatchNodes g h → g ≡ h
    forest_equal empty empty among m = refl
    forest_equal empty (tree q others rest) among m = absurd m
    forest_equal (tree p kids more) empty among m = absurd m
    forest_equal (tree p kids more) (tree q others rest) among m =
        let root : p ≡ q = node_equal p q (among p (inl refl)) m.0 in
        let inside : kids ≡ others = forest_equal kids others (λ r i. among r (inr (IsAmong-append_left (labels kids) (labels more) r i))) m.1 in
        let right : more ≡ rest = forest_equal more rest (λ r i. among r (inr (IsAmong-append_right (labels kids) (labels more) r i))) m.2 in
        λ i. tree (root i) (inside i) (right i)

    terms_equal : (xs : List (Term V)) → ((x : Term V) → IsAmong xs x → a.label x ≡ b.label x) → map a.label xs ≡ map b.label xs
    terms_equal [] each = refl
    terms_equal (x ∷ xs) each = ap₂ (λ v vs. v ∷ vs) (each x (inl refl)) (terms_equal xs (λ y i. each y (inr i)))

    literals_equal : (ls : List (Literal (Term V))) → ((x : Term V) → IsAmong (gathered literal_terms ls) x → a.label x ≡ b.label x) → map (map_literal a.label) ls ≡ map (map_literal b.label) ls
    literals_equal [] each = refl
    literals_equal (l ∷ ls) each =
        let here : (x : Term V) → IsAmong (literal_terms l) x → a.label x ≡ b.label x = λ x i. each x (IsAmong-append_left (literal_terms l) (gathered literal_terms ls) x i) in
        let handle : a.label l.handle ≡ b.label l.handle = here l.handle (inl refl) in
        let pred : a.label l.pred ≡ b.label l.pred = here l.pred (inr (inl refl)) in
        let args : map a.label l.args ≡ map b.label l.args = terms_equal l.args (λ x i. here x (inr (inr i))) in
        let rest : map (map_literal a.label) ls ≡ map (map_literal b.label) ls = literals_equal ls (λ x i. each x (IsAmong-append_right (literal_terms l) (gathered literal_terms ls) x i)) in
        λ i. record { handle = handle i; pred = pred i; args = args i } ∷ rest i

    literal_label : (ls : List (Literal (Term V))) (x : Term V) → IsAmong (gathered literal_terms ls) x → IsAmong (gathered literal_terms (map (map_literal a.label) ls)) (a.label x)
    literal_label [] x i = absurd i
    literal_label (l ∷ ls) x i = elim (IsAmong-append (literal_terms l) (gathered literal_terms ls) x i) [
      | inl j ↦ IsAmong-append_left (literal_terms (map_literal a.label l)) (gathered literal_terms (map (map_literal a.label) ls)) (a.label x) (IsAmong-map a.label (literal_terms l) x j)
      | inr j ↦ IsAmong-append_right (literal_terms (map_literal a.label l)) (gathered literal_terms (map (map_literal a.label) ls)) (a.label x) (literal_label ls x j)
    ]

    pub one_form : c ≡ e
    one_form =
        let nodes : c.nodes ≡ e.nodes = forest_equal c.nodes e.nodes (λ p i. i) nodes_matched in
        let interface : c.interface ≡ e.interface =
        pairs_equal c.interface e.interface
        (λ p i. IsAmong-append_left (gathered node_values (labels c.nodes) ++ values c.interface) (gathered literal_terms c.literals) p.1
        (IsAmong-append_right (gathered node_values (labels c.nodes)) (values c.interface) p.1 (IsAmong-map (λ (z : ℕ × Label). z.1) c.interface p i)))
        interface_matched in
        let labels_same : (x : Term V) → IsAmong (gathered literal_terms t.literals) x → a.label x ≡ b.label x =
        λ x i. settled (a.label x) (b.label x)
        (IsAmong-append_right (gathered node_values (labels c.nodes) ++ values c.interface) (gathered literal_terms c.literals) (a.label x)
        (subst (λ ls. IsAmong (gathered literal_terms ls) (a.label x)) (sym a.literals) (literal_label t.literals x i)))
        (x, inr i, refl, refl) in
        let literals : c.literals ≡ e.literals = a.literals ∙ literals_equal t.literals labels_same ∙ sym b.literals in
        λ i. record { nodes = nodes i; interface = interface i; literals = literals i }
