-- The text of a form tells the form: node by node, tree by tree, literal by literal.
use Rattle.std.specs.Prelude.{◌≡◌, ℕ, Bool, true, false, ◌||◌, ◌==◌, List, [], ◌∷◌, ◌++◌, map, codes, ◌⊎◌, ⊤, if◌then◌else◌, refl}
use Rattle.std.specs.List.{join_with_byte}
use Rattle.std.proofs.Common.{inl, inr, ap, sym, ◌∙◌, subst, arith, append_assoc}
use Rattle.std.proofs.lemmas.Bool.{false≢true, or_cases}
use Rattle.std.proofs.lemmas.Bool.Decides.{Decides-eqb}
use Rattle.gr_base.specs.Lists.{IsAmong, IsWithin, Each, InByteOrder}
use Rattle.gr_base.specs.Forests.{Forest, empty, tree, labels}
use Rattle.gr_base.proofs.ListLemmas.{Each-at, Each-left, Each-members, Each-right, same_head, same_tail}
use Rattle.gr_base.proofs.OrderedPairs.{InByteOrder-unique_by}
use Rattle.gr_terms.specs.Canonical.{Label, Node, Pairs, category, properties}
use Rattle.gr_terms.specs.Constants.{CAT}
use Rattle.td_canon.specs.TreeText.{category_text, enclosed, label_text, node_text, pair_texts, tree_texts}
use Rattle.td_canon.proofs.SpellingLemmas.{CanSpell, CanSpellPair, Stops, begins, begins_value, cancel_front, enclosed_apart, is_letter, label_apart}
use Rattle.td_canon.proofs.UniqueForms.{attribute_text, category_found, one_pair, property_found}

-- ---- category and properties tell the pairs

category_from : (ps : Pairs) (v : Label) → category ps ≡ v ∷ [] → IsAmong ps (CAT, v)
category_from [] v e = absurd cc
category_from (p ∷ ps) v e = by (p.0 == CAT) refl e (category_from ps v)
  where
    by : (b : Bool) → (p.0 == CAT) ≡ b → (if b then (p.1 ∷ []) else category ps) ≡ v ∷ [] → (category ps ≡ v ∷ [] → IsAmong ps (CAT, v)) → IsAmong (p ∷ ps) (CAT, v)
    by true f h later =
        let attribute : CAT ≡ p.0 = sym ((Decides-eqb p.0 CAT).0 f) in
        let value : v ≡ p.1 = sym (same_head p.1 v [] [] h) in
        inl (λ i. (attribute i, value i))
    by false f h later = inr (later h)

properties_from : (ps : Pairs) (p : ℕ × Label) → IsAmong (properties ps) p → IsAmong ps p
properties_from [] p i = i
properties_from (q ∷ ps) p i = by (q.0 == CAT) i (properties_from ps p)
  where
    by : (b : Bool) → IsAmong (if b then properties ps else (q ∷ properties ps)) p → (IsAmong (properties ps) p → IsAmong ps p) → IsAmong (q ∷ ps) p
    by true j later = inr (later j)
    by false (inl h) later = inl h
    by false (inr j) later = inr (later j)

-- there is no category, or one
category_cases : (ps : Pairs) → (category ps ≡ []) ⊎ ((p : ℕ × Label) × IsAmong ps p × (category ps ≡ p.1 ∷ []))
category_cases [] = inl refl
category_cases (p ∷ ps) = by (p.0 == CAT) (category_cases ps)
  where
    by : (b : Bool) → (category ps ≡ []) ⊎ ((q : ℕ × Label) × IsAmong ps q × (category ps ≡ q.1 ∷ [])) →
        ((if b then (p.1 ∷ []) else category ps) ≡ []) ⊎ ((q : ℕ × Label) × IsAmong (p ∷ ps) q × ((if b then (p.1 ∷ []) else category ps) ≡ q.1 ∷ []))
    by true later = inr (p, inl refl, refl)
    by false (inl h) = inl h
    by false (inr (q, i, h)) = inr (q, inr i, h)

module _ (text : ℕ → List ℕ) where
  own_within : (ps qs : Pairs) → InByteOrder (map (attribute_text text) ps) → category ps ≡ category qs → properties ps ≡ properties qs → IsWithin ps qs
  own_within ps qs order c p r i = by (r.0 == CAT) refl
    where
      by : (b : Bool) → (r.0 == CAT) ≡ b → IsAmong qs r
      by true e =
          let is : r.0 ≡ CAT = (Decides-eqb r.0 CAT).0 e in
          let found = category_found text ps r i is in
          let same : r ≡ found.0 = one_pair text ps r found.0 order i found.1 (is ∙ sym found.2) in
          let value : found.0.1 ≡ r.1 = ap (λ (z : ℕ × Label). z.1) (sym same) in
          subst (λ (z : ℕ × Label). IsAmong qs z) (λ k. (sym is k, r.1)) (category_from qs r.1 (sym c ∙ found.3 ∙ ap (λ v. v ∷ []) value))
      by false e = properties_from qs r (subst (λ zs. IsAmong zs r) p (property_found text ps r i (λ is. false≢true (sym e ∙ (Decides-eqb r.0 CAT).1 is))))

  own_equal : (ps qs : Pairs) → InByteOrder (map (attribute_text text) ps) → InByteOrder (map (attribute_text text) qs) → category ps ≡ category qs → properties ps ≡ properties qs → ps ≡ qs
  own_equal ps qs a b c p = InByteOrder-unique_by (attribute_text text) ps qs a b (own_within ps qs a c p) (own_within qs ps b (sym c) (sym p))

-- ---- what may follow a node

-- `(`, a space or `)`, or nothing
abbrev pub is_node_end : ℕ → Bool
is_node_end b = (b == 40) || (b == 32) || (b == 41)

abbrev pub Ends : List ℕ → Type 0
Ends [] = ⊤
Ends (b ∷ bs) = is_node_end b ≡ true

-- a space or `)`, or nothing
abbrev pub EndsTree : List ℕ → Type 0
EndsTree [] = ⊤
EndsTree (b ∷ bs) = ((b == 32) || (b == 41)) ≡ true

ends_stop : (p : ℕ → Bool) (r : List ℕ) → p 40 ≡ false → p 32 ≡ false → p 41 ≡ false → Ends r → Stops p r
ends_stop p [] a b c e = tt
ends_stop p (x ∷ r) a b c e = elim (or_cases ((x == 40) || (x == 32)) (x == 41) e) [
  | inl h ↦ elim (or_cases (x == 40) (x == 32) h) [
    | inl k ↦ ap p ((Decides-eqb x 40).0 k) ∙ a
    | inr k ↦ ap p ((Decides-eqb x 32).0 k) ∙ b
  ]
  | inr h ↦ ap p ((Decides-eqb x 41).0 h) ∙ c
]

tree_stop : (p : ℕ → Bool) (r : List ℕ) → p 32 ≡ false → p 41 ≡ false → EndsTree r → Stops p r
tree_stop p [] b c e = tt
tree_stop p (x ∷ r) b c e = elim (or_cases (x == 32) (x == 41) e) [
  | inl k ↦ ap p ((Decides-eqb x 32).0 k) ∙ b
  | inr k ↦ ap p ((Decides-eqb x 41).0 k) ∙ c
]

tree_ends : (r : List ℕ) → EndsTree r → Ends r
tree_ends [] e = tt
tree_ends (x ∷ r) e = by (x == 40) (x == 32) (x == 41) e
  where
    by : (a b c : Bool) → (b || c) ≡ true → (a || b || c) ≡ true
    by true b c h = refl
    by false b c h = h

enclosed_stops : (p : ℕ → Bool) (b : ℕ) (before after : List ℕ) (between : ℕ) (xs : List (List ℕ)) (r : List ℕ) → p b ≡ false → Stops p r → Stops p (enclosed (b ∷ before) between after xs ++ r)
enclosed_stops p b before after between [] r h k = k
enclosed_stops p b before after between (x ∷ xs) r h k = h

module _ (text : ℕ → List ℕ) (Good : ℕ → Type 0) (apart : (a b : ℕ) → Good a → Good b → text a ≡ text b → a ≡ b) where
  -- a node whose names can be spelled, its own pairs in byte order
  pub record CanSpellNode (n : Node Pairs) : Type 0 where
    pub own : Each (CanSpellPair text Good apart) n.own
    pub top : Each (CanSpellPair text Good apart) n.top
    pub bottom : Each (CanSpellPair text Good apart) n.bottom
    pub order : InByteOrder (map (attribute_text text) n.own)

  dash_apart : (v : Label) (r s : List ℕ) → CanSpell text Good apart v → label_text text v ++ r ≡ 45 ∷ s → ⊥
  dash_apart v r s h e =
      let b = begins text Good apart v h in
      let same : b.first ≡ 45 = same_head b.first 45 (b.others ++ r) s (sym (ap (λ t. t ++ r) b.is) ∙ e) in
      false≢true (ap begins_value (sym same) ∙ b.begins)

  category_apart : (ps qs : Pairs) (r s : List ℕ) → Each (CanSpellPair text Good apart) ps → Each (CanSpellPair text Good apart) qs → Stops is_letter r → Stops is_letter s →
      category_text text (category ps) ++ r ≡ category_text text (category qs) ++ s → (category ps ≡ category qs) × (r ≡ s)
  category_apart ps qs r s h k u v e = by (category_cases ps) (category_cases qs)
    where
      value_there : (zs : Pairs) (p : ℕ × Label) → Each (CanSpellPair text Good apart) zs → IsAmong zs p → CanSpell text Good apart p.1
      value_there zs p each i = (Each-at (CanSpellPair text Good apart) zs p each i).2

      by : (category ps ≡ []) ⊎ ((p : ℕ × Label) × IsAmong ps p × (category ps ≡ p.1 ∷ [])) → (category qs ≡ []) ⊎ ((q : ℕ × Label) × IsAmong qs q × (category qs ≡ q.1 ∷ [])) → (category ps ≡ category qs) × (r ≡ s)
      by (inl a) (inl b) =
          (a ∙ sym b, same_tail 45 45 r s (sym (ap (λ vs. category_text text vs ++ r) a) ∙ e ∙ ap (λ vs. category_text text vs ++ s) b))
      by (inl a) (inr (q, j, b)) =
          absurd (dash_apart q.1 s r (value_there qs q k j) (sym (ap (λ vs. category_text text vs ++ s) b) ∙ sym e ∙ ap (λ vs. category_text text vs ++ r) a))
      by (inr (p, i, a)) (inl b) =
          absurd (dash_apart p.1 r s (value_there ps p h i) (sym (ap (λ vs. category_text text vs ++ r) a) ∙ e ∙ ap (λ vs. category_text text vs ++ s) b))
      by (inr (p, i, a)) (inr (q, j, b)) =
          let one = label_apart text Good apart p.1 q.1 r s (value_there ps p h i) (value_there qs q k j) u v (sym (ap (λ vs. category_text text vs ++ r) a) ∙ e ∙ ap (λ vs. category_text text vs ++ s) b) in
          (a ∙ ap (λ z. z ∷ []) one.0 ∙ sym b, one.1)

  -- ---- a node

  abbrev pub braces : Node Pairs → List ℕ
  braces n = enclosed (codes "{") 44 (codes "}") (pair_texts text (properties n.own))

  abbrev pub tops : Node Pairs → List ℕ
  tops n = enclosed (codes "^[") 44 (codes "]") (pair_texts text n.top)

  abbrev pub bottoms : Node Pairs → List ℕ
  bottoms n = enclosed (codes "/[") 44 (codes "]") (pair_texts text n.bottom)

  node_regroup : (n : Node Pairs) (r : List ℕ) → node_text text n ++ r ≡ category_text text (category n.own) ++ (braces n ++ (tops n ++ (bottoms n ++ r)))
  node_regroup n r =
      append_assoc ((category_text text (category n.own) ++ braces n) ++ tops n) (bottoms n) r
      ∙ append_assoc (category_text text (category n.own) ++ braces n) (tops n) (bottoms n ++ r)
      ∙ append_assoc (category_text text (category n.own)) (braces n) (tops n ++ (bottoms n ++ r))

  pub node_apart : (n m : Node Pairs) (r s : List ℕ) → CanSpellNode n → CanSpellNode m → Ends r → Ends s → node_text text n ++ r ≡ node_text text m ++ s → (n ≡ m) × (r ≡ s)
  node_apart n m r s h k u v e =
      let whole = sym (node_regroup n r) ∙ e ∙ node_regroup m s in
      let stops_bottom : (p : ℕ → Bool) (z : Node Pairs) (t : List ℕ) → p 47 ≡ false → p 40 ≡ false → p 32 ≡ false → p 41 ≡ false → Ends t → Stops p (bottoms z ++ t) =
      λ (p : ℕ → Bool) (z : Node Pairs) (t : List ℕ) a b c d w. enclosed_stops p 47 (91 ∷ []) (codes "]") 44 (pair_texts text z.bottom) t a (ends_stop p t b c d w) in
      let stops_top : (p : ℕ → Bool) (z : Node Pairs) (t : List ℕ) → p 94 ≡ false → p 47 ≡ false → p 40 ≡ false → p 32 ≡ false → p 41 ≡ false → Ends t → Stops p (tops z ++ (bottoms z ++ t)) =
      λ (p : ℕ → Bool) (z : Node Pairs) (t : List ℕ) f a b c d w. enclosed_stops p 94 (91 ∷ []) (codes "]") 44 (pair_texts text z.top) (bottoms z ++ t) f (stops_bottom p z t a b c d w) in
      let first = category_apart n.own m.own (braces n ++ (tops n ++ (bottoms n ++ r))) (braces m ++ (tops m ++ (bottoms m ++ s))) h.own k.own
      (enclosed_stops is_letter 123 [] (codes "}") 44 (pair_texts text (properties n.own)) (tops n ++ (bottoms n ++ r)) refl (stops_top is_letter n r refl refl refl refl refl u))
      (enclosed_stops is_letter 123 [] (codes "}") 44 (pair_texts text (properties m.own)) (tops m ++ (bottoms m ++ s)) refl (stops_top is_letter m s refl refl refl refl refl v)) whole in
      let second = enclosed_apart text Good apart 125 refl (λ f. absurd (omega (arith, f))) 123 [] (properties n.own) (properties m.own) (tops n ++ (bottoms n ++ r)) (tops m ++ (bottoms m ++ s))
      (Each-members (CanSpellPair text Good apart) (properties n.own) (λ p i. Each-at (CanSpellPair text Good apart) n.own p h.own (properties_from n.own p i)))
      (Each-members (CanSpellPair text Good apart) (properties m.own) (λ p i. Each-at (CanSpellPair text Good apart) m.own p k.own (properties_from m.own p i)))
      (stops_top (λ c. c == 123) n r refl refl refl refl refl u) (stops_top (λ c. c == 123) m s refl refl refl refl refl v) first.1 in
      let third = enclosed_apart text Good apart 93 refl (λ f. absurd (omega (arith, f))) 94 (91 ∷ []) n.top m.top (bottoms n ++ r) (bottoms m ++ s) h.top k.top
      (stops_bottom (λ c. c == 94) n r refl refl refl refl u) (stops_bottom (λ c. c == 94) m s refl refl refl refl v) second.1 in
      let fourth = enclosed_apart text Good apart 93 refl (λ f. absurd (omega (arith, f))) 47 (91 ∷ []) n.bottom m.bottom r s h.bottom k.bottom
      (ends_stop (λ c. c == 47) r refl refl refl u) (ends_stop (λ c. c == 47) s refl refl refl v) third.1 in
      let own : n.own ≡ m.own = own_equal text n.own m.own h.order k.order first.0 second.0 in
      (λ i. record { own = own i; top = third.0 i; bottom = fourth.0 i }, fourth.1)

  -- ---- trees

  abbrev pub kids_text : Forest (Node Pairs) → List ℕ
  kids_text f = enclosed (codes "(") 32 (codes ")") (tree_texts text f)

  abbrev pub IsSome : Forest (Node Pairs) → Type 0
  IsSome empty = ⊥
  IsSome (tree n kids more) = ⊤

  -- trees with spaces between them, in front of `)`
  abbrev pub RowsApart : Forest (Node Pairs) → Forest (Node Pairs) → Type 0
  RowsApart f g = (r s : List ℕ) → join_with_byte 32 (tree_texts text f) ++ 41 ∷ r ≡ join_with_byte 32 (tree_texts text g) ++ 41 ∷ s → (f ≡ g) × (r ≡ s)

  kids_apart : (f g : Forest (Node Pairs)) (r s : List ℕ) → (IsSome f → IsSome g → RowsApart f g) → Stops (λ c. c == 40) r → Stops (λ c. c == 40) s → kids_text f ++ r ≡ kids_text g ++ s → (f ≡ g) × (r ≡ s)
  kids_apart empty empty r s rows u v e = (refl, e)
  kids_apart empty (tree m others rest) r s rows u v e = absurd (false≢true (sym (subst (Stops (λ c. c == 40)) e u)))
  kids_apart (tree n kids more) empty r s rows u v e = absurd (false≢true (sym (subst (Stops (λ c. c == 40)) (sym e) v)))
  kids_apart (tree n kids more) (tree m others rest) r s rows u v e =
      rows tt tt r s (cancel_front (40 ∷ []) _ _ (sym (regroup (join_with_byte 32 (tree_texts text (tree n kids more))) r) ∙ e ∙ regroup (join_with_byte 32 (tree_texts text (tree m others rest))) s))
    where
      regroup : (xs t : List ℕ) → ((40 ∷ xs) ++ 41 ∷ []) ++ t ≡ 40 ∷ (xs ++ 41 ∷ t)
      regroup xs t = append_assoc (40 ∷ xs) (41 ∷ []) t

  kids_end : (f : Forest (Node Pairs)) (r : List ℕ) → EndsTree r → Ends (kids_text f ++ r)
  kids_end empty r e = tree_ends r e
  kids_end (tree n kids more) r e = refl

  pub tree_apart : (n m : Node Pairs) (f g : Forest (Node Pairs)) (r s : List ℕ) → CanSpellNode n → CanSpellNode m → (IsSome f → IsSome g → RowsApart f g) → EndsTree r → EndsTree s →
      (node_text text n ++ kids_text f) ++ r ≡ (node_text text m ++ kids_text g) ++ s → (n ≡ m) × (f ≡ g) × (r ≡ s)
  tree_apart n m f g r s h k rows u v e =
      let one = node_apart n m (kids_text f ++ r) (kids_text g ++ s) h k (kids_end f r u) (kids_end g s v) (sym (append_assoc (node_text text n) (kids_text f) r) ∙ e ∙ append_assoc (node_text text m) (kids_text g) s) in
      let two = kids_apart f g r s rows (tree_stop (λ c. c == 40) r refl refl u) (tree_stop (λ c. c == 40) s refl refl v) one.1 in
      (one.0, two.0, two.1)

  pub rows_apart : (f g : Forest (Node Pairs)) → Each CanSpellNode (labels f) → Each CanSpellNode (labels g) → IsSome f → IsSome g → RowsApart f g
  rows_apart empty g h k a b = absurd a
  rows_apart (tree n kids more) empty h k a b = absurd b
  rows_apart (tree n kids empty) (tree m others empty) h k a b = λ r s e.
      let one = tree_apart n m kids others (41 ∷ r) (41 ∷ s) h.0 k.0
      (rows_apart kids others (Each-left CanSpellNode (labels kids) [] h.1) (Each-left CanSpellNode (labels others) [] k.1)) refl refl e in
      (λ i. tree (one.0 i) (one.1 i) empty, same_tail 41 41 r s one.2)
  rows_apart (tree n kids empty) (tree m others (tree q under rest)) h k a b = λ r s e.
      let behind = join_with_byte 32 (tree_texts text (tree q under rest)) in
      let one = tree_apart n m kids others (41 ∷ r) (32 ∷ (behind ++ 41 ∷ s)) h.0 k.0
      (rows_apart kids others (Each-left CanSpellNode (labels kids) [] h.1) (Each-left CanSpellNode (labels others) (labels (tree q under rest)) k.1)) refl refl
      (e ∙ append_assoc (node_text text m ++ kids_text others) (32 ∷ behind) (41 ∷ s)) in
      absurd (let f : 41 ≡ 32 = same_head 41 32 r (behind ++ 41 ∷ s) one.2 in omega (arith, f))
  rows_apart (tree n kids (tree p over more)) (tree m others empty) h k a b = λ r s e.
      let behind = join_with_byte 32 (tree_texts text (tree p over more)) in
      let one = tree_apart n m kids others (32 ∷ (behind ++ 41 ∷ r)) (41 ∷ s) h.0 k.0
      (rows_apart kids others (Each-left CanSpellNode (labels kids) (labels (tree p over more)) h.1) (Each-left CanSpellNode (labels others) [] k.1)) refl refl
      (sym (append_assoc (node_text text n ++ kids_text kids) (32 ∷ behind) (41 ∷ r)) ∙ e) in
      absurd (let f : 32 ≡ 41 = same_head 32 41 (behind ++ 41 ∷ r) s one.2 in omega (arith, f))
  rows_apart (tree n kids (tree p over more)) (tree m others (tree q under rest)) h k a b = λ r s e.
      let left = join_with_byte 32 (tree_texts text (tree p over more)) in
      let right = join_with_byte 32 (tree_texts text (tree q under rest)) in
      let one = tree_apart n m kids others (32 ∷ (left ++ 41 ∷ r)) (32 ∷ (right ++ 41 ∷ s)) h.0 k.0
      (rows_apart kids others (Each-left CanSpellNode (labels kids) (labels (tree p over more)) h.1) (Each-left CanSpellNode (labels others) (labels (tree q under rest)) k.1)) refl refl
      (sym (append_assoc (node_text text n ++ kids_text kids) (32 ∷ left) (41 ∷ r)) ∙ e ∙ append_assoc (node_text text m ++ kids_text others) (32 ∷ right) (41 ∷ s)) in
      let two = rows_apart (tree p over more) (tree q under rest)
      (Each-right CanSpellNode (labels kids) (labels (tree p over more)) h.1) (Each-right CanSpellNode (labels others) (labels (tree q under rest)) k.1) tt tt r s
      (same_tail 32 32 (left ++ 41 ∷ r) (right ++ 41 ∷ s) one.2) in
      (λ i. tree (one.0 i) (one.1 i) (two.0 i), two.1)
