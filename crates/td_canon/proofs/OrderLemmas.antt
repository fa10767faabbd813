-- Pairs in byte order of their attributes' texts: one list, whatever order they come in.
use Rattle.std.specs.Prelude.{◌≡◌, ℕ, ◌<◌, Bool, true, false, nat_lt, ◌==◌, ◌||◌, ◌&&◌, List, [], ◌∷◌, map, length, ◌⊎◌, if◌then◌else◌, refl}
use Rattle.std.proofs.Common.{inl, inr, ap, ap₂, sym, ◌∙◌, subst, arith}
use Rattle.std.proofs.lemmas.Bool.{false≢true, and_parts, or_cases}
use Rattle.std.proofs.lemmas.Bool.Decides.{Decides-eqb, Decides-ltb}
use Rattle.std.proofs.lemmas.Option.{slice_get-get_or}
use Rattle.gr_base.specs.Lists.{IsAmong, IsWithin, Each, IsBefore, InByteOrder, IsRising, NoneTwice}
use Rattle.gr_base.proofs.Counting.{IsBefore-trans}
use Rattle.gr_base.proofs.ListLemmas.{Each-at, Each-members, IsAmong-map, IsAmong-map_from}
use Rattle.gr_base.proofs.OrderedPairs.{InByteOrder-unique_by, IsBefore-total}
use Rattle.gr_symbols.specs.Numbers.{Names}
use Rattle.gr_symbols.proofs.NumberLemmas.{one_number}
use Rattle.gr_terms.specs.Networks.{Term}
use Rattle.td_tree.specs.TreeViews.{Pairs}
use Rattle.td_canon.specs.CanonicalTexts.{text_in}
use Rattle.td_canon.specs.Writing.{TextPairs, by_text, in_order, is_before, put_in_order}

-- ---- the test decides the order of texts

pub is_before-IsBefore : (xs ys : List ℕ) → is_before xs ys ≡ true → IsBefore xs ys
is_before-IsBefore xs [] h = absurd (false≢true h)
is_before-IsBefore [] (y ∷ ys) h = tt
is_before-IsBefore (x ∷ xs) (y ∷ ys) h = elim (or_cases (nat_lt x y) ((x == y) && is_before xs ys) h) [
  | inl less ↦ inl ((Decides-ltb x y).0 less)
  | inr more ↦ let both = and_parts (x == y) (is_before xs ys) more in inr ((Decides-eqb x y).0 both.0, is_before-IsBefore xs ys both.1)
]

pub IsBefore-is_before : (xs ys : List ℕ) → IsBefore xs ys → is_before xs ys ≡ true
IsBefore-is_before xs [] h = absurd h
IsBefore-is_before [] (y ∷ ys) h = refl
IsBefore-is_before (x ∷ xs) (y ∷ ys) (inl h) = ap (λ b. b || ((x == y) && is_before xs ys)) ((Decides-ltb x y).1 h)
IsBefore-is_before (x ∷ xs) (y ∷ ys) (inr h) =
    ap₂ (λ b c. nat_lt x y || (b && c)) ((Decides-eqb x y).1 h.0) (IsBefore-is_before xs ys h.1) ∙ last (nat_lt x y)
  where
    last : (b : Bool) → (b || (true && true)) ≡ true
    last true = refl
    last false = refl

-- ---- what is put in order is the same pairs

module _ (text : ℕ → List ℕ) where
  IsAmong-put : (p : ℕ × Term ℕ) (qs : Pairs) (x : ℕ × Term ℕ) → IsAmong (put_in_order text p qs) x → (x ≡ p) ⊎ IsAmong qs x
  IsAmong-put p [] x i = i
  IsAmong-put p (q ∷ qs) x i = by (is_before (text p.0) (text q.0)) i (IsAmong-put p qs x)
    where
      by : (b : Bool) → IsAmong (if b then (p ∷ q ∷ qs) else (q ∷ put_in_order text p qs)) x → (IsAmong (put_in_order text p qs) x → (x ≡ p) ⊎ IsAmong qs x) → (x ≡ p) ⊎ IsAmong (q ∷ qs) x
      by true j later = j
      by false (inl e) later = inr (inl e)
      by false (inr j) later = elim (later j) [ inl e ↦ inl e | inr k ↦ inr (inr k) ]

  put-IsAmong : (p : ℕ × Term ℕ) (qs : Pairs) (x : ℕ × Term ℕ) → (x ≡ p) ⊎ IsAmong qs x → IsAmong (put_in_order text p qs) x
  put-IsAmong p [] x i = i
  put-IsAmong p (q ∷ qs) x i = by (is_before (text p.0) (text q.0)) i (put-IsAmong p qs x)
    where
      by : (b : Bool) → (x ≡ p) ⊎ IsAmong (q ∷ qs) x → ((x ≡ p) ⊎ IsAmong qs x → IsAmong (put_in_order text p qs) x) → IsAmong (if b then (p ∷ q ∷ qs) else (q ∷ put_in_order text p qs)) x
      by true j later = j
      by false (inl e) later = inr (later (inl e))
      by false (inr (inl e)) later = inl e
      by false (inr (inr j)) later = inr (later (inr j))

  pub in_order-within : (ps : Pairs) → IsWithin (in_order text ps) ps
  in_order-within [] x i = i
  in_order-within (p ∷ ps) x i = elim (IsAmong-put p (in_order text ps) x i) [ inl e ↦ inl e | inr j ↦ inr (in_order-within ps x j) ]

  pub within-in_order : (ps : Pairs) → IsWithin ps (in_order text ps)
  within-in_order [] x i = i
  within-in_order (p ∷ ps) x (inl e) = put-IsAmong p (in_order text ps) x (inl e)
  within-in_order (p ∷ ps) x (inr i) = put-IsAmong p (in_order text ps) x (inr (within-in_order ps x i))

  -- ---- and is in order where no attribute stands twice

  abbrev pub key : ℕ × Term ℕ → List ℕ
  key p = text p.0

  InByteOrder-put : (p : ℕ × Term ℕ) (qs : Pairs) → InByteOrder (map key qs) → (IsAmong (map key qs) (key p) → ⊥) → InByteOrder (map key (put_in_order text p qs))
  InByteOrder-put p [] order new = (tt, tt)
  InByteOrder-put p (q ∷ qs) order new = by (is_before (key p) (key q)) refl (InByteOrder-put p qs)
    where
      by : (b : Bool) → is_before (key p) (key q) ≡ b → (InByteOrder (map key qs) → (IsAmong (map key qs) (key p) → ⊥) → InByteOrder (map key (put_in_order text p qs))) →
          InByteOrder (map key (if b then (p ∷ q ∷ qs) else (q ∷ put_in_order text p qs)))
      by true h later =
          let first : IsBefore (key p) (key q) = is_before-IsBefore (key p) (key q) h in (
            (first, Each-members (IsBefore (key p)) (map key qs) (λ k i. IsBefore-trans (key p) (key q) k first (Each-at (IsBefore (key q)) (map key qs) k order.0 i))),
            order,
          )
      by false h later =
          let first : IsBefore (key q) (key p) = elim (IsBefore-total (key p) (key q)) [
            | inl l ↦ absurd (false≢true (sym h ∙ IsBefore-is_before (key p) (key q) l))
            | inr (inl e) ↦ absurd (new (inl e))
            | inr (inr r) ↦ r
          ]
          in (
            Each-members (IsBefore (key q)) (map key (put_in_order text p qs)) (λ k i.
                let x = IsAmong-map_from key (put_in_order text p qs) k i in
                elim (IsAmong-put p qs x.0 x.1) [
                  | inl e ↦ subst (λ z. IsBefore (key q) z) (sym (x.2 ∙ ap key e)) first
                  | inr j ↦ Each-at (IsBefore (key q)) (map key qs) k order.0 (subst (λ z. IsAmong (map key qs) z) (sym x.2) (IsAmong-map key qs x.0 j))
                ]),
            later order.1 (λ i. new (inr i)),
          )

  pub in_order-order : (ps : Pairs) → NoneTwice (map key ps) → InByteOrder (map key (in_order text ps))
  in_order-order [] once = tt
  in_order-order (p ∷ ps) once =
      InByteOrder-put p (in_order text ps) (in_order-order ps once.1)
      (λ i.
      let x = IsAmong-map_from key (in_order text ps) (key p) i in
      once.0 (subst (λ z. IsAmong (map key ps) z) (sym x.2) (IsAmong-map key ps x.0 (in_order-within ps x.0 x.1))))

  -- any list of the same pairs in byte order is that one
  keys-by_text : (ps : Pairs) → map (λ (p : List ℕ × Term ℕ). p.0) (by_text text ps) ≡ map key ps
  keys-by_text [] = refl
  keys-by_text (p ∷ ps) = ap (λ ks. key p ∷ ks) (keys-by_text ps)

  by_text-within : (ps qs : Pairs) → IsWithin ps qs → IsWithin (by_text text ps) (by_text text qs)
  by_text-within ps qs within x i =
      let r = IsAmong-map_from (λ (p : ℕ × Term ℕ). (text p.0, p.1)) ps x i in
      subst (λ z. IsAmong (by_text text qs) z) (sym r.2) (IsAmong-map (λ (p : ℕ × Term ℕ). (text p.0, p.1)) qs r.0 (within r.0 r.1))

  pub in_order-unique : (ps : Pairs) (qs : TextPairs) → NoneTwice (map key ps) → InByteOrder (map (λ (p : List ℕ × Term ℕ). p.0) qs) → IsWithin qs (by_text text ps) → IsWithin (by_text text ps) qs →
      qs ≡ by_text text (in_order text ps)
  in_order-unique ps qs once order there back =
      InByteOrder-unique_by (λ (p : List ℕ × Term ℕ). p.0) qs (by_text text (in_order text ps)) order
      (subst (λ ks. InByteOrder ks) (sym (keys-by_text (in_order text ps))) (in_order-order ps once))
      (λ x i. by_text-within ps (in_order text ps) (within-in_order ps) x (there x i))
      (λ x i. back x (by_text-within (in_order text ps) ps (in_order-within ps) x i))

  -- two lists of numbered pairs that are in order and have the same members are one
  pub same_order : (ps qs : Pairs) → InByteOrder (map key ps) → InByteOrder (map key qs) → IsWithin ps qs → IsWithin qs ps → ps ≡ qs
  same_order ps qs a b there back = InByteOrder-unique_by key ps qs a b there back

-- ---- no attribute of a bag stands twice, by its text

pub text_named : (texts : List (List ℕ)) (n : ℕ) → n < length texts → Names texts n (text_in texts n)
text_named texts n within = slice_get-get_or texts n [] within

pub texts_apart : (texts : List (List ℕ)) (m n : ℕ) → NoneTwice texts → m < length texts → n < length texts → text_in texts m ≡ text_in texts n → m ≡ n
texts_apart texts m n once a b e = one_number texts m n (text_in texts n) once (subst (λ t. Names texts m t) e (text_named texts m a)) (text_named texts n b)

pub NoneTwice-texts : (texts : List (List ℕ)) (ps : Pairs) → NoneTwice texts → IsRising (map (λ (p : ℕ × Term ℕ). p.0) ps) → Each (λ (p : ℕ × Term ℕ). p.0 < length texts) ps →
    NoneTwice (map (λ (p : ℕ × Term ℕ). text_in texts p.0) ps)
NoneTwice-texts texts [] once rises named = tt
NoneTwice-texts texts (p ∷ ps) once rises named = (
  λ i.
      let r = IsAmong-map_from (λ (q : ℕ × Term ℕ). text_in texts q.0) ps (text_in texts p.0) i in
      let same : p.0 ≡ r.0.0 = texts_apart texts p.0 r.0.0 once named.0 (Each-at (λ (q : ℕ × Term ℕ). q.0 < length texts) ps r.0 named.1 r.1) r.2 in
      let above : p.0 < r.0.0 = Each-at (λ n. p.0 < n) (map (λ (q : ℕ × Term ℕ). q.0) ps) r.0.0 rises.0 (IsAmong-map (λ (q : ℕ × Term ℕ). q.0) ps r.0 r.1) in
      omega arith,
  NoneTwice-texts texts ps once rises.1 named.1,
)
