-- Two networks that share nothing but names: what is linked in both together, and when both together agree.
use Rattle.std.specs.Prelude.{◌≡◌, ℕ, List, ◌++◌, ◌⊎◌, ⊤, refl}
use Rattle.std.proofs.Common.{inl, inr, ap, sym, ◌∙◌, subst}
use Rattle.gr_base.specs.Lists.{IsAmong, IsWithin}
use Rattle.gr_base.proofs.ListLemmas.{IsAmong-append, IsAmong-append_left, IsAmong-append_right}
use Rattle.gr_terms.specs.Networks.{Term, name, variable, Assertion, entry, equate, link, AreLinkedSlots, linked, same_slot, back_slot, next_slot, AreLinked, equated, shared, same, back, next, Agrees, HasValue}
use Rattle.gr_terms.proofs.NetworkLemmas.{AreLinked-part, AreLinkedSlots-part, HasValue-part, Agrees-part}

-- the assertion is of terms and slots of these kinds
abbrev pub IsOf : {V S : Type 0} → (Term V → Type 0) → (S → Type 0) → Assertion V S → Type 0
IsOf P Q (entry s a x) = Q s × P x
IsOf P Q (equate x y) = P x × P y
IsOf P Q (link s t) = Q s × Q t

abbrev pub AreOf : {V S : Type 0} → (Term V → Type 0) → (S → Type 0) → List (Assertion V S) → Type 0
AreOf {V} {S} P Q N = (e : Assertion V S) → IsAmong N e → IsOf P Q e

-- what is linked is one, or of these kinds
module _ {V S : Type 0} (P : Term V → Type 0) (Q : S → Type 0) (N : List (Assertion V S)) (of : AreOf P Q N) where
  slots_of : (s t : S) → AreLinkedSlots N s t → (s ≡ t) ⊎ (Q s × Q t)
  slots_of _ _ (linked s t i) = inr (of (link s t) i)
  slots_of _ _ (same_slot s) = inl refl
  slots_of _ _ (back_slot s t l) = elim (slots_of s t l) [ inl e ↦ inl (sym e) | inr q ↦ inr (q.1, q.0) ]
  slots_of _ _ (next_slot s t u l m) = elim (slots_of s t l) [
    | inl e ↦ subst (λ z. (z ≡ u) ⊎ (Q z × Q u)) (sym e) (slots_of t u m)
    | inr q ↦ elim (slots_of t u m) [ inl e ↦ inr (q.0, subst Q e q.1) | inr r ↦ inr (q.0, r.1) ]
  ]

  terms_of : (x y : Term V) → AreLinked N x y → (x ≡ y) ⊎ (P x × P y)
  terms_of _ _ (equated x y i) = inr (of (equate x y) i)
  terms_of _ _ (shared s t a x y l i j) = inr ((of (entry s a x) i).1, (of (entry t a y) j).1)
  terms_of _ _ (same x) = inl refl
  terms_of _ _ (back x y l) = elim (terms_of x y l) [ inl e ↦ inl (sym e) | inr p ↦ inr (p.1, p.0) ]
  terms_of _ _ (next x y z l m) = elim (terms_of x y l) [
    | inl e ↦ subst (λ w. (w ≡ z) ⊎ (P w × P z)) (sym e) (terms_of y z m)
    | inr p ↦ elim (terms_of y z m) [ inl e ↦ inr (p.0, subst P e p.1) | inr r ↦ inr (p.0, r.1) ]
  ]

module _ {V S : Type 0} (A B : List (Assertion V S)) (P R : Term V → Type 0) (Q T : S → Type 0) (of_a : AreOf P Q A) (of_b : AreOf R T B)
    (names : (x : Term V) → P x → R x → (a : ℕ) × (x ≡ name a)) (apart : (s : S) → Q s → T s → ⊥) where
  in_a : IsWithin A (A ++ B)
  in_a e i = IsAmong-append_left A B e i

  in_b : IsWithin B (A ++ B)
  in_b e i = IsAmong-append_right A B e i

  -- linked slots are linked in one of the two
  slots_split : (s t : S) → AreLinkedSlots (A ++ B) s t → AreLinkedSlots A s t ⊎ AreLinkedSlots B s t
  slots_split _ _ (linked s t i) = elim (IsAmong-append A B (link s t) i) [ inl j ↦ inl (linked s t j) | inr j ↦ inr (linked s t j) ]
  slots_split _ _ (same_slot s) = inl (same_slot s)
  slots_split _ _ (back_slot s t l) = elim (slots_split s t l) [ inl m ↦ inl (back_slot s t m) | inr m ↦ inr (back_slot s t m) ]
  slots_split _ _ (next_slot s t u l m) = elim (slots_split s t l) [
    | inl a ↦ elim (slots_split t u m) [
      | inl b ↦ inl (next_slot s t u a b)
      | inr b ↦ elim (slots_of P Q A of_a s t a) [
        | inl e ↦ inr (subst (λ z. AreLinkedSlots B z u) (sym e) b)
        | inr q ↦ elim (slots_of R T B of_b t u b) [
          | inl e ↦ inl (subst (λ z. AreLinkedSlots A s z) e a)
          | inr r ↦ absurd (apart t q.1 r.0)
        ]
      ]
    ]
    | inr a ↦ elim (slots_split t u m) [
      | inr b ↦ inr (next_slot s t u a b)
      | inl b ↦ elim (slots_of R T B of_b s t a) [
        | inl e ↦ inl (subst (λ z. AreLinkedSlots A z u) (sym e) b)
        | inr r ↦ elim (slots_of P Q A of_a t u b) [
          | inl e ↦ inr (subst (λ z. AreLinkedSlots B s z) e a)
          | inr q ↦ absurd (apart t q.0 r.1)
        ]
      ]
    ]
  ]

  slots_a : (s t : S) → Q s → Q t → AreLinkedSlots (A ++ B) s t → AreLinkedSlots A s t
  slots_a s t p q l = elim (slots_split s t l) [
    | inl a ↦ a
    | inr b ↦ elim (slots_of R T B of_b s t b) [ inl e ↦ subst (λ z. AreLinkedSlots A s z) e (same_slot s) | inr r ↦ absurd (apart s p r.0) ]
  ]

  slots_b : (s t : S) → T s → T t → AreLinkedSlots (A ++ B) s t → AreLinkedSlots B s t
  slots_b s t p q l = elim (slots_split s t l) [
    | inr b ↦ b
    | inl a ↦ elim (slots_of P Q A of_a s t a) [ inl e ↦ subst (λ z. AreLinkedSlots B s z) e (same_slot s) | inr r ↦ absurd (apart s r.0 p) ]
  ]

  slots_cross : (s t : S) → Q s → T t → AreLinkedSlots (A ++ B) s t → ⊥
  slots_cross s t p q l = elim (slots_split s t l) [
    | inl a ↦ elim (slots_of P Q A of_a s t a) [ inl e ↦ apart t (subst Q e p) q | inr r ↦ apart t r.1 q ]
    | inr b ↦ elim (slots_of R T B of_b s t b) [ inl e ↦ apart t (subst Q e p) q | inr r ↦ apart s p r.0 ]
  ]

  -- values at slots of the second are its own
  pub values_b : (s : S) (a : ℕ) (x : Term V) → T s → HasValue (A ++ B) s a x → HasValue B s a x
  values_b s a x p h = elim (IsAmong-append A B (entry h.0 a x) h.2) [
    | inl i ↦ absurd (slots_cross h.0 s (of_a (entry h.0 a x) i).0 p (back_slot s h.0 h.1))
    | inr i ↦ (h.0, slots_b s h.0 p (of_b (entry h.0 a x) i).0 h.1, i)
  ]

  pub b_values : (s : S) (a : ℕ) (x : Term V) → HasValue B s a x → HasValue (A ++ B) s a x
  b_values = HasValue-part B (A ++ B) in_b

  -- linked terms are so in one of the two, or in both by way of a name
  data One (x y : Term V) : Type 0 where
    one_a : AreLinked A x y → One x y
    one_b : AreLinked B x y → One x y

  data Sep (x y : Term V) : Type 0 where
    direct : One x y → Sep x y
    through : (a : ℕ) → One x (name a) → One (name a) y → Sep x y

  one_back : (x y : Term V) → One x y → One y x
  one_back x y (one_a l) = one_a (back x y l)
  one_back x y (one_b l) = one_b (back x y l)

  one_next : (x y z : Term V) → One x y → One y z → Sep x z
  one_next x y z (one_a l) (one_a m) = direct (one_a (next x y z l m))
  one_next x y z (one_b l) (one_b m) = direct (one_b (next x y z l m))
  one_next x y z (one_a l) (one_b m) = elim (terms_of P Q A of_a x y l) [
    | inl e ↦ direct (one_b (subst (λ w. AreLinked B w z) (sym e) m))
    | inr p ↦ elim (terms_of R T B of_b y z m) [
      | inl e ↦ direct (one_a (subst (λ w. AreLinked A x w) e l))
      | inr r ↦ let n = names y p.1 r.0 in through n.0 (one_a (subst (λ w. AreLinked A x w) n.1 l)) (one_b (subst (λ w. AreLinked B w z) n.1 m))
    ]
  ]
  one_next x y z (one_b l) (one_a m) = elim (terms_of R T B of_b x y l) [
    | inl e ↦ direct (one_a (subst (λ w. AreLinked A w z) (sym e) m))
    | inr r ↦ elim (terms_of P Q A of_a y z m) [
      | inl e ↦ direct (one_b (subst (λ w. AreLinked B x w) e l))
      | inr p ↦ let n = names y p.0 r.1 in through n.0 (one_b (subst (λ w. AreLinked B x w) n.1 l)) (one_a (subst (λ w. AreLinked A w z) n.1 m))
    ]
  ]

  shared_sep : (s t : S) (a : ℕ) (x y : Term V) → AreLinkedSlots (A ++ B) s t → IsAmong (A ++ B) (entry s a x) → IsAmong (A ++ B) (entry t a y) → One x y
  shared_sep s t a x y l i j = elim (IsAmong-append A B (entry s a x) i) [
    | inl p ↦ elim (IsAmong-append A B (entry t a y) j) [
      | inl q ↦ one_a (shared s t a x y (slots_a s t (of_a (entry s a x) p).0 (of_a (entry t a y) q).0 l) p q)
      | inr q ↦ absurd (slots_cross s t (of_a (entry s a x) p).0 (of_b (entry t a y) q).0 l)
    ]
    | inr p ↦ elim (IsAmong-append A B (entry t a y) j) [
      | inl q ↦ absurd (slots_cross t s (of_a (entry t a y) q).0 (of_b (entry s a x) p).0 (back_slot s t l))
      | inr q ↦ one_b (shared s t a x y (slots_b s t (of_b (entry s a x) p).0 (of_b (entry t a y) q).0 l) p q)
    ]
  ]

  module _ (agree_a : Agrees A) (agree_second : Agrees B) where
    one_name : (a b : ℕ) → One (name a) (name b) → a ≡ b
    one_name a b (one_a l) = agree_a a b l
    one_name a b (one_b l) = agree_second a b l

    sep_one : (x y z : Term V) → Sep x y → One y z → Sep x z
    sep_one x y z (direct o) q = one_next x y z o q
    sep_one x y z (through a o p) q = by (one_next (name a) y z p q)
      where
        by : Sep (name a) z → Sep x z
        by (direct r) = through a o r
        by (through b r s) = through a o (subst (λ c. One (name c) z) (sym (one_name a b r)) s)

    sep_next : (x y z : Term V) → Sep x y → Sep y z → Sep x z
    sep_next x y z s (direct q) = sep_one x y z s q
    sep_next x y z s (through a q r) = sep_one x (name a) z (sep_one x y (name a) s q) r

    sep_back : (x y : Term V) → Sep x y → Sep y x
    sep_back x y (direct o) = direct (one_back x y o)
    sep_back x y (through a o p) = through a (one_back (name a) y p) (one_back x (name a) o)

    sep : (x y : Term V) → AreLinked (A ++ B) x y → Sep x y
    sep _ _ (equated x y i) = elim (IsAmong-append A B (equate x y) i) [ inl j ↦ direct (one_a (equated x y j)) | inr j ↦ direct (one_b (equated x y j)) ]
    sep _ _ (shared s t a x y l i j) = direct (shared_sep s t a x y l i j)
    sep _ _ (same x) = direct (one_a (same x))
    sep _ _ (back x y l) = sep_back x y (sep x y l)
    sep _ _ (next x y z l m) = sep_next x y z (sep x y l) (sep y z m)

    pub agree_both : Agrees (A ++ B)
    agree_both a b l = by (sep (name a) (name b) l)
      where
        by : Sep (name a) (name b) → a ≡ b
        by (direct o) = one_name a b o
        by (through c o p) = one_name a c o ∙ one_name c b p

    -- terms of the second are linked in both where they are in it
    module _ (named : (a : ℕ) → R (name a)) where
      one_in_b : (x y : Term V) → R x → R y → One x y → AreLinked B x y
      one_in_b x y p q (one_b l) = l
      one_in_b x y p q (one_a l) = elim (terms_of P Q A of_a x y l) [
        | inl e ↦ subst (λ w. AreLinked B x w) e (same x)
        | inr r ↦
            let n = names x r.0 p in
            let m = names y r.1 q in
            let l' : AreLinked A (name n.0) (name m.0) = subst (λ w. AreLinked A w (name m.0)) n.1 (subst (λ w. AreLinked A x w) m.1 l) in
            let k : ◌≡◌ {A = Term V} (name n.0) (name m.0) = ap name (agree_a n.0 m.0 l') in
            let e : x ≡ y = n.1 ∙ k ∙ sym m.1 in
            subst (λ w. AreLinked B x w) e (same x)
      ]

      pub linked_b : (x y : Term V) → R x → R y → AreLinked (A ++ B) x y → AreLinked B x y
      linked_b x y p q l = by (sep x y l)
        where
          by : Sep x y → AreLinked B x y
          by (direct o) = one_in_b x y p q o
          by (through a o r) = next x (name a) y (one_in_b x (name a) p (named a) o) (one_in_b (name a) y (named a) q r)

  pub b_linked : (x y : Term V) → AreLinked B x y → AreLinked (A ++ B) x y
  b_linked = AreLinked-part B (A ++ B) in_b

  pub agree_b : Agrees (A ++ B) → Agrees B
  agree_b = Agrees-part B (A ++ B) in_b
