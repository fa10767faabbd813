-- Each network has a function that gives each term what stands for it: its classes are joined pair by pair, and the lowest term of a
-- class stands for it.
use Rattle.std.specs.Prelude.{◌≡◌, ℕ, suc, ◌<◌, ◌≤◌, List, [], ◌∷◌, ◌++◌, ◌⊎◌, refl}
use Rattle.std.proofs.Common.{inl, inr, ap, sym, ◌∙◌, subst, arith}
use Rattle.std.proofs.lemmas.Bool.{cases_eq, cases_lt}
use Rattle.gr_base.specs.Lists.{IsAmong, gathered}
use Rattle.gr_base.proofs.ListLemmas.{IsAmong-append, IsAmong-append_left, IsAmong-append_right, IsAmong-gathered, IsAmong-gathered_from}
use Rattle.gr_terms.specs.Networks.{Term, name, variable, Assertion, entry, equate, link, AreLinkedSlots, AreLinked, linked, same_slot, back_slot, next_slot, equated, shared, same, back, next}
use Rattle.gr_terms.specs.declared.Term as code
use Rattle.gr_terms.proofs.ViewLemmas.{term_from}
use Rattle.gr_feats.specs.CanonicalBags.{StandsFor}

-- the two are one, or not
abbrev pub Tells : {A : Type 0} → A → A → Type 0
Tells x y = (x ≡ y) ⊎ (x ≡ y → ⊥)

-- ---- the least equivalence that has some pairs, by a lowest element of each class

module _ {A : Type 0} (tells : (x y : A) → Tells x y) (rank : A → ℕ) where
  -- the lower of two
  abbrev lower_by : (x y : A) → (rank y < rank x) ⊎ (rank x ≤ rank y) → A
  lower_by x y (inl h) = y
  lower_by x y (inr h) = x

  abbrev lower : A → A → A
  lower x y = lower_by x y (cases_lt (rank y) (rank x))

  lower-left : (x y : A) (h : (rank y < rank x) ⊎ (rank x ≤ rank y)) → rank (lower_by x y h) ≤ rank x
  lower-left x y (inl h) = omega arith
  lower-left x y (inr h) = omega arith

  lower-right : (x y : A) (h : (rank y < rank x) ⊎ (rank x ≤ rank y)) → rank (lower_by x y h) ≤ rank y
  lower-right x y (inl h) = omega arith
  lower-right x y (inr h) = omega arith

  lower-one : (x y : A) (h : (rank y < rank x) ⊎ (rank x ≤ rank y)) → (lower_by x y h ≡ x) ⊎ (lower_by x y h ≡ y)
  lower-one x y (inl h) = inr refl
  lower-one x y (inr h) = inl refl

  -- the lower of a and b in place of each of them
  abbrev joint_by : (a b y : A) → Tells y a → Tells y b → A
  joint_by a b y (inl e) q = lower a b
  joint_by a b y (inr n) (inl e) = lower a b
  joint_by a b y (inr n) (inr m) = y

  abbrev joint : A → A → A → A
  joint a b y = joint_by a b y (tells y a) (tells y b)

  joint-low : (a b y : A) (p : Tells y a) (q : Tells y b) → rank (joint_by a b y p q) ≤ rank y
  joint-low a b y (inl e) q = subst (λ z. rank (lower a b) ≤ rank z) (sym e) (lower-left a b (cases_lt (rank b) (rank a)))
  joint-low a b y (inr n) (inl e) = subst (λ z. rank (lower a b) ≤ rank z) (sym e) (lower-right a b (cases_lt (rank b) (rank a)))
  joint-low a b y (inr n) (inr m) = omega arith

  joint-first : (a b y : A) → y ≡ a → (p : Tells y a) (q : Tells y b) → joint_by a b y p q ≡ lower a b
  joint-first a b y e (inl f) q = refl
  joint-first a b y e (inr n) q = absurd (n e)

  joint-second : (a b y : A) → y ≡ b → (p : Tells y a) (q : Tells y b) → joint_by a b y p q ≡ lower a b
  joint-second a b y e (inl f) q = refl
  joint-second a b y e (inr n) (inl f) = refl
  joint-second a b y e (inr n) (inr m) = absurd (m e)

  -- the function after each pair is joined
  abbrev pub rooted : List (A × A) → A → A
  rooted [] x = x
  rooted (p ∷ ps) x = joint (rooted ps p.0) (rooted ps p.1) (rooted ps x)

  pub rooted-low : (ps : List (A × A)) (x : A) → rank (rooted ps x) ≤ rank x
  rooted-low [] x = omega arith
  rooted-low (p ∷ ps) x =
      let f = rooted ps in
      let here : rank (rooted (p ∷ ps) x) ≤ rank (f x) = joint-low (f p.0) (f p.1) (f x) (tells (f x) (f p.0)) (tells (f x) (f p.1)) in
      let below : rank (f x) ≤ rank x = rooted-low ps x in
      omega arith

  pub rooted-joins : (ps : List (A × A)) (p : A × A) → IsAmong ps p → rooted ps p.0 ≡ rooted ps p.1
  rooted-joins [] p i = absurd i
  rooted-joins (q ∷ ps) p (inl e) =
      let a = rooted ps q.0 in
      let b = rooted ps q.1 in
      let one : rooted (q ∷ ps) q.0 ≡ rooted (q ∷ ps) q.1 = joint-first a b a refl (tells a a) (tells a b) ∙ sym (joint-second a b b refl (tells b a) (tells b b)) in
      subst (λ r. rooted (q ∷ ps) r.0 ≡ rooted (q ∷ ps) r.1) (sym e) one
  rooted-joins (q ∷ ps) p (inr i) = ap (joint (rooted ps q.0) (rooted ps q.1)) (rooted-joins ps p i)

  -- it joins only what each equivalence joins that has the pairs
  module _ (R : A → A → Type 0) (self : (x : A) → R x x) (back_R : (x y : A) → R x y → R y x) (then_R : (x y z : A) → R x y → R y z → R x z) where
    lower_in : (a b : A) → R a b → R a (lower a b)
    lower_in a b r = elim (lower-one a b (cases_lt (rank b) (rank a))) [
      | inl e ↦ subst (λ z. R a z) (sym e) (self a)
      | inr e ↦ subst (λ z. R a z) (sym e) r
    ]

    joint_in : (a b y : A) → R a b → (p : Tells y a) (q : Tells y b) → R y (joint_by a b y p q)
    joint_in a b y r (inl e) q = subst (λ z. R z (lower a b)) (sym e) (lower_in a b r)
    joint_in a b y r (inr n) (inl e) = subst (λ z. R z (lower a b)) (sym e) (then_R b a (lower a b) (back_R a b r) (lower_in a b r))
    joint_in a b y r (inr n) (inr m) = self y

    rooted_in : (ps : List (A × A)) → ((p : A × A) → IsAmong ps p → R p.0 p.1) → (x : A) → R x (rooted ps x)
    rooted_in [] each x = self x
    rooted_in (p ∷ ps) each x =
        let f = rooted ps in
        let below : (y : A) → R y (f y) = rooted_in ps (λ q i. each q (inr i)) in
        let pair : R (f p.0) (f p.1) = then_R (f p.0) p.0 (f p.1) (back_R p.0 (f p.0) (below p.0)) (then_R p.0 p.1 (f p.1) (each p (inl refl)) (below p.1)) in
        then_R x (f x) (rooted (p ∷ ps) x) (below x) (joint_in (f p.0) (f p.1) (f x) pair (tells (f x) (f p.0)) (tells (f x) (f p.1)))

    pub rooted-only : (ps : List (A × A)) → ((p : A × A) → IsAmong ps p → R p.0 p.1) → (x y : A) → rooted ps x ≡ rooted ps y → R x y
    rooted-only ps each x y e = then_R x (rooted ps x) y (rooted_in ps each x) (subst (λ z. R z y) (sym e) (back_R y (rooted ps y) (rooted_in ps each y)))

-- ---- terms

abbrev term_rank : Term ℕ → ℕ
term_rank (name a) = 0
term_rank (variable v) = suc v

abbrev number_in : Term ℕ → ℕ
number_in (name a) = a
number_in (variable v) = v

same_name : (a b : ℕ) → Tells a b → Tells {A = Term ℕ} (name a) (name b)
same_name a b (inl e) = inl (ap name e)
same_name a b (inr n) = inr (λ h. n (ap number_in h))

same_variable : (v w : ℕ) → Tells v w → Tells (variable v) (variable w)
same_variable v w (inl e) = inl (ap variable e)
same_variable v w (inr n) = inr (λ h. n (ap number_in h))

pub term_tells : (x y : Term ℕ) → Tells x y
term_tells (name a) (name b) = same_name a b (cases_eq a b)
term_tells (name a) (variable w) = inr (λ h. cc)
term_tells (variable v) (name b) = inr (λ h. cc)
term_tells (variable v) (variable w) = same_variable v w (cases_eq v w)

module _ (N : List (Assertion ℕ ℕ)) where
  -- ---- slots

  abbrev linked_pair : Assertion ℕ ℕ → List (ℕ × ℕ)
  linked_pair (entry s a x) = []
  linked_pair (equate x y) = []
  linked_pair (link s t) = (s, t) ∷ []

  abbrev slot_root : ℕ → ℕ
  slot_root s = rooted cases_eq (λ k. k) (gathered linked_pair N) s

  slots_joined : (s t : ℕ) → AreLinkedSlots N s t → slot_root s ≡ slot_root t
  slots_joined _ _ (linked s t i) = rooted-joins cases_eq (λ k. k) (gathered linked_pair N) (s, t) (IsAmong-gathered linked_pair N (link s t) (s, t) i (inl refl))
  slots_joined _ _ (same_slot s) = refl
  slots_joined _ _ (back_slot s t h) = sym (slots_joined s t h)
  slots_joined _ _ (next_slot s t u h k) = slots_joined s t h ∙ slots_joined t u k

  pair_linked : (e : Assertion ℕ ℕ) (p : ℕ × ℕ) → IsAmong N e → IsAmong (linked_pair e) p → AreLinkedSlots N p.0 p.1
  pair_linked (entry s a x) p i j = absurd j
  pair_linked (equate x y) p i j = absurd j
  pair_linked (link s t) p i (inl e) = subst (λ q. AreLinkedSlots N q.0 q.1) (sym e) (linked s t i)
  pair_linked (link s t) p i (inr j) = absurd j

  slots_linked : (s t : ℕ) → slot_root s ≡ slot_root t → AreLinkedSlots N s t
  slots_linked s t e =
      rooted-only cases_eq (λ k. k) (AreLinkedSlots N) same_slot back_slot next_slot (gathered linked_pair N)
      (λ p i. let r = IsAmong-gathered_from linked_pair N p i in pair_linked r.0 p r.1 r.2) s t e

  -- ---- values

  abbrev shared_by : (s t a b : ℕ) (x y : Term ℕ) → Tells (slot_root s) (slot_root t) → Tells a b → List (Term ℕ × Term ℕ)
  shared_by s t a b x y (inl e) (inl f) = (x, y) ∷ []
  shared_by s t a b x y (inl e) (inr n) = []
  shared_by s t a b x y (inr n) q = []

  abbrev shared_pair : Assertion ℕ ℕ → Assertion ℕ ℕ → List (Term ℕ × Term ℕ)
  shared_pair (entry s a x) (entry t b y) = shared_by s t a b x y (cases_eq (slot_root s) (slot_root t)) (cases_eq a b)
  shared_pair (entry s a x) (equate u v) = []
  shared_pair (entry s a x) (link t u) = []
  shared_pair (equate x y) e = []
  shared_pair (link s t) e = []

  abbrev equated_pair : Assertion ℕ ℕ → List (Term ℕ × Term ℕ)
  equated_pair (entry s a x) = []
  equated_pair (equate x y) = (x, y) ∷ []
  equated_pair (link s t) = []

  abbrev shared_pairs : List (Term ℕ × Term ℕ)
  shared_pairs = gathered (λ e. gathered (shared_pair e) N) N

  abbrev term_pairs : List (Term ℕ × Term ℕ)
  term_pairs = gathered equated_pair N ++ shared_pairs

  abbrev pub term_root : Term ℕ → Term ℕ
  term_root x = rooted term_tells term_rank term_pairs x

  shared_there : (s t a : ℕ) (x y : Term ℕ) → slot_root s ≡ slot_root t → (p : Tells (slot_root s) (slot_root t)) (q : Tells a a) → IsAmong (shared_by s t a a x y p q) (x, y)
  shared_there s t a x y e (inl f) (inl g) = inl refl
  shared_there s t a x y e (inl f) (inr n) = absurd (n refl)
  shared_there s t a x y e (inr n) q = absurd (n e)

  pair_joined : (p : Term ℕ × Term ℕ) → IsAmong term_pairs p → term_root p.0 ≡ term_root p.1
  pair_joined p i = rooted-joins term_tells term_rank term_pairs p i

  pub terms_joined : (x y : Term ℕ) → AreLinked N x y → term_root x ≡ term_root y
  terms_joined _ _ (equated x y i) =
      pair_joined (x, y) (IsAmong-append_left (gathered equated_pair N) shared_pairs (x, y) (IsAmong-gathered equated_pair N (equate x y) (x, y) i (inl refl)))
  terms_joined _ _ (shared s t a x y h i j) =
      pair_joined (x, y) (IsAmong-append_right (gathered equated_pair N) shared_pairs (x, y)
      (IsAmong-gathered (λ e. gathered (shared_pair e) N) N (entry s a x) (x, y) i
      (IsAmong-gathered (shared_pair (entry s a x)) N (entry t a y) (x, y) j
      (shared_there s t a x y (slots_joined s t h) (cases_eq (slot_root s) (slot_root t)) (cases_eq a a)))))
  terms_joined _ _ (same x) = refl
  terms_joined _ _ (back x y h) = sym (terms_joined x y h)
  terms_joined _ _ (next x y z h k) = terms_joined x y h ∙ terms_joined y z k

  equated_linked : (e : Assertion ℕ ℕ) (p : Term ℕ × Term ℕ) → IsAmong N e → IsAmong (equated_pair e) p → AreLinked N p.0 p.1
  equated_linked (entry s a x) p i j = absurd j
  equated_linked (equate x y) p i (inl e) = subst (λ q. AreLinked N q.0 q.1) (sym e) (equated x y i)
  equated_linked (equate x y) p i (inr j) = absurd j
  equated_linked (link s t) p i j = absurd j

  by_tests : (s t a b : ℕ) (x y : Term ℕ) (p : Term ℕ × Term ℕ) → IsAmong N (entry s a x) → IsAmong N (entry t b y) → (q : Tells (slot_root s) (slot_root t)) (r : Tells a b)
      → IsAmong (shared_by s t a b x y q r) p → AreLinked N p.0 p.1
  by_tests s t a b x y p i j (inl e) (inl f) (inl h) =
      let there : IsAmong N (entry t a y) = subst (λ c. IsAmong N (entry t c y)) (sym f) j in
      subst (λ q. AreLinked N q.0 q.1) (sym h) (shared s t a x y (slots_linked s t e) i there)
  by_tests s t a b x y p i j (inl e) (inl f) (inr k) = absurd k
  by_tests s t a b x y p i j (inl e) (inr n) k = absurd k
  by_tests s t a b x y p i j (inr n) r k = absurd k

  shared_linked : (e f : Assertion ℕ ℕ) (p : Term ℕ × Term ℕ) → IsAmong N e → IsAmong N f → IsAmong (shared_pair e f) p → AreLinked N p.0 p.1
  shared_linked (entry s a x) (entry t b y) p i j k = by_tests s t a b x y p i j (cases_eq (slot_root s) (slot_root t)) (cases_eq a b) k
  shared_linked (entry s a x) (equate u v) p i j k = absurd k
  shared_linked (entry s a x) (link t u) p i j k = absurd k
  shared_linked (equate x y) f p i j k = absurd k
  shared_linked (link s t) f p i j k = absurd k

  pairs_linked : (p : Term ℕ × Term ℕ) → IsAmong term_pairs p → AreLinked N p.0 p.1
  pairs_linked p i = elim (IsAmong-append (gathered equated_pair N) shared_pairs p i) [
    | inl j ↦ let r = IsAmong-gathered_from equated_pair N p j in equated_linked r.0 p r.1 r.2
    | inr j ↦
        let r = IsAmong-gathered_from (λ e. gathered (shared_pair e) N) N p j in
        let q = IsAmong-gathered_from (shared_pair r.0) N p r.2 in
        shared_linked r.0 q.0 p r.1 q.1 q.2
  ]

  pub root_linked : (x : Term ℕ) → AreLinked N x (term_root x)
  root_linked x = rooted_in term_tells term_rank (AreLinked N) same back next term_pairs pairs_linked x

  root-low : (x : Term ℕ) → term_rank (term_root x) ≤ term_rank x
  root-low x = rooted-low term_tells term_rank term_pairs x

  -- ---- the root stands for the term

  stands : (x r : Term ℕ) → term_root x ≡ r → StandsFor N x (term_from r)
  stands x (name a) e = subst (λ z. AreLinked N x z) e (root_linked x)
  stands x (variable v) e = (
    λ a h.
        let low : term_rank (term_root (name a)) ≤ 0 = root-low (name a) in
        let is : term_root (name a) ≡ variable v = sym (terms_joined x (name a) h) ∙ e in
        let none : suc v ≤ 0 = subst (λ z. term_rank z ≤ 0) is low in
        absurd (omega arith),
    (
      subst (λ z. AreLinked N x z) e (root_linked x),
      λ w h.
          let low : term_rank (term_root (variable w)) ≤ suc w = root-low (variable w) in
          let is : term_root (variable w) ≡ variable v = sym (terms_joined x (variable w) h) ∙ e in
          let below : suc v ≤ suc w = subst (λ z. term_rank z ≤ suc w) is low in
          omega arith,
    ),
  )

  -- what stands for each term
  abbrev pub least_term : Term ℕ → code.Term
  least_term x = term_from (term_root x)

  pub least_stands : (x : Term ℕ) → StandsFor N x (least_term x)
  least_stands x = stands x (term_root x) refl
