-- Links of a network, names of terms and agreement are decided.
-- A network links terms as the equations of its equated and shared values do, and equations are taken one by one.
use Rattle.std.specs.Prelude.{◌≡◌, ℕ, List, [], ◌∷◌, ◌++◌, map, refl}
use Rattle.std.proofs.Common.{inl, inr, ap, sym, ◌∙◌, subst}
use Rattle.gr_base.specs.Lists.{IsAmong, gathered}
use Rattle.gr_base.proofs.ListLemmas.{IsAmong-map, IsAmong-map_from, IsAmong-append, IsAmong-append_left, IsAmong-append_right, IsAmong-gathered, IsAmong-gathered_from}
use Rattle.gr_terms.specs.Networks.{Term, name, variable, Assertion, entry, equate, link, AreLinkedSlots, linked, same_slot, back_slot, next_slot, AreLinked, equated, shared, same, back, next, Agrees, Follows}
use Rattle.gr_terms.specs.Interpretations.{Entails}
use Rattle.gr_terms.specs.Additions.{Joined, as_before, across, across_back, JoinedSlots, slots_before, slots_across, slots_back, AreCompatible}
use Rattle.gr_terms.proofs.NetworkLemmas.{AreLinked-part, AreLinkedSlots-part, Agrees-part, AreLinked-entailed}
use Rattle.gr_terms.proofs.AdditionLemmas.{AreLinked-equate, AreLinkedSlots-equate, AreLinkedSlots-entry, AreLinkedSlots-link, Agrees-equate}
use Rattle.gr_base.specs.Decisions.{IsDecided, AreToldApart}
use Rattle.gr_base.proofs.Deciding.{decided_by, decided_both, decided_number, behind_within, ahead_within}

pub decided_term : {V : Type 0} → AreToldApart V → AreToldApart (Term V)
decided_term {V} apart (name a) (name b) = decided_by (a ≡ b) (◌≡◌ {A = Term V} (name a) (name b)) (λ e. ap name e) (λ e. cc e) (decided_number a b)
decided_term apart (name a) (variable v) = inr (λ e. cc e)
decided_term apart (variable v) (name a) = inr (λ e. cc e)
decided_term apart (variable v) (variable w) = decided_by (v ≡ w) (variable v ≡ variable w) (λ e. ap variable e) (λ e. cc e) (apart v w)

-- nothing is linked with nothing said
module _ {V S : Type 0} where
  none_linked_slots : (s t : S) → AreLinkedSlots {V = V} [] s t → s ≡ t
  none_linked_slots _ _ (linked s t i) = absurd i
  none_linked_slots _ _ (same_slot s) = refl
  none_linked_slots _ _ (back_slot s t h) = sym (none_linked_slots s t h)
  none_linked_slots _ _ (next_slot s t u h k) = none_linked_slots s t h ∙ none_linked_slots t u k

  none_linked : (x y : Term V) → AreLinked {S = S} [] x y → x ≡ y
  none_linked _ _ (equated x y i) = absurd i
  none_linked _ _ (shared s t a x y l i j) = absurd i
  none_linked _ _ (same x) = refl
  none_linked _ _ (back x y h) = sym (none_linked x y h)
  none_linked _ _ (next x y z h k) = none_linked x y h ∙ none_linked y z k

-- one more assertion in front is as one behind
module _ {V S : Type 0} (e : Assertion V S) (N : List (Assertion V S)) where
  slots_ahead : (p q : S) → AreLinkedSlots (N ++ e ∷ []) p q → AreLinkedSlots (e ∷ N) p q
  slots_ahead = AreLinkedSlots-part (N ++ e ∷ []) (e ∷ N) (ahead_within e N)

  slots_behind : (p q : S) → AreLinkedSlots (e ∷ N) p q → AreLinkedSlots (N ++ e ∷ []) p q
  slots_behind = AreLinkedSlots-part (e ∷ N) (N ++ e ∷ []) (behind_within e N)

  terms_ahead : (x y : Term V) → AreLinked (N ++ e ∷ []) x y → AreLinked (e ∷ N) x y
  terms_ahead = AreLinked-part (N ++ e ∷ []) (e ∷ N) (ahead_within e N)

  terms_behind : (x y : Term V) → AreLinked (e ∷ N) x y → AreLinked (N ++ e ∷ []) x y
  terms_behind = AreLinked-part (e ∷ N) (N ++ e ∷ []) (behind_within e N)

-- ---- slots
module _ {V S : Type 0} (N : List (Assertion V S)) (s t p q : S) where
  joined_slots : IsDecided (AreLinkedSlots N p q) → IsDecided (AreLinkedSlots N p s × AreLinkedSlots N t q) → IsDecided (AreLinkedSlots N p t × AreLinkedSlots N s q) → IsDecided (JoinedSlots N s t p q)
  joined_slots (inl h) b c = inl (slots_before h)
  joined_slots (inr a) (inl h) c = inl (slots_across h.0 h.1)
  joined_slots (inr a) (inr b) (inl h) = inl (slots_back h.0 h.1)
  joined_slots (inr a) (inr b) (inr c) = inr (λ h. elim h [ slots_before k ↦ a k | slots_across k l ↦ b (k, l) | slots_back k l ↦ c (k, l) ])

pub decided_slots : {V S : Type 0} → AreToldApart S → (N : List (Assertion V S)) (p q : S) → IsDecided (AreLinkedSlots N p q)
decided_slots {V} {S} apart [] p q = decided_by (p ≡ q) (AreLinkedSlots {V = V} [] p q) (λ e. subst (λ z. AreLinkedSlots {V = V} [] p z) e (same_slot p)) (none_linked_slots p q) (apart p q)
decided_slots {V} {S} apart (entry s a x ∷ N) p q =
    let e : Assertion V S = entry s a x in
    decided_by (AreLinkedSlots N p q) (AreLinkedSlots (e ∷ N) p q)
    (λ h. slots_ahead e N p q ((AreLinkedSlots-entry N s a x p q).1 h)) (λ h. (AreLinkedSlots-entry N s a x p q).0 (slots_behind e N p q h)) (decided_slots apart N p q)
decided_slots {V} {S} apart (equate x y ∷ N) p q =
    let e : Assertion V S = equate x y in
    decided_by (AreLinkedSlots N p q) (AreLinkedSlots (e ∷ N) p q)
    (λ h. slots_ahead e N p q ((AreLinkedSlots-equate N x y p q).1 h)) (λ h. (AreLinkedSlots-equate N x y p q).0 (slots_behind e N p q h)) (decided_slots apart N p q)
decided_slots {V} {S} apart (link s t ∷ N) p q =
    let e : Assertion V S = link s t in
    decided_by (JoinedSlots N s t p q) (AreLinkedSlots (e ∷ N) p q)
    (λ h. slots_ahead e N p q ((AreLinkedSlots-link N s t p q).1 h)) (λ h. (AreLinkedSlots-link N s t p q).0 (slots_behind e N p q h))
    (joined_slots N s t p q (decided_slots apart N p q)
    (decided_both (AreLinkedSlots N p s) (AreLinkedSlots N t q) (decided_slots apart N p s) (decided_slots apart N t q))
    (decided_both (AreLinkedSlots N p t) (AreLinkedSlots N s q) (decided_slots apart N p t) (decided_slots apart N s q)))

-- ---- equations alone
module _ {V S : Type 0} (N : List (Assertion V S)) (x y u v : Term V) where
  joined_terms : IsDecided (AreLinked N u v) → IsDecided (AreLinked N u x × AreLinked N y v) → IsDecided (AreLinked N u y × AreLinked N x v) → IsDecided (Joined N x y u v)
  joined_terms (inl h) b c = inl (as_before h)
  joined_terms (inr a) (inl h) c = inl (across h.0 h.1)
  joined_terms (inr a) (inr b) (inl h) = inl (across_back h.0 h.1)
  joined_terms (inr a) (inr b) (inr c) = inr (λ h. elim h [ as_before k ↦ a k | across k l ↦ b (k, l) | across_back k l ↦ c (k, l) ])

-- a name is linked with the term
abbrev pub HasName : {V S : Type 0} → List (Assertion V S) → Term V → Type 0
HasName N x = (a : ℕ) × AreLinked N x (name a)

module _ {V S : Type 0} (N : List (Assertion V S)) (x y u : Term V) where
  joined_names : IsDecided (HasName N u) → IsDecided (AreLinked N u x × HasName N y) → IsDecided (AreLinked N u y × HasName N x) → IsDecided ((a : ℕ) × Joined N x y u (name a))
  joined_names (inl h) b c = inl (h.0, as_before h.1)
  joined_names (inr a) (inl h) c = inl (h.1.0, across h.0 h.1.1)
  joined_names (inr a) (inr b) (inl h) = inl (h.1.0, across_back h.0 h.1.1)
  joined_names (inr a) (inr b) (inr c) = inr (λ h. none h.0 h.1)
    where
      none : (k : ℕ) → Joined N x y u (name k) → ⊥
      none k (as_before i) = a (k, i)
      none k (across i j) = b (i, (k, j))
      none k (across_back i j) = c (i, (k, j))

  -- two terms whose names are known
  compatible : Agrees N → IsDecided (HasName N x) → IsDecided (HasName N y) → IsDecided (AreCompatible N x y)
  compatible agrees (inr n) b = inl (λ c d h k. absurd (n (c, h)))
  compatible agrees (inl a) (inr n) = inl (λ c d h k. absurd (n (d, k)))
  compatible agrees (inl a) (inl b) =
      decided_by (a.0 ≡ b.0) (AreCompatible N x y)
      (λ e c d h k. agrees c a.0 (next _ _ _ (back _ _ h) a.1) ∙ (e ∙ agrees b.0 d (next _ _ _ (back _ _ b.1) k)))
      (λ h. h a.0 b.0 a.1 b.1) (decided_number a.0 b.0)

abbrev equation_of : {V S : Type 0} → Term V × Term V → Assertion V S
equation_of p = equate p.0 p.1

module _ {V : Type 0} (S : Type 0) (apart : AreToldApart V) where
  abbrev equations : List (Term V × Term V) → List (Assertion V S)
  equations E = map equation_of E

  equations_link : (E : List (Term V × Term V)) (u v : Term V) → IsDecided (AreLinked (equations E) u v)
  equations_link [] u v = decided_by (u ≡ v) (AreLinked {S = S} [] u v) (λ e. subst (λ z. AreLinked {S = S} [] u z) e (same u)) (none_linked u v) (decided_term apart u v)
  equations_link (p ∷ E) u v =
      let N = equations E in
      let x = p.0 in
      let y = p.1 in
      let e : Assertion V S = equate x y in
      decided_by (Joined N x y u v) (AreLinked (e ∷ N) u v)
      (λ h. terms_ahead e N u v ((AreLinked-equate N x y u v).1 h)) (λ h. (AreLinked-equate N x y u v).0 (terms_behind e N u v h))
      (joined_terms N x y u v (equations_link E u v)
      (decided_both (AreLinked N u x) (AreLinked N y v) (equations_link E u x) (equations_link E y v))
      (decided_both (AreLinked N u y) (AreLinked N x v) (equations_link E u y) (equations_link E x v)))

  not_named : (v : V) → HasName {S = S} [] (variable v) → ⊥
  not_named v h = let e : variable v ≡ name h.0 = none_linked (variable v) (name h.0) h.1 in cc e

  equations_name : (E : List (Term V × Term V)) (u : Term V) → IsDecided (HasName (equations E) u)
  equations_name [] (name a) = inl (a, same (name a))
  equations_name [] (variable v) = inr (not_named v)
  equations_name (p ∷ E) u =
      let N = equations E in
      let x = p.0 in
      let y = p.1 in
      let e : Assertion V S = equate x y in
      decided_by ((a : ℕ) × Joined N x y u (name a)) (HasName (e ∷ N) u)
      (λ h. (h.0, terms_ahead e N u (name h.0) ((AreLinked-equate N x y u (name h.0)).1 h.1))) (λ h. (h.0, (AreLinked-equate N x y u (name h.0)).0 (terms_behind e N u (name h.0) h.1)))
      (joined_names N x y u (equations_name E u)
      (decided_both (AreLinked N u x) (HasName N y) (equations_link E u x) (equations_name E y))
      (decided_both (AreLinked N u y) (HasName N x) (equations_link E u y) (equations_name E x)))

  one_more_agrees : (p : Term V × Term V) (E : List (Term V × Term V)) → IsDecided (Agrees (equations E)) → IsDecided (Agrees (equations (p ∷ E)))
  one_more_agrees p E (inr n) = inr (λ h. n (Agrees-part (equations E) (equations (p ∷ E)) (λ a i. inr i) h))
  one_more_agrees p E (inl agrees) =
      let N = equations E in
      let x = p.0 in
      let y = p.1 in
      let e : Assertion V S = equate x y in
      decided_by (AreCompatible N x y) (Agrees (e ∷ N))
      (λ h. Agrees-part (e ∷ N) (N ++ e ∷ []) (behind_within e N) ((Agrees-equate N x y agrees).1 h))
      (λ h. (Agrees-equate N x y agrees).0 (Agrees-part (N ++ e ∷ []) (e ∷ N) (ahead_within e N) h))
      (compatible N x y x agrees (equations_name E x) (equations_name E y))

  same_name : (a b : ℕ) → AreLinked {V = V} {S = S} [] (name a) (name b) → a ≡ b
  same_name a b h = let e : ◌≡◌ {A = Term V} (name a) (name b) = none_linked (name a) (name b) h in cc e

  equations_agree : (E : List (Term V × Term V)) → IsDecided (Agrees (equations E))
  equations_agree [] = inl same_name
  equations_agree (p ∷ E) = one_more_agrees p E (equations_agree E)

-- ---- the equations of a network
abbrev pub when : {A : Type 0} (B : Type 0) → IsDecided B → A → List A
when B (inl b) x = x ∷ []
when B (inr n) x = []

pub when_from : {A : Type 0} (B : Type 0) (d : IsDecided B) (x y : A) → IsAmong (when B d x) y → B × (y ≡ x)
when_from B (inl b) x y (inl e) = (b, e)
when_from B (inl b) x y (inr i) = absurd i
when_from B (inr n) x y i = absurd i

pub when_to : {A : Type 0} (B : Type 0) (d : IsDecided B) (x : A) → B → IsAmong (when B d x) x
when_to B (inl b) x h = inl refl
when_to B (inr n) x h = absurd (n h)

module _ {V S : Type 0} (apart : AreToldApart S) (N : List (Assertion V S)) where
  -- the two entries are of one attribute at linked slots
  meet : (s t : S) (a b : ℕ) → IsDecided ((a ≡ b) × AreLinkedSlots N s t)
  meet s t a b = decided_both (a ≡ b) (AreLinkedSlots N s t) (decided_number a b) (decided_slots apart N s t)

  abbrev own : Assertion V S → List (Term V × Term V)
  own (entry s a x) = []
  own (equate x y) = (x, y) ∷ []
  own (link s t) = []

  abbrev pair : Assertion V S → Assertion V S → List (Term V × Term V)
  pair (entry s a x) (entry t b y) = when ((a ≡ b) × AreLinkedSlots N s t) (meet s t a b) (x, y)
  pair (entry s a x) (equate y z) = []
  pair (entry s a x) (link t u) = []
  pair (equate x y) f = []
  pair (link s t) f = []

  abbrev pairs : List (Term V × Term V)
  pairs = gathered own N ++ gathered (λ e. gathered (pair e) N) N

  own_linked : (e : Assertion V S) → IsAmong N e → (p : Term V × Term V) → IsAmong (own e) p → AreLinked N p.0 p.1
  own_linked (entry s a x) i p j = absurd j
  own_linked (equate x y) i p (inl e) = subst (λ (z : Term V × Term V). AreLinked N z.0 z.1) (sym e) (equated x y i)
  own_linked (equate x y) i p (inr j) = absurd j
  own_linked (link s t) i p j = absurd j

  pair_linked : (e f : Assertion V S) → IsAmong N e → IsAmong N f → (p : Term V × Term V) → IsAmong (pair e f) p → AreLinked N p.0 p.1
  pair_linked (entry s a x) (entry t b y) i j p k =
      let r = when_from ((a ≡ b) × AreLinkedSlots N s t) (meet s t a b) (x, y) p k in
      subst (λ (z : Term V × Term V). AreLinked N z.0 z.1) (sym r.1) (shared s t a x y r.0.1 i (subst (λ c. IsAmong N (entry t c y)) (sym r.0.0) j))
  pair_linked (entry s a x) (equate y z) i j p k = absurd k
  pair_linked (entry s a x) (link t u) i j p k = absurd k
  pair_linked (equate x y) f i j p k = absurd k
  pair_linked (link s t) f i j p k = absurd k

  pairs_linked : (p : Term V × Term V) → IsAmong pairs p → AreLinked N p.0 p.1
  pairs_linked p i = elim (IsAmong-append (gathered own N) (gathered (λ e. gathered (pair e) N) N) p i) [
    | inl j ↦ let r = IsAmong-gathered_from own N p j in own_linked r.0 r.1 p r.2
    | inr j ↦
        let r = IsAmong-gathered_from (λ e. gathered (pair e) N) N p j in
        let q = IsAmong-gathered_from (pair r.0) N p r.2 in
        pair_linked r.0 q.0 r.1 q.1 p q.2
  ]

  abbrev as_equations : List (Assertion V S)
  as_equations = map equation_of pairs

  equations_follow : Entails N as_equations
  equations_follow a i = let r = IsAmong-map_from equation_of pairs a i in subst (λ b. Follows N b) (sym r.2) (pairs_linked r.0 r.1)

  pair_there : (x y : Term V) → IsAmong pairs (x, y) → AreLinked as_equations x y
  pair_there x y i = equated x y (IsAmong-map equation_of pairs (x, y) i)

  linked_there : (x y : Term V) → AreLinked N x y → AreLinked as_equations x y
  linked_there _ _ (equated x y i) = pair_there x y (IsAmong-append_left (gathered own N) (gathered (λ e. gathered (pair e) N) N) (x, y) (IsAmong-gathered own N (equate x y) (x, y) i (inl refl)))
  linked_there _ _ (shared s t a x y l i j) =
      pair_there x y (IsAmong-append_right (gathered own N) (gathered (λ e. gathered (pair e) N) N) (x, y)
      (IsAmong-gathered (λ e. gathered (pair e) N) N (entry s a x) (x, y) i
      (IsAmong-gathered (pair (entry s a x)) N (entry t a y) (x, y) j (when_to ((a ≡ a) × AreLinkedSlots N s t) (meet s t a a) (x, y) (refl, l)))))
  linked_there _ _ (same x) = same x
  linked_there _ _ (back x y h) = back _ _ (linked_there x y h)
  linked_there _ _ (next x y z h k) = next _ _ _ (linked_there x y h) (linked_there y z k)

  linked_home : (x y : Term V) → AreLinked as_equations x y → AreLinked N x y
  linked_home = AreLinked-entailed N as_equations equations_follow

-- ---- any network
module _ {V S : Type 0} (variables : AreToldApart V) (slots : AreToldApart S) (N : List (Assertion V S)) where
  pub decided_linked : (x y : Term V) → IsDecided (AreLinked N x y)
  decided_linked x y = decided_by (AreLinked (as_equations slots N) x y) (AreLinked N x y) (linked_home slots N x y) (linked_there slots N x y) (equations_link S variables (pairs slots N) x y)

  pub decided_name : (x : Term V) → IsDecided (HasName N x)
  decided_name x =
      decided_by (HasName (as_equations slots N) x) (HasName N x) (λ h. (h.0, linked_home slots N x (name h.0) h.1)) (λ h. (h.0, linked_there slots N x (name h.0) h.1))
      (equations_name S variables (pairs slots N) x)

  pub decided_agrees : IsDecided (Agrees N)
  decided_agrees =
      decided_by (Agrees (as_equations slots N)) (Agrees N) (λ h a b l. h a b (linked_there slots N (name a) (name b) l)) (λ h a b l. h a b (linked_home slots N (name a) (name b) l))
      (equations_agree S variables (pairs slots N))
