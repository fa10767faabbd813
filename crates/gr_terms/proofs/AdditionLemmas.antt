-- What one more assertion links, and when the longer network agrees.
use Rattle.std.specs.Prelude.{◌≡◌, ℕ, List, [], ◌∷◌, ◌++◌, ◌⊎◌, ◌↔◌}
use Rattle.std.proofs.Common.{inl, inr, sym, subst}
use Rattle.gr_base.specs.Lists.{IsAmong, IsWithin, Each}
use Rattle.gr_base.proofs.ListLemmas.{IsAmong-append_left, IsAmong-one_more, IsWithin-one_more, IsAmong-new_one, Each-at}
use Rattle.gr_terms.specs.Networks.{Term, name, Assertion, entry, equate, link, AreLinkedSlots, linked, same_slot, back_slot, next_slot, AreLinked, equated, shared, same, back, next, Agrees, HasValue, Follows}
use Rattle.gr_terms.specs.Interpretations.{Entails}
use Rattle.gr_terms.specs.Additions.{Joined, as_before, across, across_back, JoinedSlots, slots_before, slots_across, slots_back, LacksValue, ShareValues, EquatesValues, AreCompatible}
use Rattle.gr_terms.proofs.NetworkLemmas.{Entails-within, Entails-append, Entails-one, AreLinked-part, AreLinkedSlots-part, HasValue-part, Agrees-part, AreLinked-alike, AreLinkedSlots-alike, Agrees-alike, AreLinked-entailed, Agrees-entailed}

-- an assertion of another kind than the new one was there
module _ {V S : Type 0} (N : List (Assertion V S)) where
  link_before_equation : (x y : Term V) (s t : S) → IsAmong (N ++ equate x y ∷ []) (link s t) → IsAmong N (link s t)
  link_before_equation x y s t i = elim (IsAmong-one_more N (equate x y) (link s t) i) [ inl j ↦ j | inr p ↦ cc p ]

  entry_before_equation : (x y : Term V) (s : S) (a : ℕ) (z : Term V) → IsAmong (N ++ equate x y ∷ []) (entry s a z) → IsAmong N (entry s a z)
  entry_before_equation x y s a z i = elim (IsAmong-one_more N (equate x y) (entry s a z) i) [ inl j ↦ j | inr p ↦ cc p ]

  link_before_entry : (s : S) (a : ℕ) (x : Term V) (p q : S) → IsAmong (N ++ entry s a x ∷ []) (link p q) → IsAmong N (link p q)
  link_before_entry s a x p q i = elim (IsAmong-one_more N (entry s a x) (link p q) i) [ inl j ↦ j | inr e ↦ cc e ]

  equation_before_entry : (s : S) (a : ℕ) (x y z : Term V) → IsAmong (N ++ entry s a x ∷ []) (equate y z) → IsAmong N (equate y z)
  equation_before_entry s a x y z i = elim (IsAmong-one_more N (entry s a x) (equate y z) i) [ inl j ↦ j | inr e ↦ cc e ]

  entry_before_link : (s t p : S) (a : ℕ) (x : Term V) → IsAmong (N ++ link s t ∷ []) (entry p a x) → IsAmong N (entry p a x)
  entry_before_link s t p a x i = elim (IsAmong-one_more N (link s t) (entry p a x) i) [ inl j ↦ j | inr e ↦ cc e ]

  equation_before_link : (s t : S) (x y : Term V) → IsAmong (N ++ link s t ∷ []) (equate x y) → IsAmong N (equate x y)
  equation_before_link s t x y i = elim (IsAmong-one_more N (link s t) (equate x y) i) [ inl j ↦ j | inr e ↦ cc e ]

-- an assertion that follows already changes nothing
module _ {V S : Type 0} (N : List (Assertion V S)) (e : Assertion V S) (follows : Follows N e) where
  follows_already : Entails N (N ++ e ∷ [])
  follows_already = Entails-append N N (e ∷ []) (Entails-within N N (λ a i. i)) (Entails-one N e follows)

  pub AreLinked-follows : (x y : Term V) → AreLinked (N ++ e ∷ []) x y ↔ AreLinked N x y
  AreLinked-follows = AreLinked-alike (N ++ e ∷ []) N follows_already (Entails-within N (N ++ e ∷ []) (IsWithin-one_more N e))

  pub AreLinkedSlots-follows : (s t : S) → AreLinkedSlots (N ++ e ∷ []) s t ↔ AreLinkedSlots N s t
  AreLinkedSlots-follows = AreLinkedSlots-alike (N ++ e ∷ []) N follows_already (Entails-within N (N ++ e ∷ []) (IsWithin-one_more N e))

  pub Agrees-follows : Agrees (N ++ e ∷ []) ↔ Agrees N
  Agrees-follows = Agrees-alike (N ++ e ∷ []) N follows_already (Entails-within N (N ++ e ∷ []) (IsWithin-one_more N e))

-- joining two terms is an equivalence
module _ {V S : Type 0} (N : List (Assertion V S)) (x y : Term V) where
  pub Joined-next : (u v w : Term V) → Joined N x y u v → Joined N x y v w → Joined N x y u w
  Joined-next u v w (as_before h) (as_before k) = as_before (next _ _ _ h k)
  Joined-next u v w (as_before h) (across k l) = across (next _ _ _ h k) l
  Joined-next u v w (as_before h) (across_back k l) = across_back (next _ _ _ h k) l
  Joined-next u v w (across h k) (as_before l) = across h (next _ _ _ k l)
  Joined-next u v w (across h k) (across l m) = across h m
  Joined-next u v w (across h k) (across_back l m) = as_before (next _ _ _ h m)
  Joined-next u v w (across_back h k) (as_before l) = across_back h (next _ _ _ k l)
  Joined-next u v w (across_back h k) (across l m) = as_before (next _ _ _ h m)
  Joined-next u v w (across_back h k) (across_back l m) = across_back h m

  pub Joined-back : (u v : Term V) → Joined N x y u v → Joined N x y v u
  Joined-back u v (as_before h) = as_before (back _ _ h)
  Joined-back u v (across h k) = across_back (back _ _ k) (back _ _ h)
  Joined-back u v (across_back h k) = across (back _ _ k) (back _ _ h)

-- One more equation
module _ {V S : Type 0} (N : List (Assertion V S)) (x y : Term V) where
  new_equation : (u v : Term V) → ◌≡◌ {A = Assertion V S} (equate u v) (equate x y) → Joined N x y u v
  new_equation u v p =
      let left : u ≡ x = cc p in
      let right : v ≡ y = cc p in
      across (subst (λ z. AreLinked N u z) left (same u)) (subst (λ z. AreLinked N z v) right (same v))

  slots_equate : (s t : S) → AreLinkedSlots (N ++ equate x y ∷ []) s t → AreLinkedSlots N s t
  slots_equate _ _ (linked s t i) = linked s t (link_before_equation N x y s t i)
  slots_equate _ _ (same_slot s) = same_slot s
  slots_equate _ _ (back_slot s t h) = back_slot s t (slots_equate s t h)
  slots_equate _ _ (next_slot s t u h k) = next_slot s t u (slots_equate s t h) (slots_equate t u k)

  pub AreLinkedSlots-equate : (s t : S) → AreLinkedSlots (N ++ equate x y ∷ []) s t ↔ AreLinkedSlots N s t
  AreLinkedSlots-equate s t = (slots_equate s t, AreLinkedSlots-part N (N ++ equate x y ∷ []) (IsWithin-one_more N (equate x y)) s t)

  joined_equate : (u v : Term V) → AreLinked (N ++ equate x y ∷ []) u v → Joined N x y u v
  joined_equate _ _ (equated u v i) = elim (IsAmong-one_more N (equate x y) (equate u v) i) [ inl j ↦ as_before (equated u v j) | inr p ↦ new_equation u v p ]
  joined_equate _ _ (shared s t a u v l i j) = as_before (shared s t a u v (slots_equate s t l) (entry_before_equation N x y s a u i) (entry_before_equation N x y t a v j))
  joined_equate _ _ (same u) = as_before (same u)
  joined_equate _ _ (back u v h) = Joined-back N x y u v (joined_equate u v h)
  joined_equate _ _ (next u v w h k) = Joined-next N x y u v w (joined_equate u v h) (joined_equate v w k)

  kept : (u v : Term V) → AreLinked N u v → AreLinked (N ++ equate x y ∷ []) u v
  kept = AreLinked-part N (N ++ equate x y ∷ []) (IsWithin-one_more N (equate x y))

  new_link_of_terms : AreLinked (N ++ equate x y ∷ []) x y
  new_link_of_terms = equated x y (IsAmong-new_one N (equate x y))

  equate_joins : (u v : Term V) → Joined N x y u v → AreLinked (N ++ equate x y ∷ []) u v
  equate_joins u v (as_before h) = kept u v h
  equate_joins u v (across h k) = next _ _ _ (kept u x h) (next _ _ _ new_link_of_terms (kept y v k))
  equate_joins u v (across_back h k) = next _ _ _ (kept u y h) (next _ _ _ (back _ _ new_link_of_terms) (kept x v k))

  -- it joins its two sides
  pub AreLinked-equate : (u v : Term V) → AreLinked (N ++ equate x y ∷ []) u v ↔ Joined N x y u v
  AreLinked-equate u v = (joined_equate u v, equate_joins u v)

  apart_joined : Agrees N → AreCompatible N x y → (a b : ℕ) → Joined N x y (name a) (name b) → a ≡ b
  apart_joined agrees apart a b (as_before h) = agrees a b h
  apart_joined agrees apart a b (across h k) = apart a b (back _ _ h) k
  apart_joined agrees apart a b (across_back h k) = sym (apart b a k (back _ _ h))

  -- it agrees exactly where no two different names are linked with its two sides
  pub Agrees-equate : Agrees N → Agrees (N ++ equate x y ∷ []) ↔ AreCompatible N x y
  Agrees-equate agrees = (
    (λ whole a b h k. whole a b (next _ _ _ (back _ _ (kept x (name a) h)) (next _ _ _ new_link_of_terms (kept y (name b) k)))),
    (λ apart a b h. apart_joined agrees apart a b (joined_equate (name a) (name b) h)),
  )

-- One more entry
module _ {V S : Type 0} (N : List (Assertion V S)) (s : S) (a : ℕ) (x : Term V) where
  slots_entry : (p q : S) → AreLinkedSlots (N ++ entry s a x ∷ []) p q → AreLinkedSlots N p q
  slots_entry _ _ (linked p q i) = linked p q (link_before_entry N s a x p q i)
  slots_entry _ _ (same_slot p) = same_slot p
  slots_entry _ _ (back_slot p q h) = back_slot p q (slots_entry p q h)
  slots_entry _ _ (next_slot p q r h k) = next_slot p q r (slots_entry p q h) (slots_entry q r k)

  pub AreLinkedSlots-entry : (p q : S) → AreLinkedSlots (N ++ entry s a x ∷ []) p q ↔ AreLinkedSlots N p q
  AreLinkedSlots-entry p q = (slots_entry p q, AreLinkedSlots-part N (N ++ entry s a x ∷ []) (IsWithin-one_more N (entry s a x)) p q)

  -- at a slot that has a value y of the attribute already it follows from the equation with y, and that from it
  module _ (y : Term V) (has : HasValue N s a y) where
    equation_entails : Entails (N ++ equate x y ∷ []) (N ++ entry s a x ∷ [])
    equation_entails =
        Entails-append (N ++ equate x y ∷ []) N (entry s a x ∷ []) (Entails-within N (N ++ equate x y ∷ []) (IsWithin-one_more N (equate x y)))
        (Entails-one (N ++ equate x y ∷ []) (entry s a x)
        (y, HasValue-part N (N ++ equate x y ∷ []) (IsWithin-one_more N (equate x y)) s a y has, new_link_of_terms N x y))

    entry_entails : Entails (N ++ entry s a x ∷ []) (N ++ equate x y ∷ [])
    entry_entails =
        let old = HasValue-part N (N ++ entry s a x ∷ []) (IsWithin-one_more N (entry s a x)) s a y has in
        Entails-append (N ++ entry s a x ∷ []) N (equate x y ∷ []) (Entails-within N (N ++ entry s a x ∷ []) (IsWithin-one_more N (entry s a x)))
        (Entails-one (N ++ entry s a x ∷ []) (equate x y) (shared s old.0 a x y old.1 (IsAmong-new_one N (entry s a x)) old.2))

    entry_as_equation : (u v : Term V) → AreLinked (N ++ entry s a x ∷ []) u v ↔ AreLinked (N ++ equate x y ∷ []) u v
    entry_as_equation = AreLinked-alike (N ++ entry s a x ∷ []) (N ++ equate x y ∷ []) equation_entails entry_entails

    -- so it joins the two values
    pub AreLinked-entry : (u v : Term V) → AreLinked (N ++ entry s a x ∷ []) u v ↔ Joined N x y u v
    AreLinked-entry u v = (
      (λ h. joined_equate N x y u v ((entry_as_equation u v).0 h)),
      (λ h. (entry_as_equation u v).1 (equate_joins N x y u v h)),
    )

    pub Agrees-entry : Agrees N → Agrees (N ++ entry s a x ∷ []) ↔ AreCompatible N x y
    Agrees-entry agrees =
        let alike = Agrees-alike (N ++ entry s a x ∷ []) (N ++ equate x y ∷ []) equation_entails entry_entails in
        let by_equation = Agrees-equate N x y agrees in
        ((λ whole. by_equation.0 (alike.0 whole)), (λ apart. alike.1 (by_equation.1 apart)))

  -- at a slot that has no value of the attribute
  module _ (lacks : LacksValue N s a) where
    value_elsewhere : (p q : S) (b : ℕ) (y z : Term V) → AreLinkedSlots N p q
        → IsAmong N (entry p b y) → ◌≡◌ {A = Assertion V S} (entry q b z) (entry s a x) → ⊥
    value_elsewhere p q b y z l i e =
        let at : q ≡ s = cc e in
        let attribute : b ≡ a = cc e in
        lacks y (p, subst (λ t. AreLinkedSlots N t p) at (back_slot p q l), subst (λ c. IsAmong N (entry p c y)) attribute i)

    shared_entry : (p q : S) (b : ℕ) (y z : Term V) → AreLinkedSlots N p q
        → IsAmong N (entry p b y) ⊎ (◌≡◌ {A = Assertion V S} (entry p b y) (entry s a x)) → IsAmong N (entry q b z) ⊎ (◌≡◌ {A = Assertion V S} (entry q b z) (entry s a x)) → AreLinked N y z
    shared_entry p q b y z l (inl i) (inl j) = shared p q b y z l i j
    shared_entry p q b y z l (inl i) (inr e) = absurd (value_elsewhere p q b y z l i e)
    shared_entry p q b y z l (inr e) (inl j) = absurd (value_elsewhere q p b z y (back_slot p q l) j e)
    shared_entry p q b y z l (inr e) (inr d) = let values : y ≡ z = cc (e, d) in subst (λ w. AreLinked N y w) values (same y)

    links_entry : (y z : Term V) → AreLinked (N ++ entry s a x ∷ []) y z → AreLinked N y z
    links_entry _ _ (equated y z i) = equated y z (equation_before_entry N s a x y z i)
    links_entry _ _ (shared p q b y z l i j) = shared_entry p q b y z (slots_entry p q l) (IsAmong-one_more N (entry s a x) (entry p b y) i) (IsAmong-one_more N (entry s a x) (entry q b z) j)
    links_entry _ _ (same y) = same y
    links_entry _ _ (back y z h) = back y z (links_entry y z h)
    links_entry _ _ (next y z w h k) = next y z w (links_entry y z h) (links_entry z w k)

    -- it links nothing, so it agrees
    pub AreLinked-entry_new : (y z : Term V) → AreLinked (N ++ entry s a x ∷ []) y z ↔ AreLinked N y z
    AreLinked-entry_new y z = (links_entry y z, AreLinked-part N (N ++ entry s a x ∷ []) (IsWithin-one_more N (entry s a x)) y z)

    pub Agrees-entry_new : Agrees (N ++ entry s a x ∷ []) ↔ Agrees N
    Agrees-entry_new = (
      Agrees-part N (N ++ entry s a x ∷ []) (IsWithin-one_more N (entry s a x)),
      (λ agrees b c h. agrees b c (links_entry (name b) (name c) h)),
    )

-- joining two slots is an equivalence
module _ {V S : Type 0} (N : List (Assertion V S)) (s t : S) where
  pub JoinedSlots-next : (p q r : S) → JoinedSlots N s t p q → JoinedSlots N s t q r → JoinedSlots N s t p r
  JoinedSlots-next p q r (slots_before h) (slots_before k) = slots_before (next_slot _ _ _ h k)
  JoinedSlots-next p q r (slots_before h) (slots_across k l) = slots_across (next_slot _ _ _ h k) l
  JoinedSlots-next p q r (slots_before h) (slots_back k l) = slots_back (next_slot _ _ _ h k) l
  JoinedSlots-next p q r (slots_across h k) (slots_before l) = slots_across h (next_slot _ _ _ k l)
  JoinedSlots-next p q r (slots_across h k) (slots_across l m) = slots_across h m
  JoinedSlots-next p q r (slots_across h k) (slots_back l m) = slots_before (next_slot _ _ _ h m)
  JoinedSlots-next p q r (slots_back h k) (slots_before l) = slots_back h (next_slot _ _ _ k l)
  JoinedSlots-next p q r (slots_back h k) (slots_across l m) = slots_before (next_slot _ _ _ h m)
  JoinedSlots-next p q r (slots_back h k) (slots_back l m) = slots_back h m

  pub JoinedSlots-back : (p q : S) → JoinedSlots N s t p q → JoinedSlots N s t q p
  JoinedSlots-back p q (slots_before h) = slots_before (back_slot _ _ h)
  JoinedSlots-back p q (slots_across h k) = slots_back (back_slot _ _ k) (back_slot _ _ h)
  JoinedSlots-back p q (slots_back h k) = slots_across (back_slot _ _ k) (back_slot _ _ h)

-- One more link
module _ {V S : Type 0} (N : List (Assertion V S)) (s t : S) where
  new_link : (p q : S) → ◌≡◌ {A = Assertion V S} (link p q) (link s t) → JoinedSlots N s t p q
  new_link p q e =
      let left : p ≡ s = cc e in
      let right : q ≡ t = cc e in
      slots_across (subst (λ z. AreLinkedSlots N p z) left (same_slot p)) (subst (λ z. AreLinkedSlots N z q) right (same_slot q))

  joined_link : (p q : S) → AreLinkedSlots (N ++ link s t ∷ []) p q → JoinedSlots N s t p q
  joined_link _ _ (linked p q i) = elim (IsAmong-one_more N (link s t) (link p q) i) [ inl j ↦ slots_before (linked p q j) | inr e ↦ new_link p q e ]
  joined_link _ _ (same_slot p) = slots_before (same_slot p)
  joined_link _ _ (back_slot p q h) = JoinedSlots-back N s t p q (joined_link p q h)
  joined_link _ _ (next_slot p q r h k) = JoinedSlots-next N s t p q r (joined_link p q h) (joined_link q r k)

  kept_slots : (p q : S) → AreLinkedSlots N p q → AreLinkedSlots (N ++ link s t ∷ []) p q
  kept_slots = AreLinkedSlots-part N (N ++ link s t ∷ []) (IsWithin-one_more N (link s t))

  new_link_of_slots : AreLinkedSlots (N ++ link s t ∷ []) s t
  new_link_of_slots = linked s t (IsAmong-new_one N (link s t))

  link_joins : (p q : S) → JoinedSlots N s t p q → AreLinkedSlots (N ++ link s t ∷ []) p q
  link_joins p q (slots_before h) = kept_slots p q h
  link_joins p q (slots_across h k) = next_slot _ _ _ (kept_slots p s h) (next_slot _ _ _ new_link_of_slots (kept_slots t q k))
  link_joins p q (slots_back h k) = next_slot _ _ _ (kept_slots p t h) (next_slot _ _ _ (back_slot _ _ new_link_of_slots) (kept_slots s q k))

  -- it joins its two slots
  pub AreLinkedSlots-link : (p q : S) → AreLinkedSlots (N ++ link s t ∷ []) p q ↔ JoinedSlots N s t p q
  AreLinkedSlots-link p q = (joined_link p q, link_joins p q)

  -- it links the values that the two slots have of one attribute
  pub link-values : (a : ℕ) (x y : Term V) → HasValue N s a x → HasValue N t a y → AreLinked (N ++ link s t ∷ []) x y
  link-values a x y h k =
      let within = IsWithin-one_more N (link s t) in
      shared h.0 k.0 a x y
      (next_slot _ _ _ (back_slot _ _ (kept_slots s h.0 h.1)) (next_slot _ _ _ new_link_of_slots (kept_slots t k.0 k.1)))
      (within (entry h.0 a x) h.2) (within (entry k.0 a y) k.2)

  shared_link : (p q : S) (a : ℕ) (x y : Term V) → ShareValues N s t → JoinedSlots N s t p q → IsAmong N (entry p a x) → IsAmong N (entry q a y) → AreLinked N x y
  shared_link p q a x y values (slots_before h) i j = shared p q a x y h i j
  shared_link p q a x y values (slots_across h k) i j = values a x y (p, back_slot _ _ h, i) (q, k, j)
  shared_link p q a x y values (slots_back h k) i j = back _ _ (values a y x (q, k, j) (p, back_slot _ _ h, i))

  -- where their values are linked already, it links no more terms, so it agrees
  module _ (values : ShareValues N s t) where
    links_link : (x y : Term V) → AreLinked (N ++ link s t ∷ []) x y → AreLinked N x y
    links_link _ _ (equated x y i) = equated x y (equation_before_link N s t x y i)
    links_link _ _ (shared p q a x y l i j) = shared_link p q a x y values (joined_link p q l) (entry_before_link N s t p a x i) (entry_before_link N s t q a y j)
    links_link _ _ (same x) = same x
    links_link _ _ (back x y h) = back x y (links_link x y h)
    links_link _ _ (next x y z h k) = next x y z (links_link x y h) (links_link y z k)

    pub AreLinked-link : (x y : Term V) → AreLinked (N ++ link s t ∷ []) x y ↔ AreLinked N x y
    AreLinked-link x y = (links_link x y, AreLinked-part N (N ++ link s t ∷ []) (IsWithin-one_more N (link s t)) x y)

    pub Agrees-link : Agrees (N ++ link s t ∷ []) ↔ Agrees N
    Agrees-link = (Agrees-part N (N ++ link s t ∷ []) (IsWithin-one_more N (link s t)), (λ agrees a b h. agrees a b (links_link (name a) (name b) h)))

-- A link does to terms what equations of shared values do, once all of these are linked
module _ {V S : Type 0} (N E : List (Assertion V S)) (s t : S) (equations : Each (EquatesValues N s t) E) (values : ShareValues (N ++ E) s t) where
  equation_follows : (e : Assertion V S) → EquatesValues N s t e → Follows (N ++ link s t ∷ []) e
  equation_follows e is = subst (λ b. Follows (N ++ link s t ∷ []) b) (sym is.3) (link-values N s t is.0 is.1 is.2 is.4 is.5)

  link_entails : Entails (N ++ link s t ∷ []) (N ++ E)
  link_entails =
      Entails-append (N ++ link s t ∷ []) N E (Entails-within N (N ++ link s t ∷ []) (IsWithin-one_more N (link s t)))
      (λ e i. equation_follows e (Each-at (EquatesValues N s t) E e equations i))

  link_within : IsWithin (N ++ link s t ∷ []) ((N ++ E) ++ link s t ∷ [])
  link_within a i = elim (IsAmong-one_more N (link s t) a i) [
    | inl j ↦ IsWithin-one_more (N ++ E) (link s t) a (IsAmong-append_left N E a j)
    | inr p ↦ subst (λ b. IsAmong ((N ++ E) ++ link s t ∷ []) b) (sym p) (IsAmong-new_one (N ++ E) (link s t))
  ]

  links_equations : (x y : Term V) → AreLinked (N ++ link s t ∷ []) x y → AreLinked (N ++ E) x y
  links_equations x y h = links_link (N ++ E) s t values x y (AreLinked-part (N ++ link s t ∷ []) ((N ++ E) ++ link s t ∷ []) link_within x y h)

  pub AreLinked-link_equations : (x y : Term V) → AreLinked (N ++ link s t ∷ []) x y ↔ AreLinked (N ++ E) x y
  AreLinked-link_equations x y = (links_equations x y, AreLinked-entailed (N ++ link s t ∷ []) (N ++ E) link_entails x y)

  pub Agrees-link_equations : Agrees (N ++ link s t ∷ []) ↔ Agrees (N ++ E)
  Agrees-link_equations = (Agrees-entailed (N ++ link s t ∷ []) (N ++ E) link_entails, (λ agrees a b h. agrees a b (links_equations (name a) (name b) h)))

-- The values that a slot has with one more assertion
module _ {V S : Type 0} (N : List (Assertion V S)) (p : S) (b : ℕ) (z : Term V) where
  pub HasValue-equate : (x y : Term V) → HasValue (N ++ equate x y ∷ []) p b z ↔ HasValue N p b z
  HasValue-equate x y = (
    (λ has. (has.0, slots_equate N x y p has.0 has.1, entry_before_equation N x y has.0 b z has.2)),
    HasValue-part N (N ++ equate x y ∷ []) (IsWithin-one_more N (equate x y)) p b z,
  )

  pub HasValue-entry : (s : S) (a : ℕ) (x : Term V) → HasValue (N ++ entry s a x ∷ []) p b z ↔ (HasValue N p b z ⊎ (AreLinkedSlots N p s × (b ≡ a) × (z ≡ x)))
  HasValue-entry s a x = (there, home)
    where
      there : HasValue (N ++ entry s a x ∷ []) p b z → HasValue N p b z ⊎ (AreLinkedSlots N p s × (b ≡ a) × (z ≡ x))
      there has = elim (IsAmong-one_more N (entry s a x) (entry has.0 b z) has.2) [
        | inl j ↦ inl (has.0, slots_entry N s a x p has.0 has.1, j)
        | inr e ↦
            let at : has.0 ≡ s = cc e in
            let attribute : b ≡ a = cc e in
            let value : z ≡ x = cc e in
            inr (subst (λ t. AreLinkedSlots N p t) at (slots_entry N s a x p has.0 has.1), attribute, value)
      ]

      home : HasValue N p b z ⊎ (AreLinkedSlots N p s × (b ≡ a) × (z ≡ x)) → HasValue (N ++ entry s a x ∷ []) p b z
      home (inl has) = HasValue-part N (N ++ entry s a x ∷ []) (IsWithin-one_more N (entry s a x)) p b z has
      home (inr new) = (
        s,
        AreLinkedSlots-part N (N ++ entry s a x ∷ []) (IsWithin-one_more N (entry s a x)) p s new.0,
        subst (λ c. IsAmong (N ++ entry s a x ∷ []) (entry s c z)) (sym new.1) (subst (λ w. IsAmong (N ++ entry s a x ∷ []) (entry s a w)) (sym new.2) (IsAmong-new_one N (entry s a x))),
      )

  pub HasValue-link : (s t : S) → HasValue (N ++ link s t ∷ []) p b z ↔ (HasValue N p b z ⊎ ((AreLinkedSlots N p s × HasValue N t b z) ⊎ (AreLinkedSlots N p t × HasValue N s b z)))
  HasValue-link s t = (there, home)
    where
      across_there : (q : S) → JoinedSlots N s t p q → IsAmong N (entry q b z) → HasValue N p b z ⊎ ((AreLinkedSlots N p s × HasValue N t b z) ⊎ (AreLinkedSlots N p t × HasValue N s b z))
      across_there q (slots_before h) i = inl (q, h, i)
      across_there q (slots_across h k) i = inr (inl (h, (q, k, i)))
      across_there q (slots_back h k) i = inr (inr (h, (q, k, i)))

      there : HasValue (N ++ link s t ∷ []) p b z → HasValue N p b z ⊎ ((AreLinkedSlots N p s × HasValue N t b z) ⊎ (AreLinkedSlots N p t × HasValue N s b z))
      there has = across_there has.0 (joined_link N s t p has.0 has.1) (entry_before_link N s t has.0 b z has.2)

      kept_entry : (q : S) → IsAmong N (entry q b z) → IsAmong (N ++ link s t ∷ []) (entry q b z)
      kept_entry q i = IsWithin-one_more N (link s t) (entry q b z) i

      home : HasValue N p b z ⊎ ((AreLinkedSlots N p s × HasValue N t b z) ⊎ (AreLinkedSlots N p t × HasValue N s b z)) → HasValue (N ++ link s t ∷ []) p b z
      home (inl has) = (has.0, kept_slots N s t p has.0 has.1, kept_entry has.0 has.2)
      home (inr (inl h)) = (h.1.0, link_joins N s t p h.1.0 (slots_across h.0 h.1.1), kept_entry h.1.0 h.1.2)
      home (inr (inr h)) = (h.1.0, link_joins N s t p h.1.0 (slots_back h.0 h.1.1), kept_entry h.1.0 h.1.2)
