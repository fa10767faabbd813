-- Interpretations, parts, renaming, equivalence and labellings of networks.
use Rattle.std.specs.Prelude.{◌≡◌, ℕ, List, [], ◌∷◌, ◌++◌, ◌↔◌, refl}
use Rattle.std.proofs.Common.{inl, inr, ap, ap₂, sym, ◌∙◌, subst}
use Rattle.gr_base.specs.Lists.{IsAmong, IsWithin}
use Rattle.gr_base.proofs.ListLemmas.{IsAmong-map, IsAmong-map_from, IsAmong-append, IsAmong-append_left, IsAmong-append_right}
use Rattle.gr_terms.specs.Networks.{Term, name, variable, Assertion, entry, equate, link, AreLinkedSlots, linked, same_slot, back_slot, next_slot, AreLinked, equated, shared, same, back, next, Agrees, HasValue, put_term, put_assertion, put_network, Follows}
use Rattle.gr_terms.specs.Interpretations.{Interprets, Entails, AreEquivalent, Labels}

-- what follows from a network goes with an interpretation
module _ {V W S R : Type 0} (f : V → Term W) (g : S → R) (M : List (Assertion V S)) (N : List (Assertion W R)) (by : Interprets f g M N) where
  pub AreLinkedSlots-put : (s t : S) → AreLinkedSlots M s t → AreLinkedSlots N (g s) (g t)
  AreLinkedSlots-put _ _ (linked s t i) = by (link s t) i
  AreLinkedSlots-put _ _ (same_slot s) = same_slot (g s)
  AreLinkedSlots-put _ _ (back_slot s t h) = back_slot (g s) (g t) (AreLinkedSlots-put s t h)
  AreLinkedSlots-put _ _ (next_slot s t u h k) = next_slot (g s) (g t) (g u) (AreLinkedSlots-put s t h) (AreLinkedSlots-put t u k)

  pub AreLinked-put : (x y : Term V) → AreLinked M x y → AreLinked N (put_term f x) (put_term f y)
  AreLinked-put _ _ (equated x y i) = by (equate x y) i
  AreLinked-put _ _ (shared s t a x y l i j) =
      let p = by (entry s a x) i in
      let q = by (entry t a y) j in
      next _ _ _ p.2 (next _ _ _ (shared p.1.0 q.1.0 a p.0 q.0 (next_slot _ _ _ (back_slot _ _ p.1.1) (next_slot _ _ _ (AreLinkedSlots-put s t l) q.1.1)) p.1.2 q.1.2) (back _ _ q.2))
  AreLinked-put _ _ (same x) = same (put_term f x)
  AreLinked-put _ _ (back x y h) = back _ _ (AreLinked-put x y h)
  AreLinked-put _ _ (next x y z h k) = next _ _ _ (AreLinked-put x y h) (AreLinked-put y z k)

  -- a value goes to what is linked with a value
  pub HasValue-put : (s : S) (a : ℕ) (x : Term V) → HasValue M s a x → Follows N (entry (g s) a (put_term f x))
  HasValue-put s a x has =
      let p = by (entry has.0 a x) has.2 in
      (p.0, (p.1.0, next_slot _ _ _ (AreLinkedSlots-put s has.0 has.1) p.1.1, p.1.2), p.2)

  pub Follows-put : (e : Assertion V S) → Follows M e → Follows N (put_assertion f g e)
  Follows-put (entry s a x) h =
      let p = HasValue-put s a h.0 h.1 in
      (p.0, p.1, next _ _ _ (AreLinked-put x h.0 h.2) p.2)
  Follows-put (equate x y) h = AreLinked-put x y h
  Follows-put (link s t) h = AreLinkedSlots-put s t h

  -- a network that is interpreted in an agreeing one agrees
  pub Agrees-from : Agrees N → Agrees M
  Agrees-from agrees a b h = agrees a b (AreLinked-put (name a) (name b) h)

-- an assertion of a network follows from it
pub Follows-among : {V S : Type 0} (N : List (Assertion V S)) (a : Assertion V S) → IsAmong N a → Follows N a
Follows-among N (entry s a x) i = (x, (s, same_slot s, i), same x)
Follows-among N (equate x y) i = equated x y i
Follows-among N (link s t) i = linked s t i

-- maps one after another
pub put_term-put : {V W U : Type 0} (f : V → Term W) (h : W → Term U) (x : Term V) → put_term h (put_term f x) ≡ put_term (λ v. put_term h (f v)) x
put_term-put f h (name a) = refl
put_term-put f h (variable v) = refl

pub put_assertion-put : {V W U S R Q : Type 0} (f : V → Term W) (g : S → R) (h : W → Term U) (k : R → Q) (a : Assertion V S)
    → put_assertion h k (put_assertion f g a) ≡ put_assertion (λ v. put_term h (f v)) (λ s. k (g s)) a
put_assertion-put f g h k (entry s a x) = ap (λ y. entry (k (g s)) a y) (put_term-put f h x)
put_assertion-put f g h k (equate x y) = ap₂ equate (put_term-put f h x) (put_term-put f h y)
put_assertion-put f g h k (link s t) = refl

-- maps that change nothing
pub put_term-same : {V : Type 0} (f : V → Term V) (x : Term V) → ((v : V) → f v ≡ variable v) → put_term f x ≡ x
put_term-same f (name a) same_variable = refl
put_term-same f (variable v) same_variable = same_variable v

pub put_assertion-same : {V S : Type 0} (f : V → Term V) (g : S → S) (a : Assertion V S) → ((v : V) → f v ≡ variable v) → ((s : S) → g s ≡ s) → put_assertion f g a ≡ a
put_assertion-same f g (entry s a x) same_variable slot_same = ap₂ (λ t y. entry t a y) (slot_same s) (put_term-same f x same_variable)
put_assertion-same f g (equate x y) same_variable slot_same = ap₂ equate (put_term-same f x same_variable) (put_term-same f y same_variable)
put_assertion-same f g (link s t) same_variable slot_same = ap₂ link (slot_same s) (slot_same t)

pub put_assertion-variable : {V S : Type 0} (a : Assertion V S) → put_assertion variable (λ s. s) a ≡ a
put_assertion-variable a = put_assertion-same variable (λ s. s) a (λ v. refl) (λ s. refl)

-- interpretations one after another
pub Interprets-then : {V W U S R Q : Type 0} (f : V → Term W) (g : S → R) (h : W → Term U) (k : R → Q) (M : List (Assertion V S)) (N : List (Assertion W R)) (K : List (Assertion U Q))
    → Interprets f g M N → Interprets h k N K → Interprets (λ v. put_term h (f v)) (λ s. k (g s)) M K
Interprets-then f g h k M N K first second a i = subst (λ b. Follows K b) (put_assertion-put f g h k a) (Follows-put h k N K second (put_assertion f g a) (first a i))

-- what follows from a network that follows from N, follows from N
module _ {V S : Type 0} (N M : List (Assertion V S)) (entails : Entails N M) where
  pub Interprets-entailed : Interprets variable (λ s. s) M N
  Interprets-entailed a i = subst (λ b. Follows N b) (sym (put_assertion-variable a)) (entails a i)

  pub Follows-entailed : (e : Assertion V S) → Follows M e → Follows N e
  Follows-entailed e h = subst (λ b. Follows N b) (put_assertion-variable e) (Follows-put variable (λ s. s) M N Interprets-entailed e h)

  pub AreLinked-entailed : (x y : Term V) → AreLinked M x y → AreLinked N x y
  AreLinked-entailed x y = Follows-entailed (equate x y)

  pub AreLinkedSlots-entailed : (s t : S) → AreLinkedSlots M s t → AreLinkedSlots N s t
  AreLinkedSlots-entailed s t = Follows-entailed (link s t)

  pub Agrees-entailed : Agrees N → Agrees M
  Agrees-entailed = Agrees-from variable (λ s. s) M N Interprets-entailed

pub Entails-trans : {V S : Type 0} (K N M : List (Assertion V S)) → Entails K N → Entails N M → Entails K M
Entails-trans K N M first second a i = Follows-entailed K N first a (second a i)

pub Entails-append : {V S : Type 0} (K N M : List (Assertion V S)) → Entails K N → Entails K M → Entails K (N ++ M)
Entails-append K N M first second a i = elim (IsAmong-append N M a i) [ inl j ↦ first a j | inr j ↦ second a j ]

pub Entails-one : {V S : Type 0} (N : List (Assertion V S)) (e : Assertion V S) → Follows N e → Entails N (e ∷ [])
Entails-one N e follows a (inl p) = subst (λ b. Follows N b) (sym p) follows
Entails-one N e follows a (inr i) = absurd i

-- A part follows from the whole. Order and repetition do not matter, since they do not matter to `IsWithin`
pub Entails-within : {V S : Type 0} (M N : List (Assertion V S)) → IsWithin M N → Entails N M
Entails-within M N within a i = Follows-among N a (within a i)

module _ {V S : Type 0} (M N : List (Assertion V S)) (within : IsWithin M N) where
  pub AreLinked-part : (x y : Term V) → AreLinked M x y → AreLinked N x y
  AreLinked-part = AreLinked-entailed N M (Entails-within M N within)

  pub AreLinkedSlots-part : (s t : S) → AreLinkedSlots M s t → AreLinkedSlots N s t
  AreLinkedSlots-part = AreLinkedSlots-entailed N M (Entails-within M N within)

  pub HasValue-part : (s : S) (a : ℕ) (x : Term V) → HasValue M s a x → HasValue N s a x
  HasValue-part s a x has = (has.0, AreLinkedSlots-part s has.0 has.1, within (entry has.0 a x) has.2)

  pub Follows-part : (e : Assertion V S) → Follows M e → Follows N e
  Follows-part = Follows-entailed N M (Entails-within M N within)

  pub Agrees-part : Agrees N → Agrees M
  Agrees-part = Agrees-entailed N M (Entails-within M N within)

-- networks that follow from each other link and agree alike
module _ {V S : Type 0} (M N : List (Assertion V S)) (there : Entails N M) (home : Entails M N) where
  pub AreLinked-alike : (x y : Term V) → AreLinked M x y ↔ AreLinked N x y
  AreLinked-alike x y = (AreLinked-entailed N M there x y, AreLinked-entailed M N home x y)

  pub AreLinkedSlots-alike : (s t : S) → AreLinkedSlots M s t ↔ AreLinkedSlots N s t
  AreLinkedSlots-alike s t = (AreLinkedSlots-entailed N M there s t, AreLinkedSlots-entailed M N home s t)

  pub Agrees-alike : Agrees M ↔ Agrees N
  Agrees-alike = (Agrees-entailed M N home, Agrees-entailed N M there)

-- maps that move terms and slots along links send what follows to what follows
module _ {V S : Type 0} (N : List (Assertion V S)) (f : V → Term V) (g : S → S) (terms : (x : Term V) → AreLinked N x (put_term f x)) (slots : (s : S) → AreLinkedSlots N s (g s)) where
  pub Follows-round : (e : Assertion V S) → Follows N e → Follows N (put_assertion f g e)
  Follows-round (entry s a x) h = (h.0, (h.1.0, next_slot _ _ _ (back_slot _ _ (slots s)) h.1.1, h.1.2), next _ _ _ (back _ _ (terms x)) h.2)
  Follows-round (equate x y) h = next _ _ _ (back _ _ (terms x)) (next _ _ _ h (terms y))
  Follows-round (link s t) h = next_slot _ _ _ (back_slot _ _ (slots s)) (next_slot _ _ _ h (slots t))

-- a network is interpreted in what is made of it by any terms and slots
pub Interprets-put : {V W S R : Type 0} (f : V → Term W) (g : S → R) (M : List (Assertion V S)) → Interprets f g M (put_network f g M)
Interprets-put f g M a i = Follows-among (put_network f g M) (put_assertion f g a) (IsAmong-map (put_assertion f g) M a i)

-- so where a network with terms and slots put in agrees, it agrees
pub Agrees-put_from : {V W S R : Type 0} (f : V → Term W) (g : S → R) (M : List (Assertion V S)) → Agrees (put_network f g M) → Agrees M
Agrees-put_from f g M = Agrees-from f g M (put_network f g M) (Interprets-put f g M)

-- Renaming with a way back up to links changes nothing.
-- A derivation's variables are pairs of a way and a number, and the number is the way back
module _ {V W S R : Type 0} (f : V → Term W) (g : S → R) (h : W → Term V) (k : R → S) (M : List (Assertion V S))
    (terms : (x : Term V) → AreLinked M x (put_term h (put_term f x))) (slots : (s : S) → AreLinkedSlots M s (k (g s))) where
  round_term : (x : Term V) → AreLinked M x (put_term (λ v. put_term h (f v)) x)
  round_term x = subst (λ y. AreLinked M x y) (put_term-put f h x) (terms x)

  pub Interprets-back : Interprets h k (put_network f g M) M
  Interprets-back b i =
      let r = IsAmong-map_from (put_assertion f g) M b i in
      subst (λ c. Follows M c) (sym (ap (put_assertion h k) r.2 ∙ put_assertion-put f g h k r.0))
      (Follows-round M (λ v. put_term h (f v)) (λ s. k (g s)) round_term slots r.0 (Follows-among M r.0 r.1))

  pub AreLinked-renamed : (x y : Term V) → AreLinked (put_network f g M) (put_term f x) (put_term f y) ↔ AreLinked M x y
  AreLinked-renamed x y = (
    (λ l. next _ _ _ (terms x) (next _ _ _ (AreLinked-put h k (put_network f g M) M Interprets-back (put_term f x) (put_term f y) l) (back _ _ (terms y)))),
    (λ l. AreLinked-put f g M (put_network f g M) (Interprets-put f g M) x y l),
  )

  pub AreLinkedSlots-renamed : (s t : S) → AreLinkedSlots (put_network f g M) (g s) (g t) ↔ AreLinkedSlots M s t
  AreLinkedSlots-renamed s t = (
    (λ l. next_slot _ _ _ (slots s) (next_slot _ _ _ (AreLinkedSlots-put h k (put_network f g M) M Interprets-back (g s) (g t) l) (back_slot _ _ (slots t)))),
    (λ l. AreLinkedSlots-put f g M (put_network f g M) (Interprets-put f g M) s t l),
  )

  pub Agrees-renamed : Agrees (put_network f g M) ↔ Agrees M
  Agrees-renamed = (Agrees-put_from f g M, Agrees-from h k (put_network f g M) M Interprets-back)

-- a way back gives each term and each slot up to links
pub linked_back : {V W S : Type 0} (f : V → Term W) (h : W → Term V) (M : List (Assertion V S)) → ((v : V) → put_term h (f v) ≡ variable v) → (x : Term V) → AreLinked M x (put_term h (put_term f x))
linked_back f h M back_variable (name a) = same (name a)
linked_back f h M back_variable (variable v) = subst (λ y. AreLinked M (variable v) y) (sym (back_variable v)) (same (variable v))

pub linked_slot_back : {V S R : Type 0} (g : S → R) (k : R → S) (M : List (Assertion V S)) → ((s : S) → k (g s) ≡ s) → (s : S) → AreLinkedSlots M s (k (g s))
linked_slot_back g k M back_same s = subst (λ t. AreLinkedSlots M s t) (sym (back_same s)) (same_slot s)

-- equivalent networks link the same terms and slots, and agree together
pub AreEquivalent-sym : {V W S R : Type 0} (N : List (Assertion V S)) (M : List (Assertion W R)) → AreEquivalent N M → AreEquivalent M N
AreEquivalent-sym N M e = record {
  forth = e.back_again;
  forth_slot = e.back_slot_again;
  back_again = e.forth;
  back_slot_again = e.forth_slot;
  there = e.home;
  home = e.there;
  round = e.other_round;
  round_slot = e.other_round_slot;
  other_round = e.round;
  other_round_slot = e.round_slot;
}

-- networks that follow from each other are equivalent as they stand
pub AreEquivalent-alike : {V S : Type 0} (N M : List (Assertion V S)) → Entails M N → Entails N M → AreEquivalent N M
AreEquivalent-alike N M there home = record {
  forth = variable;
  forth_slot = λ s. s;
  back_again = variable;
  back_slot_again = λ s. s;
  there = Interprets-entailed M N there;
  home = Interprets-entailed N M home;
  round = linked_back variable variable N (λ v. refl);
  round_slot = same_slot;
  other_round = linked_back variable variable M (λ v. refl);
  other_round_slot = same_slot;
}

module _ {V W S R : Type 0} (N : List (Assertion V S)) (M : List (Assertion W R)) (e : AreEquivalent N M) where
  pub AreLinked-equivalent : (x y : Term V) → AreLinked M (put_term e.forth x) (put_term e.forth y) ↔ AreLinked N x y
  AreLinked-equivalent x y = (
    (λ l. next _ _ _ (e.round x) (next _ _ _ (AreLinked-put e.back_again e.back_slot_again M N e.home _ _ l) (back _ _ (e.round y)))),
    (λ l. AreLinked-put e.forth e.forth_slot N M e.there x y l),
  )

  pub AreLinkedSlots-equivalent : (s t : S) → AreLinkedSlots M (e.forth_slot s) (e.forth_slot t) ↔ AreLinkedSlots N s t
  AreLinkedSlots-equivalent s t = (
    (λ l. next_slot _ _ _ (e.round_slot s) (next_slot _ _ _ (AreLinkedSlots-put e.back_again e.back_slot_again M N e.home _ _ l) (back_slot _ _ (e.round_slot t)))),
    (λ l. AreLinkedSlots-put e.forth e.forth_slot N M e.there s t l),
  )

  pub Agrees-equivalent : Agrees M ↔ Agrees N
  Agrees-equivalent = (Agrees-from e.forth e.forth_slot N M e.there, Agrees-from e.back_again e.back_slot_again M N e.home)

-- linked terms have equal labels; so where different names have different labels, the network agrees
module _ {V S P L : Type 0} (N : List (Assertion V S)) (f : Labels P L N) where
  pub label-linked_slots : (s t : S) → AreLinkedSlots N s t → f.place s ≡ f.place t
  label-linked_slots _ _ (linked s t i) = f.linked_places s t i
  label-linked_slots _ _ (same_slot s) = refl
  label-linked_slots _ _ (back_slot s t h) = sym (label-linked_slots s t h)
  label-linked_slots _ _ (next_slot s t u h k) = label-linked_slots s t h ∙ label-linked_slots t u k

  pub label-linked : (x y : Term V) → AreLinked N x y → f.label x ≡ f.label y
  label-linked _ _ (equated x y i) = f.equal x y i
  label-linked _ _ (shared s t a x y l i j) = f.entries s a x i ∙ (ap (λ p. f.value p a) (label-linked_slots s t l) ∙ sym (f.entries t a y j))
  label-linked _ _ (same x) = refl
  label-linked _ _ (back x y h) = sym (label-linked x y h)
  label-linked _ _ (next x y z h k) = label-linked x y h ∙ label-linked y z k

  pub Agrees-labels : ((a b : ℕ) → f.label (name a) ≡ f.label (name b) → a ≡ b) → Agrees N
  Agrees-labels apart a b h = apart a b (label-linked (name a) (name b) h)

-- assertions added on both sides keep an equivalence
module _ {V W S R : Type 0} (N : List (Assertion V S)) (M : List (Assertion W R)) (e : AreEquivalent N M) (L : List (Assertion V S)) where
  there_added : Interprets e.forth e.forth_slot (N ++ L) (M ++ put_network e.forth e.forth_slot L)
  there_added a i = elim (IsAmong-append N L a i) [
    | inl j ↦ Follows-part M (M ++ put_network e.forth e.forth_slot L) (λ b k. IsAmong-append_left M (put_network e.forth e.forth_slot L) b k) (put_assertion e.forth e.forth_slot a) (e.there a j)
    | inr j ↦
        Follows-among (M ++ put_network e.forth e.forth_slot L) (put_assertion e.forth e.forth_slot a)
        (IsAmong-append_right M (put_network e.forth e.forth_slot L) (put_assertion e.forth e.forth_slot a) (IsAmong-map (put_assertion e.forth e.forth_slot) L a j))
  ]

  old_terms : (x y : Term V) → AreLinked N x y → AreLinked (N ++ L) x y
  old_terms = AreLinked-part N (N ++ L) (λ b k. IsAmong-append_left N L b k)

  old_slots : (s t : S) → AreLinkedSlots N s t → AreLinkedSlots (N ++ L) s t
  old_slots = AreLinkedSlots-part N (N ++ L) (λ b k. IsAmong-append_left N L b k)

  home_added : Interprets e.back_again e.back_slot_again (M ++ put_network e.forth e.forth_slot L) (N ++ L)
  home_added b i = elim (IsAmong-append M (put_network e.forth e.forth_slot L) b i) [
    | inl j ↦ Follows-part N (N ++ L) (λ c k. IsAmong-append_left N L c k) (put_assertion e.back_again e.back_slot_again b) (e.home b j)
    | inr j ↦
        let r = IsAmong-map_from (put_assertion e.forth e.forth_slot) L b j in
        subst (λ c. Follows (N ++ L) c) (sym (ap (put_assertion e.back_again e.back_slot_again) r.2 ∙ put_assertion-put e.forth e.forth_slot e.back_again e.back_slot_again r.0))
        (Follows-round (N ++ L) (λ v. put_term e.back_again (e.forth v)) (λ s. e.back_slot_again (e.forth_slot s))
        (λ x. subst (λ y. AreLinked (N ++ L) x y) (put_term-put e.forth e.back_again x) (old_terms _ _ (e.round x)))
        (λ s. old_slots _ _ (e.round_slot s)) r.0
        (Follows-among (N ++ L) r.0 (IsAmong-append_right N L r.0 r.1)))
  ]

  pub AreEquivalent-append : AreEquivalent (N ++ L) (M ++ put_network e.forth e.forth_slot L)
  AreEquivalent-append = record {
    forth = e.forth;
    forth_slot = e.forth_slot;
    back_again = e.back_again;
    back_slot_again = e.back_slot_again;
    there = there_added;
    home = home_added;
    round = λ x. old_terms _ _ (e.round x);
    round_slot = λ s. old_slots _ _ (e.round_slot s);
    other_round = λ y. AreLinked-part M (M ++ put_network e.forth e.forth_slot L) (λ b k. IsAmong-append_left M (put_network e.forth e.forth_slot L) b k) _ _ (e.other_round y);
    other_round_slot = λ r. AreLinkedSlots-part M (M ++ put_network e.forth e.forth_slot L) (λ b k. IsAmong-append_left M (put_network e.forth e.forth_slot L) b k) _ _ (e.other_round_slot r);
  }
