-- Networks: flat feature structures as lists of assertions over slots and terms.
-- V is the type of variables and S that of slots: numbers in a store, and numbers with a path in a derivation.
use Rattle.std.specs.Prelude.{◌≡◌, ℕ, List, map}
use Rattle.gr_base.specs.Lists.{IsAmong}

-- a name, by its symbol's number, or a variable
pub data Term (V : Type 0) : Type 0 where
  name : ℕ → Term V
  variable : V → Term V

-- the slot has this attribute with this value; two terms are equal; two slots share their entries
pub data Assertion (V S : Type 0) : Type 0 where
  entry : S → ℕ → Term V → Assertion V S
  equate : Term V → Term V → Assertion V S
  link : S → S → Assertion V S

abbrev pub Network : Type 0 → Type 0 → Type 0
Network V S = List (Assertion V S)

-- the least equivalence of slots that has each pair of a `link`
pub data AreLinkedSlots {V S : Type 0} (N : List (Assertion V S)) : S → S → Type 0 where
  linked : (s t : S) → IsAmong N (link s t) → AreLinkedSlots N s t
  same_slot : (s : S) → AreLinkedSlots N s s
  back_slot : (s t : S) → AreLinkedSlots N s t → AreLinkedSlots N t s
  next_slot : (s t u : S) → AreLinkedSlots N s t → AreLinkedSlots N t u → AreLinkedSlots N s u

-- the least equivalence of terms that has each pair of an `equate`,
-- and the values of any two entries of one attribute at linked slots
pub data AreLinked {V S : Type 0} (N : List (Assertion V S)) : Term V → Term V → Type 0 where
  equated : (x y : Term V) → IsAmong N (equate x y) → AreLinked N x y
  shared : (s t : S) (a : ℕ) (x y : Term V) → AreLinkedSlots N s t → IsAmong N (entry s a x) → IsAmong N (entry t a y) → AreLinked N x y
  same : (x : Term V) → AreLinked N x x
  back : (x y : Term V) → AreLinked N x y → AreLinked N y x
  next : (x y z : Term V) → AreLinked N x y → AreLinked N y z → AreLinked N x z

-- no two different names are linked
abbrev pub Agrees : {V S : Type 0} → List (Assertion V S) → Type 0
Agrees N = (a b : ℕ) → AreLinked N (name a) (name b) → a ≡ b

-- x is a value of the attribute at some slot linked with s
abbrev pub HasValue : {V S : Type 0} → List (Assertion V S) → S → ℕ → Term V → Type 0
HasValue {V} {S} N s a x = (t : S) × AreLinkedSlots N s t × IsAmong N (entry t a x)

-- a term, an assertion and a network with f for each variable and g for each slot
abbrev pub put_term : {V W : Type 0} → (V → Term W) → Term V → Term W
put_term f (name a) = name a
put_term f (variable v) = f v

abbrev pub put_assertion : {V W S R : Type 0} → (V → Term W) → (S → R) → Assertion V S → Assertion W R
put_assertion f g (entry s a x) = entry (g s) a (put_term f x)
put_assertion f g (equate x y) = equate (put_term f x) (put_term f y)
put_assertion f g (link s t) = link (g s) (g t)

abbrev pub put_network : {V W S R : Type 0} → (V → Term W) → (S → R) → List (Assertion V S) → List (Assertion W R)
put_network f g N = map (put_assertion f g) N

-- the assertion follows from the network
abbrev pub Follows : {V S : Type 0} → List (Assertion V S) → Assertion V S → Type 0
Follows {V} {S} N (entry s a x) = (y : Term V) × HasValue N s a y × AreLinked N x y
Follows N (equate x y) = AreLinked N x y
Follows N (link s t) = AreLinkedSlots N s t
