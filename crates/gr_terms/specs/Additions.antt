-- What one more assertion links.
use Rattle.std.specs.Prelude.{◌≡◌, ℕ, List}
use Rattle.gr_terms.specs.Networks.{Term, name, Assertion, equate, AreLinked, AreLinkedSlots, HasValue}

-- with one more equation of x and y, two terms are linked where they were, or one with each side
pub data Joined {V S : Type 0} (N : List (Assertion V S)) (x y u v : Term V) : Type 0 where
  as_before : AreLinked N u v → Joined N x y u v
  across : AreLinked N u x → AreLinked N y v → Joined N x y u v
  across_back : AreLinked N u y → AreLinked N x v → Joined N x y u v

-- with one more link of s and t, two slots are linked where they were, or one with each side
pub data JoinedSlots {V S : Type 0} (N : List (Assertion V S)) (s t p q : S) : Type 0 where
  slots_before : AreLinkedSlots N p q → JoinedSlots N s t p q
  slots_across : AreLinkedSlots N p s → AreLinkedSlots N t q → JoinedSlots N s t p q
  slots_back : AreLinkedSlots N p t → AreLinkedSlots N s q → JoinedSlots N s t p q

-- the slot has no value of the attribute
abbrev pub LacksValue : {V S : Type 0} → List (Assertion V S) → S → ℕ → Type 0
LacksValue {V} N s a = (x : Term V) → HasValue N s a x → ⊥

-- the values that the two slots have of one attribute are linked
abbrev pub ShareValues : {V S : Type 0} → List (Assertion V S) → S → S → Type 0
ShareValues {V} N s t = (a : ℕ) (x y : Term V) → HasValue N s a x → HasValue N t a y → AreLinked N x y

-- the assertion equates a value at s with one of the same attribute at t
abbrev pub EquatesValues : {V S : Type 0} → List (Assertion V S) → S → S → Assertion V S → Type 0
EquatesValues {V} N s t e = (a : ℕ) × (x y : Term V) × (e ≡ equate x y) × HasValue N s a x × HasValue N t a y

-- two terms are linked with no two different names
abbrev pub AreCompatible : {V S : Type 0} → List (Assertion V S) → Term V → Term V → Type 0
AreCompatible N x y = (a b : ℕ) → AreLinked N x (name a) → AreLinked N y (name b) → a ≡ b
