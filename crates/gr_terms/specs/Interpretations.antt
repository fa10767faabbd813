-- Networks in each other: what follows from a network, what is interpreted in it, and when two are equivalent.
use Rattle.std.specs.Prelude.{◌≡◌, ℕ, List}
use Rattle.gr_base.specs.Lists.{IsAmong}
use Rattle.gr_terms.specs.Networks.{Term, Assertion, entry, equate, link, AreLinked, AreLinkedSlots, put_term, put_assertion, Follows}

-- each assertion of M, with f and g put in, follows from N
abbrev pub Interprets : {V W S R : Type 0} → (V → Term W) → (S → R) → List (Assertion V S) → List (Assertion W R) → Type 0
Interprets {V} {W} {S} {R} f g M N = (a : Assertion V S) → IsAmong M a → Follows N (put_assertion f g a)

-- each assertion of M follows from N
abbrev pub Entails : {V S : Type 0} → List (Assertion V S) → List (Assertion V S) → Type 0
Entails {V} {S} N M = (a : Assertion V S) → IsAmong M a → Follows N a

-- two networks are equivalent by maps forth and back that undo each other up to links
pub record AreEquivalent {V W S R : Type 0} (N : List (Assertion V S)) (M : List (Assertion W R)) : Type 0 where
  pub forth : V → Term W
  pub forth_slot : S → R
  pub back_again : W → Term V
  pub back_slot_again : R → S
  pub there : Interprets forth forth_slot N M
  pub home : Interprets back_again back_slot_again M N
  pub round : (x : Term V) → AreLinked N x (put_term back_again (put_term forth x))
  pub round_slot : (s : S) → AreLinkedSlots N s (back_slot_again (forth_slot s))
  pub other_round : (y : Term W) → AreLinked M y (put_term forth (put_term back_again y))
  pub other_round_slot : (r : R) → AreLinkedSlots M r (forth_slot (back_slot_again r))

-- a labelling that fits a network: terms have labels and slots have places, and each place has a label for each attribute
pub record Labels {V S : Type 0} (P L : Type 0) (N : List (Assertion V S)) : Type 0 where
  pub label : Term V → L
  pub place : S → P
  pub value : P → ℕ → L
  pub entries : (s : S) (a : ℕ) (x : Term V) → IsAmong N (entry s a x) → label x ≡ value (place s) a
  pub equal : (x y : Term V) → IsAmong N (equate x y) → label x ≡ label y
  pub linked_places : (s t : S) → IsAmong N (link s t) → place s ≡ place t
