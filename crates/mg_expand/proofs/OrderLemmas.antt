-- Choices that first differ, and lists in the order of choices.
use Rattle.std.specs.Prelude.{◌≡◌, ℕ, List, [], ◌∷◌, ◌++◌, map, ⊤, refl}
use Rattle.std.proofs.Common.{inl, inr, ap₂, sym, ◌∙◌, subst, arith}
use Rattle.gr_base.specs.Lists.{IsAmong, IsWithin, NoneTwice, Each, gathered}
use Rattle.gr_base.specs.Forests.{IsLeftOf}
use Rattle.gr_base.proofs.ListLemmas.{Each-at, Each-members, Each-append, IsAmong-append}

pub IsLeftOf-irreflexive : (p : List ℕ) → IsLeftOf p p → ⊥
IsLeftOf-irreflexive [] h = absurd h
IsLeftOf-irreflexive (i ∷ p) (inl l) = omega arith
IsLeftOf-irreflexive (i ∷ p) (inr r) = IsLeftOf-irreflexive p r.1

pub IsLeftOf-through : (p q r : List ℕ) → IsLeftOf p q → IsLeftOf q r → IsLeftOf p r
IsLeftOf-through [] q r h k = absurd h
IsLeftOf-through (i ∷ p) [] r h k = absurd h
IsLeftOf-through (i ∷ p) (j ∷ q) [] h k = absurd k
IsLeftOf-through (i ∷ p) (j ∷ q) (k ∷ r) (inl a) (inl b) = inl (omega arith)
IsLeftOf-through (i ∷ p) (j ∷ q) (k ∷ r) (inl a) (inr b) = let e : j ≡ k = b.0 in inl (omega arith)
IsLeftOf-through (i ∷ p) (j ∷ q) (k ∷ r) (inr a) (inl b) = let e : i ≡ j = a.0 in inl (omega arith)
IsLeftOf-through (i ∷ p) (j ∷ q) (k ∷ r) (inr a) (inr b) = inr (a.0 ∙ b.0, IsLeftOf-through p q r a.1 b.1)

-- what follows a difference changes nothing
pub IsLeftOf-append : (p q a b : List ℕ) → IsLeftOf p q → IsLeftOf (p ++ a) (q ++ b)
IsLeftOf-append [] q a b h = absurd h
IsLeftOf-append (i ∷ p) [] a b h = absurd h
IsLeftOf-append (i ∷ p) (j ∷ q) a b (inl l) = inl l
IsLeftOf-append (i ∷ p) (j ∷ q) a b (inr r) = inr (r.0, IsLeftOf-append p q a b r.1)

-- nor does what stands before it
pub IsLeftOf-behind : (a p q : List ℕ) → IsLeftOf p q → IsLeftOf (a ++ p) (a ++ q)
IsLeftOf-behind [] p q h = h
IsLeftOf-behind (i ∷ a) p q h = inr (refl, IsLeftOf-behind a p q h)

-- lists whose elements stand in the order R
module _ {A : Type 0} (R : A → A → Type 0) where
  abbrev pub InOrder : List A → Type 0
  InOrder [] = ⊤
  InOrder (x ∷ xs) = Each (R x) xs × InOrder xs

  pub InOrder-append : (xs ys : List A) → InOrder xs → InOrder ys → ((x y : A) → IsAmong xs x → IsAmong ys y → R x y) → InOrder (xs ++ ys)
  InOrder-append [] ys o p cross = p
  InOrder-append (x ∷ xs) ys o p cross = (
    Each-append (R x) xs ys o.0 (Each-members (R x) ys (λ y i. cross x y (inl refl) i)),
    InOrder-append xs ys o.1 p (λ a b i j. cross a b (inr i) j),
  )

  pub InOrder-once : ((x : A) → R x x → ⊥) → (xs : List A) → InOrder xs → NoneTwice xs
  InOrder-once never [] o = tt
  InOrder-once never (x ∷ xs) o = ((λ i. never x (Each-at (R x) xs x o.0 i)), InOrder-once never xs o.1)

  -- where the heads of two lists with the same members are equal, so are the members of the rest
  within_rest : ((x : A) → R x x → ⊥) → (x y : A) (xs ys : List A) → x ≡ y → Each (R x) xs → IsWithin (x ∷ xs) (y ∷ ys) → IsWithin xs ys
  within_rest never x y xs ys e behind f z i =
      elim (f z (inr i)) [ inl a ↦ absurd (never x (subst (R x) (a ∙ sym e) (Each-at (R x) xs z behind i))) | inr j ↦ j ]

  same_heads : ((x : A) → R x x → ⊥) → ((x y z : A) → R x y → R y z → R x z) → (x y : A) (xs ys : List A)
      → Each (R x) xs → Each (R y) ys → IsAmong (y ∷ ys) x → IsAmong (x ∷ xs) y → x ≡ y
  same_heads never through x y xs ys o p (inl e) i = e
  same_heads never through x y xs ys o p (inr j) (inl e) = sym e
  same_heads never through x y xs ys o p (inr j) (inr i) = absurd (never x (through x y x (Each-at (R x) xs y o i) (Each-at (R y) ys x p j)))

  -- a list in a strict order is fixed by its members
  pub InOrder-unique : ((x : A) → R x x → ⊥) → ((x y z : A) → R x y → R y z → R x z)
      → (xs ys : List A) → InOrder xs → InOrder ys → IsWithin xs ys → IsWithin ys xs → xs ≡ ys
  InOrder-unique never through [] [] o p f g = refl
  InOrder-unique never through [] (y ∷ ys) o p f g = absurd (g y (inl refl))
  InOrder-unique never through (x ∷ xs) [] o p f g = absurd (f x (inl refl))
  InOrder-unique never through (x ∷ xs) (y ∷ ys) o p f g =
      let e : x ≡ y = same_heads never through x y xs ys o.0 p.0 (f x (inl refl)) (g y (inl refl)) in
      ap₂ (λ z zs. z ∷ zs) e
      (InOrder-unique never through xs ys o.1 p.1 (within_rest never x y xs ys e o.0 f) (within_rest never y x ys xs (sym e) p.0 g))

pub InOrder-map : {A B : Type 0} (R : A → A → Type 0) (S : B → B → Type 0) (f : A → B) → ((x y : A) → R x y → S (f x) (f y))
    → (xs : List A) → InOrder R xs → InOrder S (map f xs)
InOrder-map R S f keeps [] o = tt
InOrder-map R S f keeps (x ∷ xs) o = (heads xs o.0, InOrder-map R S f keeps xs o.1)
  where
    heads : (ys : List _) → Each (R x) ys → Each (S (f x)) (map f ys)
    heads [] e = tt
    heads (y ∷ ys) e = (keeps x y e.0, heads ys e.1)

-- a list of lists, one for each element of a list in order
pub InOrder-gathered : {A B : Type 0} (R : A → A → Type 0) (S : B → B → Type 0) (f : A → List B)
    → ((x : A) → InOrder S (f x)) → ((x y : A) (a b : B) → R x y → IsAmong (f x) a → IsAmong (f y) b → S a b)
    → (xs : List A) → InOrder R xs → InOrder S (gathered f xs)
InOrder-gathered R S f each cross [] o = tt
InOrder-gathered {A} R S f each cross (x ∷ xs) o =
    InOrder-append S (f x) (gathered f xs) (each x) (InOrder-gathered R S f each cross xs o.1) (λ a b i j. later xs o.0 a b i j)
  where
    later : (ys : List A) → Each (R x) ys → (a b : _) → IsAmong (f x) a → IsAmong (gathered f ys) b → S a b
    later [] e a b i j = absurd j
    later (y ∷ ys) e a b i j = elim (IsAmong-append (f y) (gathered f ys) b j) [ inl k ↦ cross x y a b e.0 i k | inr k ↦ later ys e.1 a b i k ]
