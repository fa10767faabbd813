-- Words on lists: members, sublists, lists without repetition, and counting by such lists.
use Rattle.std.specs.Prelude.{◌≡◌, ℕ, ◌<◌, List, [], ◌∷◌, ◌++◌, length, ◌⊎◌, ⊤}

-- x is one of the list
abbrev pub IsAmong : {A : Type 0} → List A → A → Type 0
IsAmong [] x = ⊥
IsAmong (y ∷ ys) x = (x ≡ y) ⊎ IsAmong ys x

-- each element of the first list is one of the second
abbrev pub IsWithin : {A : Type 0} → List A → List A → Type 0
IsWithin {A} xs ys = (x : A) → IsAmong xs x → IsAmong ys x

-- no element stands twice
abbrev pub NoneTwice : {A : Type 0} → List A → Type 0
NoneTwice [] = ⊤
NoneTwice (x ∷ xs) = (IsAmong xs x → ⊥) × NoneTwice xs

-- P holds of each element
abbrev pub Each : {A : Type 0} → (A → Type 0) → List A → Type 0
Each P [] = ⊤
Each P (x ∷ xs) = P x × Each P xs

-- the first list is what is left of the second when some elements are taken out
abbrev pub IsSublist : {A : Type 0} → List A → List A → Type 0
IsSublist xs [] = xs ≡ []
IsSublist {A} xs (y ∷ ys) = IsSublist xs ys ⊎ ((rest : List A) × (xs ≡ y ∷ rest) × IsSublist rest ys)

-- the list has each value of which P holds once, and no other
pub record IsListing {A : Type 0} (P : A → Type 0) (xs : List A) : Type 0 where
  pub once : NoneTwice xs
  pub only : Each P xs
  pub all : (x : A) → P x → IsAmong xs x

-- P holds of just n values
abbrev pub IsCount : {A : Type 0} → (A → Type 0) → ℕ → Type 0
IsCount {A} P n = (xs : List A) × IsListing P xs × (length xs ≡ n)

-- the numbers rise
abbrev pub IsRising : List ℕ → Type 0
IsRising [] = ⊤
IsRising (x ∷ xs) = Each (λ y. x < y) xs × IsRising xs

-- the first list of bytes stands before the second in byte order
abbrev pub IsBefore : List ℕ → List ℕ → Type 0
IsBefore xs [] = ⊥
IsBefore [] (y ∷ ys) = ⊤
IsBefore (x ∷ xs) (y ∷ ys) = (x < y) ⊎ ((x ≡ y) × IsBefore xs ys)

-- the texts stand in byte order, each once
abbrev pub InByteOrder : List (List ℕ) → Type 0
InByteOrder [] = ⊤
InByteOrder (x ∷ xs) = Each (IsBefore x) xs × InByteOrder xs

-- the lists one after another
abbrev pub joined : {A : Type 0} → List (List A) → List A
joined [] = []
joined (xs ∷ xss) = xs ++ joined xss

-- the list of what f gives, one after another
abbrev pub gathered : {A B : Type 0} → (A → List B) → List A → List B
gathered f [] = []
gathered f (x ∷ xs) = f x ++ gathered f xs
