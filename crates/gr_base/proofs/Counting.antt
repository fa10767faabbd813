-- Two lists that have each value of a property once are as long; the order of texts by their bytes is irreflexive and transitive.
use Rattle.std.specs.Prelude.{◌≡◌, ℕ, suc, ◌≤◌, List, [], ◌∷◌, length, refl}
use Rattle.std.proofs.Common.{inl, inr, ap, sym, ◌∙◌, subst, arith}
use Rattle.gr_base.specs.Lists.{IsAmong, IsWithin, NoneTwice, IsListing, IsCount, IsBefore}
use Rattle.gr_base.proofs.ListLemmas.{Each-at}

-- the list without one place of an element
pub record IsTakenOut {A : Type 0} (x : A) (xs : List A) : Type 0 where
  pub rest : List A
  pub shorter : length xs ≡ suc (length rest)
  pub others : (y : A) → IsAmong xs y → (y ≡ x → ⊥) → IsAmong rest y

pub take_out : {A : Type 0} (xs : List A) (x : A) → IsAmong xs x → IsTakenOut x xs
take_out [] x i = absurd i
take_out (z ∷ xs) x (inl e) = record { rest = xs; shorter = refl; others = λ y i n. elim i [ inl p ↦ absurd (n (p ∙ sym e)) | inr j ↦ j ] }
take_out (z ∷ xs) x (inr i) =
    let r = take_out xs x i in
    record { rest = z ∷ r.rest; shorter = ap suc r.shorter; others = λ y j n. elim j [ inl p ↦ inl p | inr k ↦ inr (r.others y k n) ] }

-- a list without repetition whose elements are all in another list is no longer than that
pub length-within : {A : Type 0} (xs ys : List A) → NoneTwice xs → IsWithin xs ys → length xs ≤ length ys
length-within [] ys once within = omega arith
length-within (x ∷ xs) ys once within =
    let r = take_out ys x (within x (inl refl)) in
    let rest_within : IsWithin xs r.rest = λ y i. r.others y (within y (inr i)) (λ e. once.0 (subst (λ z. IsAmong xs z) e i)) in
    let h : length xs ≤ length r.rest = length-within xs r.rest once.1 rest_within in
    let s : length ys ≡ suc (length r.rest) = r.shorter in
    omega arith

-- all listings of a property have one length
pub IsListing-length : {A : Type 0} (P : A → Type 0) (xs ys : List A) → IsListing P xs → IsListing P ys → length xs ≤ length ys
IsListing-length P xs ys a b = length-within xs ys a.once (λ x i. b.all x (Each-at P xs x a.only i))

-- a property has one count at most
pub IsCount-unique : {A : Type 0} (P : A → Type 0) (m n : ℕ) → IsCount P m → IsCount P n → m ≡ n
IsCount-unique P m n a b =
    let p : length a.0 ≤ length b.0 = IsListing-length P a.0 b.0 a.1 b.1 in
    let q : length b.0 ≤ length a.0 = IsListing-length P b.0 a.0 b.1 a.1 in
    let e : length a.0 ≡ m = a.2 in
    let f : length b.0 ≡ n = b.2 in
    omega arith

pub IsBefore-irreflexive : (xs : List ℕ) → IsBefore xs xs → ⊥
IsBefore-irreflexive [] h = h
IsBefore-irreflexive (x ∷ xs) (inl h) = omega arith
IsBefore-irreflexive (x ∷ xs) (inr h) = IsBefore-irreflexive xs h.1

pub IsBefore-trans : (xs ys zs : List ℕ) → IsBefore xs ys → IsBefore ys zs → IsBefore xs zs
IsBefore-trans xs ys [] h k = k
IsBefore-trans [] ys (z ∷ zs) h k = tt
IsBefore-trans (x ∷ xs) [] (z ∷ zs) h k = absurd h
IsBefore-trans (x ∷ xs) (y ∷ ys) (z ∷ zs) (inl h) (inl k) = inl (omega arith)
IsBefore-trans (x ∷ xs) (y ∷ ys) (z ∷ zs) (inl h) (inr k) = let e : y ≡ z = k.0 in inl (omega arith)
IsBefore-trans (x ∷ xs) (y ∷ ys) (z ∷ zs) (inr h) (inl k) = let e : x ≡ y = h.0 in inl (omega arith)
IsBefore-trans (x ∷ xs) (y ∷ ys) (z ∷ zs) (inr h) (inr k) = inr (h.0 ∙ k.0, IsBefore-trans xs ys zs h.1 k.1)
