-- Lists that are gathered, taken and pushed.
use Rattle.std.specs.Prelude.{◌≡◌, ℕ, zero, suc, ◌+◌, ◌<◌, ◌≤◌, List, [], ◌∷◌, ◌++◌, map, length, take, drop, get_or, min, Some, slice_get, ◌⊎◌, refl}
use Rattle.std.specs.List.{AllZip}
use Rattle.std.proofs.Common.{inl, inr, ap, ap₂, sym, ◌∙◌, subst, append_assoc, arith}
use Rattle.std.proofs.Math.Seq.{take-append_seam}
use Rattle.std.proofs.lemmas.List.{append-nil, take_more, take-append-drop}
use Rattle.std.proofs.lemmas.Option.{none-some, same_Some}
use Rattle.gr_base.specs.Lists.{IsAmong, Each, IsSublist, NoneTwice, gathered}
use Rattle.gr_base.proofs.ListLemmas.{IsAmong-append, IsAmong-append_left, IsAmong-append_right, Each-append, Each-left}

pub le_or : (n m : ℕ) → (n ≤ m) ⊎ (m ≤ n)
le_or zero m = inl (omega arith)
le_or (suc n) zero = inr (omega arith)
le_or (suc n) (suc m) = elim (le_or n m) [ inl h ↦ inl (omega arith) | inr h ↦ inr (omega arith) ]

module _ {A B : Type 0} (f : A → List B) where
  pub gathered-append : (xs ys : List A) → gathered f (xs ++ ys) ≡ gathered f xs ++ gathered f ys
  gathered-append [] ys = refl
  gathered-append (x ∷ xs) ys = ap (λ z. f x ++ z) (gathered-append xs ys) ∙ sym (append_assoc (f x) (gathered f xs) (gathered f ys))

  pub gathered-push : (xs : List A) (x : A) → gathered f (xs ++ x ∷ []) ≡ gathered f xs ++ f x
  gathered-push xs x = gathered-append xs (x ∷ []) ∙ ap (λ z. gathered f xs ++ z) (append-nil (f x))

  pub gathered-more : (xs : List A) (i : ℕ) (d : A) → i < length xs → gathered f (take (i + 1) xs) ≡ gathered f (take i xs) ++ f (get_or xs i d)
  gathered-more xs i d within = ap (gathered f) (take_more xs i d within) ∙ gathered-push (take i xs) (get_or xs i d)

  pub take-gathered : (xs : List A) (k : ℕ) → take (length (gathered f (take k xs))) (gathered f xs) ≡ gathered f (take k xs)
  take-gathered xs k =
      ap (λ z. take (length (gathered f (take k xs))) z) (ap (gathered f) (sym (take-append-drop k xs)) ∙ gathered-append (take k xs) (drop k xs))
      ∙ take-append_seam (gathered f (take k xs)) (gathered f (drop k xs))

  pub IsAmong-gathered : (xs : List A) (x : A) (y : B) → IsAmong xs x → IsAmong (f x) y → IsAmong (gathered f xs) y
  IsAmong-gathered [] x y i j = absurd i
  IsAmong-gathered (z ∷ zs) x y (inl e) j = IsAmong-append_left (f z) (gathered f zs) y (subst (λ a. IsAmong (f a) y) e j)
  IsAmong-gathered (z ∷ zs) x y (inr i) j = IsAmong-append_right (f z) (gathered f zs) y (IsAmong-gathered zs x y i j)

  pub IsAmong-gathered_from : (xs : List A) (y : B) → IsAmong (gathered f xs) y → (x : A) × IsAmong xs x × IsAmong (f x) y
  IsAmong-gathered_from [] y i = absurd i
  IsAmong-gathered_from (x ∷ xs) y i =
      elim (IsAmong-append (f x) (gathered f xs) y i) [
        | inl j ↦ (x, inl refl, j)
        | inr j ↦ let r = IsAmong-gathered_from xs y j in (r.0, inr r.1, r.2)
      ]

  pub Each-gathered : (P : B → Type 0) (xs : List A) → Each (λ x. Each P (f x)) xs → Each P (gathered f xs)
  Each-gathered P [] h = tt
  Each-gathered P (x ∷ xs) h = Each-append P (f x) (gathered f xs) h.0 (Each-gathered P xs h.1)

  pub gathered-same : (g : A → List B) → ((x : A) → f x ≡ g x) → (xs : List A) → gathered f xs ≡ gathered g xs
  gathered-same g e [] = refl
  gathered-same g e (x ∷ xs) = ap₂ (λ a b. a ++ b) (e x) (gathered-same g e xs)

pub Each-push : {A : Type 0} (P : A → Type 0) (xs : List A) (x : A) → Each P xs → P x → Each P (xs ++ x ∷ [])
Each-push P xs x each here = Each-append P xs (x ∷ []) each (here, tt)

pub Each-take : {A : Type 0} (P : A → Type 0) (xs : List A) (k : ℕ) → Each P xs → Each P (take k xs)
Each-take P xs k each = Each-left P (take k xs) (drop k xs) (subst (Each P) (sym (take-append-drop k xs)) each)

pub take_take : {A : Type 0} (j k : ℕ) (xs : List A) → j ≤ k → take j (take k xs) ≡ take j xs
take_take zero k xs h = refl
take_take (suc j) zero xs h = absurd (omega arith)
take_take (suc j) (suc k) [] h = refl
take_take (suc j) (suc k) (x ∷ xs) h = ap (λ z. x ∷ z) (take_take j k xs (omega arith))

pub slice_get-take : {A : Type 0} (c : ℕ) (xs : List A) (k : ℕ) (z : A) → slice_get (take c xs) k ≡ Some z → (k < c) × (slice_get xs k ≡ Some z)
slice_get-take zero xs k z at = absurd (none-some z at)
slice_get-take (suc c) [] k z at = absurd (none-some z at)
slice_get-take (suc c) (x ∷ xs) zero z at = (omega arith, at)
slice_get-take (suc c) (x ∷ xs) (suc k) z at = let r = slice_get-take c xs k z at in (omega arith, r.1)

-- sublists with one more at the end
pub IsSublist-skip : {A : Type 0} (xs ys : List A) (y : A) → IsSublist xs ys → IsSublist xs (ys ++ y ∷ [])
IsSublist-skip xs [] y h = inl h
IsSublist-skip xs (z ∷ ys) y (inl h) = inl (IsSublist-skip xs ys y h)
IsSublist-skip xs (z ∷ ys) y (inr h) = inr (h.0, h.1, IsSublist-skip h.0 ys y h.2)

pub IsSublist-push : {A : Type 0} (xs ys : List A) (y : A) → IsSublist xs ys → IsSublist (xs ++ y ∷ []) (ys ++ y ∷ [])
IsSublist-push xs [] y h = inr ([], ap (λ z. z ++ y ∷ []) h, refl)
IsSublist-push xs (z ∷ ys) y (inl h) = inl (IsSublist-push xs ys y h)
IsSublist-push xs (z ∷ ys) y (inr h) = inr (h.0 ++ y ∷ [], ap (λ w. w ++ y ∷ []) h.1, IsSublist-push h.0 ys y h.2)

pub IsSublist-map : {A B : Type 0} (f : A → B) (xs ys : List A) → IsSublist xs ys → IsSublist (map f xs) (map f ys)
IsSublist-map f xs [] h = ap (map f) h
IsSublist-map f xs (y ∷ ys) (inl h) = inl (IsSublist-map f xs ys h)
IsSublist-map f xs (y ∷ ys) (inr h) = inr (map f h.0, ap (map f) h.1, IsSublist-map f h.0 ys h.2)

pub AllZip-maps : {A B C : Type 0} (R : B → C → Type 0) (f : A → B) (g : A → C) (xs : List A) → ((x : A) → IsAmong xs x → R (f x) (g x)) → AllZip R (map f xs) (map g xs)
AllZip-maps R f g [] h = tt
AllZip-maps R f g (x ∷ xs) h = (h x (inl refl), AllZip-maps R f g xs (λ y i. h y (inr i)))
