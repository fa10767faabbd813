-- Numbers that belong to the elements of a list, up to one of them.
use Rattle.std.specs.Prelude.{◌≡◌, ℕ, zero, suc, ◌+◌, ◌≤◌, List, [], ◌∷◌, length, sum, take, Some, slice_get}
use Rattle.std.specs.List.{AllZip}
use Rattle.std.proofs.Common.{refl, ap, subst, arith}
use Rattle.std.proofs.lemmas.List.Sums.{sum_by-cons}
use Rattle.std.proofs.lemmas.Option.{none-some, same_Some}

sum-cons : (t : ℕ) (ts : List ℕ) → sum (t ∷ ts) ≡ t + sum ts
sum-cons t ts = sum_by-cons (λ x. x) t ts

-- the numbers of those before the place, the one at it, and what these give together
pub record IsUpTo {A : Type 0} (P : A → ℕ → Type 0) (xs : List A) (k : ℕ) (x : A) : Type 0 where
  pub before : List ℕ
  pub here : ℕ
  pub zipped : AllZip P (take k xs) before
  pub is : P x here

abbrev front : {A : Type 0} (P : A → ℕ → Type 0) (x : A) (xs : List A) (k : ℕ) (y : A) (t : ℕ) → P x t → IsUpTo P xs k y → IsUpTo P (x ∷ xs) (suc k) y
front P x xs k y t h u = record { before = t ∷ u.before; here = u.here; zipped = (h, u.zipped); is = u.is }

-- of the numbers of a front, the last one belongs to the last element
pub zip_last : {A : Type 0} (P : A → ℕ → Type 0) (xs : List A) (k : ℕ) (x : A) (ts : List ℕ) → slice_get xs k ≡ Some x → AllZip P (take (suc k) xs) ts
    → (u : IsUpTo P xs k x) × (sum ts ≡ sum u.before + u.here)
zip_last P [] k x ts at h = absurd (none-some x at)
zip_last P (y ∷ xs) zero x [] at h = absurd h
zip_last P (y ∷ xs) zero x (t ∷ []) at h =
    (record { before = []; here = t; zipped = tt; is = subst (λ z. P z t) (same_Some y x at) h.0 }, (let e : sum (t ∷ []) ≡ t + 0 = sum-cons t [] in omega arith))
zip_last P (y ∷ xs) zero x (t ∷ s ∷ ts) at h = absurd h.1
zip_last P (y ∷ xs) (suc k) x [] at h = absurd h
zip_last P (y ∷ xs) (suc k) x (t ∷ ts) at h =
    let r = zip_last P xs k x ts at h.1 in
    let e : sum (t ∷ ts) ≡ t + sum ts = sum-cons t ts in
    let d : sum (t ∷ r.0.before) ≡ t + sum r.0.before = sum-cons t r.0.before in
    let s : sum ts ≡ sum r.0.before + r.0.here = r.1 in
    (front P y xs k x t h.0 r.0, omega arith)

-- the numbers up to a place give no more than all
pub zip_at : {A : Type 0} (P : A → ℕ → Type 0) (xs : List A) (k : ℕ) (x : A) (ts : List ℕ) → slice_get xs k ≡ Some x → AllZip P xs ts
    → (u : IsUpTo P xs k x) × (sum u.before + u.here ≤ sum ts)
zip_at P [] k x ts at h = absurd (none-some x at)
zip_at P (y ∷ xs) k x [] at h = absurd h
zip_at P (y ∷ xs) zero x (t ∷ ts) at h =
    (record { before = []; here = t; zipped = tt; is = subst (λ z. P z t) (same_Some y x at) h.0 }, (let e : sum (t ∷ ts) ≡ t + sum ts = sum-cons t ts in omega arith))
zip_at P (y ∷ xs) (suc k) x (t ∷ ts) at h =
    let r = zip_at P xs k x ts at h.1 in
    let e : sum (t ∷ ts) ≡ t + sum ts = sum-cons t ts in
    let d : sum (t ∷ r.0.before) ≡ t + sum r.0.before = sum-cons t r.0.before in
    let s : sum r.0.before + r.0.here ≤ sum ts = r.1 in
    (front P y xs k x t h.0 r.0, omega arith)

-- numbers that belong to the elements are fixed, where each has one
pub zip_unique : {A : Type 0} (P : A → ℕ → Type 0) → ((x : A) (a b : ℕ) → P x a → P x b → a ≡ b)
    → (xs : List A) (ts ss : List ℕ) → AllZip P xs ts → AllZip P xs ss → ts ≡ ss
zip_unique P one [] [] [] h g = refl
zip_unique P one [] [] (s ∷ ss) h g = absurd g
zip_unique P one [] (t ∷ ts) ss h g = absurd h
zip_unique P one (x ∷ xs) [] ss h g = absurd h
zip_unique P one (x ∷ xs) (t ∷ ts) [] h g = absurd g
zip_unique P one (x ∷ xs) (t ∷ ts) (s ∷ ss) h g =
    let e : t ≡ s = one x t s h.0 g.0 in
    let r = zip_unique P one xs ts ss h.1 g.1 in
    subst (λ z. t ∷ ts ≡ z ∷ ss) e (ap (λ z. t ∷ z) r)

-- the numbers of a shorter front give no more than those of a longer one
pub zip_less : {A : Type 0} (P : A → ℕ → Type 0) (xs : List A) (k n : ℕ) (ts : List ℕ) → k ≤ n → AllZip P (take n xs) ts
    → (front : List ℕ) × AllZip P (take k xs) front × (sum front ≤ sum ts)
zip_less P xs zero n ts l h = ([], tt, omega arith)
zip_less P xs (suc k) zero ts l h = absurd (none k l)
  where
    none : (k : ℕ) → suc k ≤ 0 → ⊥
    none k l = omega arith
zip_less P [] (suc k) (suc n) ts l h = ([], tt, omega arith)
zip_less P (x ∷ xs) (suc k) (suc n) [] l h = absurd h
zip_less P (x ∷ xs) (suc k) (suc n) (t ∷ ts) l h =
    let r = zip_less P xs k n ts (fewer k n l) h.1 in
    let e : sum (t ∷ ts) ≡ t + sum ts = sum-cons t ts in
    let d : sum (t ∷ r.0) ≡ t + sum r.0 = sum-cons t r.0 in
    let s : sum r.0 ≤ sum ts = r.2 in
    (t ∷ r.0, (h.0, r.1), omega arith)
  where
    fewer : (k n : ℕ) → suc k ≤ suc n → k ≤ n
    fewer k n l = omega arith

-- all numbers are those of the front that is the whole list
pub zip_whole : {A : Type 0} (P : A → ℕ → Type 0) (xs : List A) (ts : List ℕ) → AllZip P xs ts → AllZip P (take (length xs) xs) ts
zip_whole P [] ts h = h
zip_whole P (x ∷ xs) [] h = absurd h
zip_whole P (x ∷ xs) (t ∷ ts) h = (h.0, zip_whole P xs ts h.1)
