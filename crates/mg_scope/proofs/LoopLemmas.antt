-- Loops that test each element of a list.
use Rattle.std.specs.Prelude.{◌≡◌, ℕ, zero, suc, ◌+◌, ◌<◌, List, [], ◌∷◌, ◌++◌, length, take, drop, get_or, Result, Ok, Err, OnOk, OnErr, IsErr}
use Rattle.std.proofs.Common.{refl, ap, sym, ◌∙◌, subst, arith}
use Rattle.std.proofs.lemmas.Bool.{false≢true}
use Rattle.gr_base.specs.Lists.{IsAmong, Each}
use Rattle.mg_scope.specs.Faults.{IsFirstWithout}

-- one more element has the property
pub Each-more : {A : Type 0} (P : A → Type 0) (xs : List A) (i : ℕ) (d : A) → i < length xs → Each P (take i xs) → P (get_or xs i d) → Each P (take (i + 1) xs)
Each-more {A} P xs i d within each here = let one : i + 1 ≡ suc i = omega arith in subst (λ (k : ℕ). Each P (take k xs)) (sym one) (more xs i within each here)
  where
    more : (xs : List A) (i : ℕ) → i < length xs → Each P (take i xs) → P (get_or xs i d) → Each P (take (suc i) xs)
    more [] i w e h = absurd (omega arith)
    more (x ∷ xs) zero w e h = (h, tt)
    more (x ∷ xs) (suc i) w e h = (e.0, more xs i (omega arith) e.1 h)

-- a list is what stands before a place, what stands there, and what stands behind it
pub split_at : {A : Type 0} (xs : List A) (i : ℕ) (d : A) → i < length xs → xs ≡ take i xs ++ get_or xs i d ∷ drop (suc i) xs
split_at [] i d within = absurd (omega arith)
split_at (x ∷ xs) zero d within = refl
split_at (x ∷ xs) (suc i) d within = ap (λ z. x ∷ z) (split_at xs i d (omega arith))

-- the element at the place is the first one without the property
pub first_without : {A : Type 0} (P : A → Type 0) (xs : List A) (i : ℕ) (d : A) → i < length xs → Each P (take i xs) → (P (get_or xs i d) → ⊥) → IsFirstWithout P xs (get_or xs i d)
first_without P xs i d within each fails = (take i xs, drop (suc i) xs, split_at xs i d within, each, fails)

-- what holds where a call answers with a value, weakened
pub on_ok : {T E P Q : Type 0} (r : Result T E) → (P → Q) → OnOk r P → OnOk r Q
on_ok (Ok x) f h = f h
on_ok (Err e) f h = tt

-- where a call fails, just the clause on failures speaks
pub err_only : {T E Q : Type 0} (P : Type 0) (r : Result T E) → IsErr r → Q → record { ok : OnOk r P; err : OnErr r Q }
err_only P (Ok x) h q = absurd (false≢true h)
err_only P (Err e) h q = record { ok = tt; err = q }
