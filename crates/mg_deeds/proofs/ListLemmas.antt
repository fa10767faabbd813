-- Loops that go along a list, with what is left of it.
use Rattle.std.specs.Prelude.{◌≡◌, ℕ, zero, suc, ◌+◌, ◌<◌, List, [], ◌∷◌, length, drop, get_or}
use Rattle.std.proofs.Common.{refl, ap, sym, ◌∙◌, arith}

-- what is left from a place on is the element there, and what is left behind it
pub drop_item : {A : Type 0} (xs : List A) (i : ℕ) (x : A) → i < length xs → x ≡ get_or xs i x → drop i xs ≡ x ∷ drop (i + 1) xs
drop_item {A} xs i x within is =
    let one : i + 1 ≡ suc i = omega arith in
    from xs i within ∙ ap (λ y. y ∷ drop (suc i) xs) (sym is) ∙ ap (λ k. x ∷ drop k xs) (sym one)
  where
    from : (xs : List A) (i : ℕ) → i < length xs → drop i xs ≡ get_or xs i x ∷ drop (suc i) xs
    from [] i w = absurd (omega arith)
    from (y ∷ ys) zero w = refl
    from (y ∷ ys) (suc i) w = from ys i (omega arith)
