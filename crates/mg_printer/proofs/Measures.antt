-- What stands in a list measures no more than the list.
use Rattle.std.specs.Prelude.{◌≡◌, ℕ, ◌≤◌, ◌<◌, List, ◌∷◌, length, get_or}
use Rattle.std.proofs.Common.{arith, ap}
use denote.Param.Weighed.{most, at_most}

pub first_below : {X : Type 0} (μ : X → ℕ) (all : List X) (x : X) (xs : List X) → all ≡ x ∷ xs → μ x ≤ most μ all
first_below μ all x xs e = omega (arith, ap (most μ) e)

pub other_below : {X : Type 0} (μ : X → ℕ) (all : List X) (x : X) (xs : List X) (i : ℕ) (y : X) → all ≡ x ∷ xs → i < length xs → y ≡ get_or xs i y → μ y ≤ most μ all
other_below μ all x xs i y e within is = omega (arith, ap (most μ) e, at_most μ xs i y within, ap μ is)
