-- What is decided: it is known to hold, or known not to hold. The logic has no law of excluded middle, so this has to be proved where
-- it is needed.
use Rattle.std.specs.Prelude.{◌≡◌, ◌⊎◌}

-- it holds, or it does not
abbrev pub IsDecided : Type 0 → Type 0
IsDecided A = A ⊎ (A → ⊥)

-- any two values are the same, or not
abbrev pub AreToldApart : Type 0 → Type 0
AreToldApart A = (x y : A) → IsDecided (x ≡ y)
