-- The decimals that files may have.
use Rattle.std.specs.Prelude.{◌≡◌, ◌≢◌, ℕ, ◌≤◌, List, [], ◌∷◌, length, ◌⊎◌, slice_index}
use Rattle.std.specs.Str.Parse.{IsNumeral}

-- one to nine digits that don't begin with `0`
pub record IsLongDecimal (text : List ℕ) : Type 0 where
  pub numeral : IsNumeral 10 text
  pub short : length text ≤ 9
  pub begins : slice_index text 0 ≢ 48

-- `0`, or one to nine digits that don't begin with `0`
abbrev pub IsDecimal : List ℕ → Type 0
IsDecimal text = (text ≡ 48 ∷ []) ⊎ IsLongDecimal text
