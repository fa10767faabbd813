-- What a cursor is to its callers, and what its fields keep true.
use Rattle.std.specs.Prelude.{◌≡◌, ℕ, ◌≤◌, List, length, take}
use Rattle.gr_text.specs.Limits.{IsShort}
use Rattle.gr_text.specs.Places.{line_after, column_after}

-- the bytes that were read, in order, and the bytes that are left
pub record Progress : Type 0 where
  pub read : List ℕ
  pub left : List ℕ

-- the line and the column are those behind the first `at` of the bytes, which are short enough to count
pub record StandsAt (bytes : List ℕ) (at line column : ℕ) : Type 0 where
  pub within : at ≤ length bytes
  pub short : IsShort bytes
  pub line_is : line ≡ line_after (take at bytes)
  pub column_is : column ≡ column_after (take at bytes)
