-- How many bytes a text may have.
use Rattle.std.specs.Prelude.{ℕ, ◌≤◌, List, length}

-- the most bytes of a text that is read
abbrev pub byte_limit : ℕ
byte_limit = 1048576

abbrev pub IsShort : List ℕ → Type 0
IsShort bytes = length bytes ≤ byte_limit
