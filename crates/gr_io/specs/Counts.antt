-- Counts that are kept in a u64.
use Rattle.std.specs.Prelude.{ℕ, ◌+◌, min}

-- one more, or the last value of a u64 where the count stands there
abbrev pub one_more : ℕ → ℕ
one_more count = min (count + 1) 18446744073709551615
