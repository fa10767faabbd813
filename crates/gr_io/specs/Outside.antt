-- What a shelf gives and a sink takes.
use Rattle.std.specs.Prelude.{◌≡◌, ℕ, ◌+◌, ◌<◌, List, ◌++◌, take, Option, Some, None, ◌⊎◌, ⊤}

-- a count has risen, or stands at the last value of a u64
abbrev pub Rose : ℕ → ℕ → Type 0
Rose before after = (before < after) ⊎ (after ≡ 18446744073709551615)

-- the bytes are those under the name, cut behind limit + 1 bytes; a shelf that doesn't tell may give any
abbrev pub IsFetched : Option (List ℕ → Option (List ℕ)) → List ℕ → ℕ → List ℕ → Type 0
IsFetched None name limit bytes = ⊤
IsFetched (Some files) name limit bytes = (whole : List ℕ) × (files name ≡ Some whole) × (bytes ≡ take (limit + 1) whole)

-- what was written, and then the bytes; a sink that doesn't tell goes on not telling
abbrev pub appended : Option (List ℕ) → List ℕ → Option (List ℕ)
appended None bytes = None
appended (Some before) bytes = Some (before ++ bytes)

-- the bytes of a sink that doesn't tell them
abbrev pub untold : Option (List ℕ)
untold = None
