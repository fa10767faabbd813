-- What a shelf in memory holds.
use Rattle.std.specs.Prelude.{ℕ, List, Option, find, bytes_eq, String, Vec, string_bytes}
use Rattle.std.specs.Option.{option_map}

-- the bytes under a name: those of the first pair that has it
abbrev pub file_named : {Y Z : Type 0} → List (String Y × Vec ℕ Z) → List ℕ → Option (List ℕ)
file_named files name = option_map (λ f. f.1.items) (find (λ f. bytes_eq (string_bytes f.0) name) files)
