-- What reading a part does beside its answer.
use Rattle.std.specs.Prelude.{ℕ, ◌+◌, ◌≤◌, List, length}
use Rattle.gr_symbols.specs.Numbers.{Grows}
use Rattle.gr_reader.specs.Lexemes.{Lexeme}
use Rattle.gr_feats.specs.Numberings.{Numbering, GoesOnFrom}

-- it holds of the table of texts, and of each that begins with it
abbrev pub Later : List (List ℕ) → (List (List ℕ) → Type 0) → Type 0
Later texts P = (later : List (List ℕ)) → Grows texts later → P later

-- texts keep their numbers, and at most as many are new as lexemes were passed
pub record PassesTexts (old new : List (List ℕ)) (ts rest : List Lexeme) : Type 0 where
  pub grows : Grows old new
  pub few : length new + length rest ≤ length old + length ts

-- variables keep their numbers too
pub record Passes (old new : List (List ℕ)) (ts rest : List Lexeme) (before after : Numbering) : Type 0 where
  pub texts : PassesTexts old new ts rest
  pub goes_on : GoesOnFrom before after
