-- The words of the grammar, and their numbers in a table of names as far as they are known.
use Rattle.std.specs.Prelude.{◌≡◌, ℕ, List, [], ◌∷◌, Option, Some, None, slice_index_or, if◌then◌else◌, ◌==◌}
use Rattle.gr_symbols.specs.Numbers.{Names}
use Rattle.gr_terms.specs.declared.Sym.{Sym}
use Rattle.mg_reader.specs.declared.lexeme.Kind.{Kind}
use Rattle.mg_reader.specs.Kinds.{kind_number, words}

-- the text beside the kind with this number in a table
abbrev pub text_in : List (List ℕ × Kind) → ℕ → List ℕ
text_in [] n = []
text_in ((known, k) ∷ rows) n = if kind_number k == n then known else text_in rows n

-- the word of the grammar whose kind has this number
abbrev pub keyword : ℕ → List ℕ
keyword n = text_in words n

-- what is known stands at the numbers of the kinds
pub record AreKeywords (texts : List (List ℕ)) (names : List (Option Sym)) : Type 0 where
  pub known : (n : ℕ) (name : Sym) → slice_index_or names n None ≡ Some name → Names texts name.0 (keyword n)
