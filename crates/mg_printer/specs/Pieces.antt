-- The pieces of a spelling: what stands in it before a name is written as its text.
use Rattle.std.specs.Prelude.{ℕ, ◌<◌, List, [], ◌∷◌, ◌++◌, ⊤, codes, get_or}
use Rattle.gr_base.specs.Lists.{gathered}
use Rattle.gr_tokens.specs.declared.Kind.TheVariants.{Word, Var, Punct}
use Rattle.gr_reader.specs.Lexemes.{Lexeme}
use Rattle.gr_texts.specs.Lexemes.{name_lexeme}

-- a sign or a keyword by its text, and a word, a name or a variable by its number
pub data Piece : Type 0 where
  a_sign : List ℕ → Piece
  a_key : List ℕ → Piece
  a_word : ℕ → Piece
  a_name : ℕ → Piece
  a_variable : ℕ → Piece

-- the text of a number in a numbering
abbrev pub text_of : List (List ℕ) → ℕ → List ℕ
text_of texts n = get_or texts n []

-- the lexeme of a piece
abbrev pub lexeme_of : List (List ℕ) → Piece → Lexeme
lexeme_of texts (a_sign t) = record { kind = Punct; text = t }
lexeme_of texts (a_key t) = record { kind = Word; text = t }
lexeme_of texts (a_word n) = record { kind = Word; text = text_of texts n }
lexeme_of texts (a_name n) = name_lexeme (text_of texts n)
lexeme_of texts (a_variable n) = record { kind = Var; text = text_of texts n }

-- the number has a text among this many
abbrev pub IsKnown : ℕ → Piece → Type 0
IsKnown count (a_sign t) = ⊤
IsKnown count (a_key t) = ⊤
IsKnown count (a_word n) = n < count
IsKnown count (a_name n) = n < count
IsKnown count (a_variable n) = n < count

-- what f gives for each, with a piece between each two
abbrev pub separated : {A : Type 0} → Piece → (A → List Piece) → List A → List Piece
separated between f [] = []
separated between f (x ∷ xs) = f x ++ gathered (λ y. between ∷ f y) xs

-- the parts with commas between them inside brackets, and nothing where there is no part
abbrev pub enclosed : List ℕ → List (List Piece) → List ℕ → List Piece
enclosed before [] after = []
enclosed before (x ∷ xs) after = a_sign before ∷ separated (a_sign (codes ",")) (λ p. p) (x ∷ xs) ++ a_sign after ∷ []
