-- How lexemes are spelled, and the text that is printed from items of lexemes.
use Rattle.std.specs.Prelude.{◌≡◌, ℕ, ◌≤◌, cond, List, [], ◌∷◌, ◌++◌, length, map, ⊤}
use Rattle.std.specs.List.{join_with_byte}
use Rattle.std.specs.Str.{IsUtf8}
use Rattle.gr_base.specs.Lists.{Each, gathered}
use Rattle.gr_text.specs.Words.{is_word, IsStringByte, quoted}
use Rattle.gr_tokens.specs.declared.Kind.{Kind}
use Rattle.gr_tokens.specs.declared.Kind.TheVariants.{Word, Str, Var, Punct}
use Rattle.gr_tokens.specs.declared.Token.{Token}
use Rattle.gr_tokens.specs.Tokens.{Writes}
use Rattle.gr_tokens.specs.Spans.{slice_of}
use Rattle.gr_reader.specs.Lexemes.{Lexeme}

-- the bytes that spell a text of a kind
abbrev pub spelled : Kind → List ℕ → List ℕ
spelled Word text = text
spelled Var text = 63 ∷ text
spelled Str text = quoted text
spelled Punct text = text

abbrev pub spelling : Lexeme → List ℕ
spelling l = spelled l.kind l.text

-- the lexeme is one of the language: its spelling is a token of its kind, and its text isn't too long
pub record IsLexeme (l : Lexeme) : Type 0 where
  pub writes : Writes l.kind l.text (spelling l)
  pub short : length l.text ≤ 255
  pub utf8 : IsUtf8 l.text

-- the lexeme of a name: a word where the text is one, else a string
abbrev pub name_kind : List ℕ → Kind
name_kind text = cond (is_word text) Word Str

abbrev pub name_lexeme : List ℕ → Lexeme
name_lexeme text = record { kind = name_kind text; text = text }

-- the text may be a name: it can stand inside a string, and isn't too long
pub record IsNameText (text : List ℕ) : Type 0 where
  pub inside : Each IsStringByte text
  pub short : length text ≤ 255
  pub utf8 : IsUtf8 text

-- one item on a line of its own: its lexemes with one space between each two, then LF
abbrev pub line_of : List Lexeme → List ℕ
line_of ls = join_with_byte 32 (map spelling ls) ++ 10 ∷ []

-- the items in order
abbrev pub printed : List (List Lexeme) → List ℕ
printed items = gathered line_of items

-- the token of the text says what the lexeme says
pub record Says (bytes : List ℕ) (t : Token) (l : Lexeme) : Type 0 where
  pub kind : t.kind ≡ l.kind
  pub writes : Writes l.kind l.text (slice_of bytes t)

-- the tokens of the text say just these lexemes, one after another
abbrev pub SayAll : List ℕ → List Token → List Lexeme → Type 0
SayAll bytes [] [] = ⊤
SayAll bytes [] (l ∷ ls) = ⊥
SayAll bytes (t ∷ ts) [] = ⊥
SayAll bytes (t ∷ ts) (l ∷ ls) = Says bytes t l × SayAll bytes ts ls

-- lexemes behind others on a line, each with the space before it
abbrev pub spaced : List Lexeme → List ℕ
spaced ls = gathered (λ l. 32 ∷ spelling l) ls
