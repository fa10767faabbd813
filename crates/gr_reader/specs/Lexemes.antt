-- What a grammar sees of the tokens of a text: their kinds and their texts.
use Rattle.std.specs.Prelude.{ℕ, ◌+◌, ◌-◌, ◌≤◌, List, length, map, slice_range}
use Rattle.std.specs.Str.{IsUtf8}
use Rattle.gr_tokens.specs.declared.Kind.{Kind}
use Rattle.gr_tokens.specs.declared.Kind.TheVariants.{Word, Str, Var, Punct}
use Rattle.gr_tokens.specs.declared.Token.{Token}

-- a word, a string, a variable or a sign. The text of a string is what stands inside it, that of a variable its word
pub record Lexeme : Type 0 where
  pub kind : Kind
  pub text : List ℕ

-- how many bytes of a token stand before its text: the `?` of a variable, the first `"` of a string
abbrev pub before_text : Kind → ℕ
before_text Word = 0
before_text Str = 1
before_text Var = 1
before_text Punct = 0

-- how many stand behind it: the second `"` of a string
abbrev pub behind_text : Kind → ℕ
behind_text Word = 0
behind_text Str = 1
behind_text Var = 0
behind_text Punct = 0

abbrev pub text_from : Token → ℕ
text_from t = t.from + before_text t.kind

abbrev pub text_to : Token → ℕ
text_to t = t.to - behind_text t.kind

-- the lexeme of a token of these bytes
abbrev pub lexeme_of : List ℕ → Token → Lexeme
lexeme_of bytes t = record { kind = t.kind; text = slice_range bytes (text_from t) (text_to t) }

abbrev pub lexemes : List ℕ → List Token → List Lexeme
lexemes bytes ts = map (lexeme_of bytes) ts

-- the token's text stands in the bytes
pub record HasText (bytes : List ℕ) (t : Token) : Type 0 where
  pub order : text_from t ≤ text_to t
  pub behind : behind_text t.kind ≤ t.to
  pub within : text_to t ≤ length bytes
  pub utf8 : IsUtf8 (slice_range bytes (text_from t) (text_to t))
