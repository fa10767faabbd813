-- The lexemes of a text, under a table of names.
use Rattle.std.specs.Prelude.{◌≡◌, ℕ, List, [], ◌∷◌, ⊤}
use Rattle.gr_symbols.specs.Numbers.{Names}
use Rattle.gr_terms.specs.declared.Sym.{Sym}
use Rattle.gr_terms.specs.declared.TheConstants.{EMPTY}
use Rattle.gr_tokens.specs.declared.Kind.{Kind as Cut}
use Rattle.gr_tokens.specs.declared.Kind.TheVariants.{Word, Str, Var, Punct}
use Rattle.gr_tokens.specs.declared.Token.{Token}
use Rattle.gr_tokens.specs.Answers.{AreTokens}
use Rattle.gr_tokens.specs.Tokens.{Writes}
use Rattle.gr_tokens.specs.Spans.{slice_of}
use Rattle.mg_reader.specs.declared.lexeme.Kind.{Kind}
use Rattle.mg_reader.specs.declared.lexeme.Kind.TheVariants as kind
use Rattle.mg_reader.specs.declared.lexeme.Lexeme.{Lexeme}
use Rattle.mg_reader.specs.Kinds.{word_kind, sign_kind}

-- the kind of a token with this text
abbrev pub kind_of : Cut → List ℕ → Kind
kind_of Word text = word_kind text
kind_of Str text = kind.Str
kind_of Var text = kind.Var
kind_of Punct text = sign_kind text

-- the name of a token with this text: its number in the table, and for a sign that of the empty text
abbrev pub HasName : List (List ℕ) → Cut → List ℕ → Sym → Type 0
HasName texts Word text s = Names texts s.0 text
HasName texts Str text s = Names texts s.0 text
HasName texts Var text s = Names texts s.0 text
HasName texts Punct text s = s ≡ EMPTY

-- the lexeme is the token's. Its text is, of a variable, the word behind `?`, of a string, what stands inside, and else all of it
pub record IsLexeme (bytes : List ℕ) (texts : List (List ℕ)) (t : Token) (l : Lexeme) : Type 0 where
  pub text : List ℕ
  pub writes : Writes t.kind text (slice_of bytes t)
  pub is : l.kind ≡ kind_of t.kind text
  pub named : HasName texts t.kind text l.name
  pub stands : l.place ≡ t.place

-- the lexemes are those of the tokens, one by one
abbrev pub EachIs : List ℕ → List (List ℕ) → List Token → List Lexeme → Type 0
EachIs bytes texts [] [] = ⊤
EachIs bytes texts [] (l ∷ ls) = ⊥
EachIs bytes texts (t ∷ ts) [] = ⊥
EachIs bytes texts (t ∷ ts) (l ∷ ls) = IsLexeme bytes texts t l × EachIs bytes texts ts ls

-- the text has tokens, and these are their lexemes
pub record AreLexemes (bytes : List ℕ) (texts : List (List ℕ)) (ls : List Lexeme) : Type 0 where
  pub tokens : List Token
  pub are : AreTokens bytes tokens
  pub each : EachIs bytes texts tokens ls
