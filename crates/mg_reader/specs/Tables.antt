-- The table of names that reading a text leaves.
use Rattle.std.specs.Prelude.{◌≡◌, ℕ, List, [], ◌∷◌, ◌++◌, ◌⊎◌}
use Rattle.gr_base.specs.Lists.{IsAmong}
use Rattle.gr_tokens.specs.declared.Kind.{Kind as Cut}
use Rattle.gr_tokens.specs.declared.Kind.TheVariants.{Word, Str, Var, Punct}
use Rattle.gr_tokens.specs.declared.Token.{Token}
use Rattle.gr_tokens.specs.Answers.{AreTokens}
use Rattle.gr_tokens.specs.Tokens.{Writes}
use Rattle.gr_tokens.specs.Spans.{slice_of}

-- the table behind a name: it stays where it has the text, and else gets it as its last
abbrev pub IsNamed : List ℕ → List (List ℕ) → List (List ℕ) → Type 0
IsNamed text old new = (IsAmong old text × (new ≡ old)) ⊎ ((¬ (IsAmong old text)) × (new ≡ old ++ text ∷ []))

-- the table behind a token with this text: those of words, strings and variables are names, and signs have none
abbrev pub IsBehind : Cut → List ℕ → List (List ℕ) → List (List ℕ) → Type 0
IsBehind Word text old new = IsNamed text old new
IsBehind Str text old new = IsNamed text old new
IsBehind Var text old new = IsNamed text old new
IsBehind Punct text old new = new ≡ old

-- the table behind tokens, which are taken one by one in their order
abbrev pub AreNumbered : List ℕ → List (List ℕ) → List Token → List (List ℕ) → Type 0
AreNumbered bytes old [] new = new ≡ old
AreNumbered bytes old (t ∷ ts) new = (text : List ℕ) × (next : List (List ℕ)) × Writes t.kind text (slice_of bytes t) × IsBehind t.kind text old next × AreNumbered bytes next ts new

-- the text has tokens, and the table is the one behind them
pub record HasTable (bytes : List ℕ) (old new : List (List ℕ)) : Type 0 where
  pub tokens : List Token
  pub are : AreTokens bytes tokens
  pub numbered : AreNumbered bytes old tokens new

-- the table behind a text: the one behind its tokens, and where it has none the old one
abbrev pub IsTable : List ℕ → List (List ℕ) → List (List ℕ) → Type 0
IsTable bytes old new = HasTable bytes old new ⊎ (((ts : List Token) → ¬ (AreTokens bytes ts)) × (new ≡ old))
