-- Which answer is right for a text of bytes.
use Rattle.std.specs.Prelude.{◌≡◌, ℕ, List, [], ◌++◌, Result, Ok, Err}
use Rattle.std.specs.Str.{IsUtf8, IsValidUpTo}
use Rattle.gr_text.specs.declared.Place.{Place}
use Rattle.gr_text.specs.Places.{place_after}
use Rattle.gr_tokens.specs.declared.Token.{Token}
use Rattle.gr_tokens.specs.declared.ReadRefusal.{ReadRefusal}
use Rattle.gr_tokens.specs.declared.ReadRefusal.TheVariants.{Syntax, NotUtf8}
use Rattle.gr_tokens.specs.Tokens.{IsCut, IsStuck}

-- the text is UTF-8, and its tokens are these
pub record AreTokens (bytes : List ℕ) (ts : List Token) : Type 0 where
  pub utf8 : IsUtf8 bytes
  pub cut : IsCut [] bytes ts []

-- the text is UTF-8, and this is the place of the first byte where cutting stops
pub record IsSyntaxFault (bytes : List ℕ) (place : Place) : Type 0 where
  pub utf8 : IsUtf8 bytes
  pub ts : List Token
  pub before : List ℕ
  pub left : List ℕ
  pub split : bytes ≡ before ++ left
  pub cut : IsCut [] bytes ts left
  pub stuck : IsStuck left
  pub here : place ≡ place_after before

-- The text has no tokens for this reason: it isn't UTF-8 behind its first n bytes, or cutting stops at a place. There is no other.
abbrev pub IsRefused : List ℕ → ReadRefusal → Type 0
IsRefused bytes (NotUtf8 n) = (IsUtf8 bytes → ⊥) × IsValidUpTo bytes n
IsRefused bytes (Syntax place) = IsSyntaxFault bytes place
IsRefused bytes _ = ⊥

-- the right answer
abbrev pub IsRight : List ℕ → Result (List Token) ReadRefusal → Type 0
IsRight bytes (Ok ts) = AreTokens bytes ts
IsRight bytes (Err refusal) = IsRefused bytes refusal
