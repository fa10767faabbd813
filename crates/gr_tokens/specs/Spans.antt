-- What callers need of the tokens of a text: each is a slice of it, and they stand in order.
use Rattle.std.specs.Prelude.{◌≡◌, ℕ, ◌-◌, ◌<◌, ◌≤◌, List, [], ◌∷◌, length, take, drop, ⊤}
use Rattle.gr_base.specs.Lists.{Each}
use Rattle.gr_text.specs.Places.{place_after}
use Rattle.gr_tokens.specs.declared.Token.{Token}
use Rattle.gr_tokens.specs.declared.Kind.{Kind}
use Rattle.gr_tokens.specs.Tokens.{Writes}
use Rattle.gr_tokens.specs.Answers.{AreTokens}

-- the bytes of the text between the token's ends
abbrev pub slice_of : List ℕ → Token → List ℕ
slice_of bytes t = take (t.to - t.from) (drop t.from bytes)

-- the slice is a token of its kind, and its place is that of the slice
pub record IsSliceOf (bytes : List ℕ) (t : Token) : Type 0 where
  pub text : List ℕ
  pub writes : Writes t.kind text (slice_of bytes t)
  pub short : length text ≤ 255
  pub some : t.from < t.to
  pub within : t.to ≤ length bytes
  pub stands : t.place ≡ place_after (take t.from bytes)

-- each token ends before the next ones begin
abbrev pub InOrder : List Token → Type 0
InOrder [] = ⊤
InOrder (t ∷ ts) = Each (λ u. t.to ≤ u.from) ts × InOrder ts

-- the token of this kind that is the whole of the bytes
abbrev pub only_token : Kind → List ℕ → Token
only_token kind bytes = record { kind = kind; from = 0; to = length bytes; place = record { line = 1; column = 1 } }

-- the bytes are one token of this kind with this text, and nothing else
pub record IsNameRead (kind : Kind) (text bytes : List ℕ) : Type 0 where
  pub writes : Writes kind text bytes
  pub tokens : AreTokens bytes (only_token kind bytes ∷ [])
