-- The places of tokens by their numbers.
use Rattle.std.specs.Prelude.{ℕ, List, Option, Some, None, slice_get}
use Rattle.gr_text.specs.declared.Place.{Place}
use Rattle.gr_text.specs.Places.{place_after}
use Rattle.gr_tokens.specs.declared.Token.{Token}

-- the place of the token, or that of the end of the bytes
abbrev pub place_or_end : List ℕ → Option Token → Place
place_or_end bytes (Some t) = t.place
place_or_end bytes None = place_after bytes

-- the place of the token with the number n, counted from 0, or where there is none that of the end of the bytes
abbrev pub place_of_token : List ℕ → List Token → ℕ → Place
place_of_token bytes ts n = place_or_end bytes (slice_get ts n)
