-- What the front of some bytes is, for the functions that look at one.
use Rattle.std.specs.Prelude.{ℕ, ◌+◌, ◌<◌, ◌≤◌, List, [], ◌∷◌, length, take, drop, Bool, ◌||◌, ◌&&◌, ◌==◌, if◌then◌else◌, IsFalse, ⊤}
use Rattle.gr_text.specs.Words.{is_word_byte, begins_with_word_byte, IsStringByte}
use Rattle.gr_text.specs.Cursors.{StandsAt}
use Rattle.gr_tokens.specs.declared.Kind.{Kind}
use Rattle.gr_tokens.specs.declared.Token.{Token}
use Rattle.gr_tokens.specs.declared.cut.Here.{Here}
use Rattle.gr_tokens.specs.Tokens.{IsNext, IsCut}

-- no word goes on with these bytes
abbrev pub EndsWord : List ℕ → Type 0
EndsWord [] = ⊤
EndsWord (b ∷ bytes) = IsFalse (is_word_byte b || ((b == 45) && begins_with_word_byte bytes))

-- the bytes begin with none that may stand inside a string
abbrev pub EndsInside : List ℕ → Type 0
EndsInside [] = ⊤
EndsInside (b ∷ bytes) = IsStringByte b → ⊥

-- the first n bytes are a token of this kind, whose text isn't too long
pub record BeginsWith (bytes : List ℕ) (kind : Kind) (n : ℕ) : Type 0 where
  pub text : List ℕ
  pub next : IsNext kind text (take n bytes) (drop n bytes)
  pub short : length text ≤ 255
  pub within : n ≤ length bytes

-- `*` or `+`, which some signs end with
abbrev pub repeat_width : ℕ → ℕ
repeat_width b = if (b == 42) || (b == 43) then 1 else 0

abbrev pub dots_width : ℕ → ℕ
dots_width b = if b == 43 then 4 else 3

-- the sign of one byte
abbrev pub is_lone_sign : ℕ → Bool
is_lone_sign b = (b == 60) || ((b == 59) || ((b == 58) || ((b == 61) || ((b == 124) || ((b == 33) || ((b == 40) || ((b == 41) || ((b == 91) || ((b == 93) || ((b == 123) || (b == 125)))))))))))

-- the width of the longest sign that four bytes begin with, 0 where there is none
abbrev pub sign_width : ℕ → ℕ → ℕ → ℕ → ℕ
sign_width a b c d =
    if a == 45 then (if b == 62 then 2 + repeat_width c else 0)
    else (if a == 62 then (if b == 62 then 2 + repeat_width c else 1)
    else (if a == 46 then (if (b == 46) && (c == 46) then dots_width d else 1)
    else (if a == 44 then (if (b == 44) && (c == 44) then 3 else 1)
    else (if is_lone_sign a then 1 else 0))))

-- the line and the column are those of the byte
abbrev pub IsHere : List ℕ → Here → Type 0
IsHere bytes here = StandsAt bytes here.at here.place.line here.place.column

-- from one place to a later one stand only blanks and comments
pub record Skips (bytes : List ℕ) (here next : Here) : Type 0 where
  pub stands : IsHere bytes next
  pub on : here.at ≤ next.at
  pub cut : (ts : List Token) (left : List ℕ) → IsCut (take next.at bytes) (drop next.at bytes) ts left → IsCut (take here.at bytes) (drop here.at bytes) ts left

-- from one place to a later one stands this token
pub record Passes (bytes : List ℕ) (here : Here) (t : Token) (next : Here) : Type 0 where
  pub stands : IsHere bytes next
  pub on : here.at < next.at
  pub cut : (ts : List Token) (left : List ℕ) → IsCut (take next.at bytes) (drop next.at bytes) ts left → IsCut (take here.at bytes) (drop here.at bytes) (t ∷ ts) left
