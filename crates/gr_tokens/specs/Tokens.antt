-- The tokens of a text of bytes.
use Rattle.std.specs.Prelude.{◌≡◌, ◌≢◌, ℕ, ◌≤◌, List, [], ◌∷◌, ◌++◌, length, ⊤, codes, Bool, ◌||◌, ◌==◌, IsTrue}
use Rattle.gr_base.specs.Lists.{IsAmong, Each}
use Rattle.gr_text.specs.Words.{is_word, IsStringByte}
use Rattle.gr_text.specs.Places.{place_after}
use Rattle.gr_tokens.specs.declared.Kind.{Kind}
use Rattle.gr_tokens.specs.declared.Kind.TheVariants.{Word, Str, Var, Punct}
use Rattle.gr_tokens.specs.declared.Token.{Token}

-- the signs: the tokens that are neither words, variables nor strings
abbrev pub signs : List (List ℕ)
signs =
    codes "->*" ∷ codes "->+" ∷ codes "->" ∷ codes ">>*" ∷ codes ">>+" ∷ codes ">>" ∷ codes ">" ∷ codes "<" ∷ codes "...+" ∷ codes "..." ∷ codes "." ∷ codes ",,," ∷ codes "," ∷ codes ";"
    ∷ codes ":" ∷ codes "=" ∷ codes "|" ∷ codes "!" ∷ codes "(" ∷ codes ")" ∷ codes "[" ∷ codes "]" ∷ codes "{" ∷ codes "}" ∷ []

-- The bytes are a token of this kind. Its text is, of a variable, the word behind `?`, of a string, what stands inside, and else all of it.
abbrev pub Writes : Kind → List ℕ → List ℕ → Type 0
Writes Word text own = (own ≡ text) × IsTrue (is_word text)
Writes Var text own = (own ≡ 63 ∷ text) × IsTrue (is_word text)
Writes Str text own = (own ≡ 34 ∷ text ++ 34 ∷ []) × Each IsStringByte text
Writes Punct text own = (own ≡ text) × IsAmong signs text

-- the bytes are a token, and with the rest behind them no longer front is one
pub record IsNext (kind : Kind) (text own rest : List ℕ) : Type 0 where
  pub writes : Writes kind text own
  pub longest : (k : Kind) (t front more : List ℕ) → front ++ more ≡ own ++ rest → Writes k t front → length front ≤ length own

-- a space, a tab, CR or LF
abbrev pub is_blank : ℕ → Bool
is_blank b = (b == 32) || ((b == 9) || ((b == 13) || (b == 10)))

-- the bytes begin with LF, or there are none
abbrev pub EndsLine : List ℕ → Type 0
EndsLine [] = ⊤
EndsLine (b ∷ bytes) = b ≡ 10

-- one blank, or a comment: `%` and all bytes before the next LF or the end
pub data IsGap (own rest : List ℕ) : Type 0 where
  blank : (b : ℕ) → own ≡ b ∷ [] → IsTrue (is_blank b) → IsGap own rest
  comment : (inside : List ℕ) → own ≡ 37 ∷ inside → Each (λ b. b ≢ 10) inside → EndsLine rest → IsGap own rest

-- the token is the own bytes, between those before them and the rest
pub record IsTokenAt (before own rest : List ℕ) (t : Token) : Type 0 where
  pub text : List ℕ
  pub next : IsNext t.kind text own rest
  pub short : length text ≤ 255
  pub begins : t.from ≡ length before
  pub ends : t.to ≡ length (before ++ own)
  pub stands : t.place ≡ place_after before

-- Behind the bytes before them, the bytes are these tokens, with blanks and comments anywhere around them, up to what is left.
pub data IsCut : List ℕ → List ℕ → List Token → List ℕ → Type 0 where
  nothing : {before left : List ℕ} → IsCut before left [] left
  a_gap : {before bytes : List ℕ} {ts : List Token} {left : List ℕ} (own rest : List ℕ) → bytes ≡ own ++ rest → IsGap own rest → IsCut (before ++ own) rest ts left → IsCut before bytes ts left
  a_token : {before bytes : List ℕ} {t : Token} {ts : List Token} {left : List ℕ} (own rest : List ℕ) → bytes ≡ own ++ rest → IsTokenAt before own rest t → IsCut (before ++ own) rest ts left → IsCut before bytes (t ∷ ts) left

-- neither a blank nor a comment begins the bytes
abbrev pub HasNoGap : List ℕ → Type 0
HasNoGap bytes = (own rest : List ℕ) → bytes ≡ own ++ rest → IsGap own rest → ⊥

-- no token with a text of at most 255 bytes begins the bytes
abbrev pub HasNoToken : List ℕ → Type 0
HasNoToken bytes = (kind : Kind) (text own rest : List ℕ) → bytes ≡ own ++ rest → IsNext kind text own rest → length text ≤ 255 → ⊥

-- cutting stops before these bytes: the first begins nothing, or a string without its end, or a token that is too long
pub record IsStuck (bytes : List ℕ) : Type 0 where
  pub some : bytes ≢ []
  pub no_gap : HasNoGap bytes
  pub no_token : HasNoToken bytes
