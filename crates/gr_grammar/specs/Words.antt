-- An example of a counted grammar: words of at most 255 bytes. Part n is what may follow in a word with n bytes left. Class 0 is a word byte, and class 1 a dash, which stands right before a word byte.
use Rattle.std.specs.Prelude.{◌≡◌, ℕ, zero, suc, ◌≤◌, List, [], ◌∷◌, length, true, ◌==◌, not, ◌⊎◌, ⊤}
use Rattle.gr_grammar.specs.Grammars.{Grammar, tok, nil, seq, alt, part, System}

abbrev pub rests : ℕ → Grammar ℕ
rests zero = nil
rests (suc zero) = alt (seq (tok 0) (part 0)) nil
rests (suc (suc n)) = alt (seq (tok 0) (part (suc n))) (alt (seq (tok 1) (seq (tok 0) (part n))) nil)

abbrev pub firsts : ℕ → List ℕ
firsts zero = []
firsts (suc zero) = 0 ∷ []
firsts (suc (suc n)) = 0 ∷ 1 ∷ []

abbrev pub words : System ℕ ℕ
words = record { test = λ c t. c == t; apart = λ c d. not (c == d); parts = rests; info = λ n. record { null = true; first = firsts n; goes = 0 ∷ 1 ∷ [] } }

-- a word of at most 255 bytes
abbrev pub word : Grammar ℕ
word = seq (tok 0) (part 254)

-- what such a word is: it begins with a word byte, its other bytes are word bytes and dashes that stand right before one, and it has at most 255
abbrev pub BeginsWithWordByte : List ℕ → Type 0
BeginsWithWordByte [] = ⊥
BeginsWithWordByte (t ∷ ts) = t ≡ 0

abbrev pub IsWordRest : List ℕ → Type 0
IsWordRest [] = ⊤
IsWordRest (t ∷ ts) = ((t ≡ 0) ⊎ ((t ≡ 1) × BeginsWithWordByte ts)) × IsWordRest ts

abbrev pub IsShortWord : List ℕ → Type 0
IsShortWord ts = BeginsWithWordByte ts × IsWordRest ts × (length ts ≤ 255)
