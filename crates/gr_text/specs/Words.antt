-- The bytes of words, words, and how a name is spelled.
use Rattle.std.specs.Prelude.{◌≡◌, ℕ, ◌+◌, ◌<◌, ◌≤◌, List, [], ◌∷◌, ◌++◌, length, Bool, true, false, ◌||◌, ◌&&◌, nat_le, ◌==◌, IsTrue, ◌⊎◌, slice_index, EachIndex}

-- an ASCII letter, an ASCII digit, `_`, or a byte of at least 0x80
abbrev pub is_word_byte : ℕ → Bool
is_word_byte b = (nat_le 48 b && nat_le b 57) || (nat_le 65 b && nat_le b 90) || (nat_le 97 b && nat_le b 122) || (b == 95) || nat_le 128 b

-- a word byte stands at the index
abbrev pub IsWordByteAt : List ℕ → ℕ → Type 0
IsWordByteAt text k = (k < length text) × IsTrue (is_word_byte (slice_index text k))

-- the byte at the index is a word byte, or a `-` that stands right before one
abbrev pub FitsWordAt : List ℕ → ℕ → Type 0
FitsWordAt text k = IsWordByteAt text k ⊎ ((slice_index text k ≡ 45) × IsWordByteAt text (k + 1))

-- the text is one word: it begins with a word byte, and each byte fits
pub record IsBareWord (text : List ℕ) : Type 0 where
  pub begins : IsWordByteAt text 0
  pub fits : EachIndex text (λ k. FitsWordAt text k)

-- the same as a test: word bytes, and dashes that stand right before one
abbrev pub begins_with_word_byte : List ℕ → Bool
begins_with_word_byte [] = false
begins_with_word_byte (b ∷ bs) = is_word_byte b

abbrev pub is_word_rest : List ℕ → Bool
is_word_rest [] = true
is_word_rest (b ∷ bs) = (is_word_byte b || ((b == 45) && begins_with_word_byte bs)) && is_word_rest bs

abbrev pub is_word : List ℕ → Bool
is_word text = begins_with_word_byte text && is_word_rest text

-- a byte that may stand inside a string: not `"`, not `\`, not below 0x20 and not 0x7F
abbrev pub IsStringByte : ℕ → Type 0
IsStringByte b = (32 ≤ b) × (b ≡ 34 → ⊥) × (b ≡ 92 → ⊥) × (b ≡ 127 → ⊥)

-- the text between `"`
abbrev pub quoted : List ℕ → List ℕ
quoted text = 34 ∷ text ++ 34 ∷ []

-- the spelling of a name: a word stands for itself, and any other text stands between `"`
abbrev pub Spells : List ℕ → List ℕ → Type 0
Spells spelling text = (IsBareWord text × (spelling ≡ text)) ⊎ ((¬ (IsBareWord text)) × (spelling ≡ quoted text))
