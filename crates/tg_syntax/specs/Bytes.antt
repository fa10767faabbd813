-- The classes of bytes that grammar text tells apart.
use Rattle.std.specs.Prelude.{ℕ, Bool, false, not, ◌==◌, ◌&&◌, nat_le, Option, Some, None}
use Rattle.gr_text.specs.Words.{is_word_byte}
use Rattle.tg_syntax.specs.declared.class.Class.{Class}
use Rattle.tg_syntax.specs.declared.class.Class.TheVariants.{Byte, WordByte, WordByteBut, StringByte, Digit, HighDigit}

-- a byte that may stand inside a string: not `"`, not `\`, not below 0x20 and not 0x7F
abbrev pub is_string_byte : ℕ → Bool
is_string_byte t = nat_le 32 t && (not (t == 34) && (not (t == 92) && not (t == 127)))

abbrev pub test : Class → ℕ → Bool
test (Byte b) t = t == b
test WordByte t = is_word_byte t
test (WordByteBut b) t = is_word_byte t && not (t == b)
test StringByte t = is_string_byte t
test Digit t = nat_le 48 t && nat_le t 57
test HighDigit t = nat_le 49 t && nat_le t 57

-- the one byte of a class
abbrev pub only_byte : Class → Option ℕ
only_byte (Byte b) = Some b
only_byte _ = None

-- a class of one byte shares it with no class that doesn't have it
abbrev pub apart : Class → Class → Bool
apart c d = elim (only_byte c) [ Some a ↦ not (test d a) | None ↦ elim (only_byte d) [ Some b ↦ not (test c b) | None ↦ false ] ]
