-- The grammar of names, numbers, variables and pairs, over bytes.
use Rattle.std.specs.Prelude.{ℕ, zero, suc, List, [], ◌∷◌}
use Rattle.gr_grammar.specs.Grammars.{Grammar, tok, nil, seq, alt, star, part}
use Rattle.tg_syntax.specs.declared.class.Class.{Class}
use Rattle.tg_syntax.specs.declared.class.Class.TheVariants.{Byte, WordByte, StringByte, Digit, HighDigit}
use Rattle.tg_syntax.specs.Families.{word_part, string_part}

-- these bytes
abbrev pub keyword : List ℕ → Grammar Class
keyword [] = nil
keyword (b ∷ bs) = seq (tok (Byte b)) (keyword bs)

-- what may follow in a word with n bytes left: word bytes, and dashes, each right before a word byte
abbrev pub word_rest : ℕ → Grammar Class
word_rest zero = nil
word_rest (suc zero) = alt (seq (tok WordByte) (part (word_part 0))) nil
word_rest (suc (suc n)) = alt (seq (tok WordByte) (part (word_part (suc n)))) (alt (seq (tok (Byte 45)) (seq (tok WordByte) (part (word_part n)))) nil)

-- a word of at most 255 bytes
abbrev pub word : Grammar Class
word = seq (tok WordByte) (part (word_part 254))

-- what may stand inside a string with n bytes left
abbrev pub string_rest : ℕ → Grammar Class
string_rest zero = nil
string_rest (suc n) = alt (seq (tok StringByte) (part (string_part n))) nil

-- a string with at most 255 bytes inside
abbrev pub string : Grammar Class
string = seq (tok (Byte 34)) (seq (part (string_part 255)) (tok (Byte 34)))

-- at most n digits
abbrev pub digits : ℕ → Grammar Class
digits zero = nil
digits (suc n) = alt (seq (tok Digit) (digits n)) nil

-- `0`, or one to nine digits that don't begin with `0`
abbrev pub number : Grammar Class
number = alt (tok (Byte 48)) (seq (tok HighDigit) (digits 8))

-- `?` and a number
abbrev pub variable : Grammar Class
variable = seq (tok (Byte 63)) number

-- a name or a variable
abbrev pub term : Grammar Class
term = alt word (alt string variable)

-- an attribute, `=` and its value
abbrev pub pair : Grammar Class
pair = seq word (seq (tok (Byte 61)) term)

abbrev pub pairs : Grammar Class
pairs = seq pair (star (seq (tok (Byte 44)) pair))

-- pairs in brackets
abbrev pub bag : Grammar Class
bag = seq (tok (Byte 91)) (seq pairs (tok (Byte 93)))
