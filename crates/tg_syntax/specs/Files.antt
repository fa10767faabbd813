-- The grammar of a whole grammar text, version 1, and its system.
use Rattle.std.specs.Prelude.{ℕ, zero, suc, List, [], ◌∷◌, ◌++◌, codes, true, false}
use Rattle.gr_grammar.specs.Grammars.{Grammar, tok, nil, seq, alt, star, part, System, Info}
use Rattle.tg_syntax.specs.declared.class.Class.{Class}
use Rattle.tg_syntax.specs.declared.class.Class.TheVariants.{Byte, WordByte, StringByte, Digit}
use Rattle.tg_syntax.specs.Bytes.{test, apart}
use Rattle.tg_syntax.specs.Families.{pick, other_part}
use Rattle.tg_syntax.specs.Names.{keyword, word_rest, word, string_rest, number, pair}
use Rattle.tg_syntax.specs.Trees.{node, tree}

-- the lines of a class behind its first
abbrev pub LINES : ℕ
LINES = other_part 0

-- the end of a line
abbrev pub line_end : Grammar Class
line_end = tok (Byte 10)

-- the rest of a tree's line behind `tree`
abbrev pub tree_rest : Grammar Class
tree_rest = seq (tok (Byte 32)) (seq number (seq (tok (Byte 32)) (seq tree line_end)))

-- the rest of the last line of a class that is whole, behind `tree`
abbrev pub trees_rest : Grammar Class
trees_rest = seq (keyword (codes "s ")) (seq number line_end)

-- the last line of a class that was cut
abbrev pub cut_line : Grammar Class
cut_line = seq (keyword (codes "cut ")) (seq number line_end)

-- a line for each tree, and then `trees` or `cut` with a number
abbrev pub lines : Grammar Class
lines = alt (seq (keyword (codes "tree")) (alt (seq tree_rest (part LINES)) trees_rest)) cut_line

abbrev pub class : Grammar Class
class = seq (keyword (codes "class ")) (seq word (seq line_end (part LINES)))

abbrev pub file : Grammar Class
file = seq (keyword (codes "grammar 1" ++ 10 ∷ [])) (seq (star class) (keyword (codes "end" ++ 10 ∷ [])))

-- the other parts: the lines of a class, and a property
abbrev pub others : ℕ → Grammar Class
others zero = lines
others (suc zero) = pair
others (suc (suc n)) = nil

-- what is written down of the parts
abbrev pub word_firsts : ℕ → List Class
word_firsts zero = []
word_firsts (suc zero) = WordByte ∷ []
word_firsts (suc (suc n)) = WordByte ∷ Byte 45 ∷ []

abbrev pub string_firsts : ℕ → List Class
string_firsts zero = []
string_firsts (suc n) = StringByte ∷ []

abbrev pub term_ends : List Class
term_ends = WordByte ∷ Byte 45 ∷ Digit ∷ []

abbrev pub word_info : ℕ → Info Class
word_info n = record { null = true; first = word_firsts n; goes = WordByte ∷ Byte 45 ∷ [] }

abbrev pub string_info : ℕ → Info Class
string_info n = record { null = true; first = string_firsts n; goes = StringByte ∷ [] }

abbrev pub node_info : ℕ → Info Class
node_info n = record { null = false; first = Byte 45 ∷ WordByte ∷ Byte 34 ∷ Byte 63 ∷ []; goes = Byte 123 ∷ Byte 94 ∷ Byte 47 ∷ Byte 40 ∷ term_ends }

abbrev pub other_info : ℕ → Info Class
other_info zero = record { null = false; first = Byte 116 ∷ Byte 99 ∷ []; goes = [] }
other_info (suc zero) = record { null = false; first = WordByte ∷ []; goes = term_ends }
other_info (suc (suc n)) = record { null = true; first = []; goes = [] }

abbrev pub parts : ℕ → Grammar Class
parts n = pick word_rest string_rest node others n

abbrev pub info : ℕ → Info Class
info n = pick word_info string_info node_info other_info n

abbrev pub system : System Class ℕ
system = record { test = test; apart = apart; parts = parts; info = info }
