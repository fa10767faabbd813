-- The grammar of a file of inputs, and what its texts are.
use Rattle.std.specs.Prelude.{ℕ, List, [], length, codes}
use Rattle.gr_grammar.specs.Grammars.{Grammar, tok, nil, seq, alt, star, Matches, both, the_left, the_right, items}
use Rattle.gr_reader.specs.Lexemes.{Lexeme}
use Rattle.gr_reader.specs.Classes.{Class, sign, keyword, any_word, flat}
use Rattle.gr_reader.specs.Parts.{token_of}
use Rattle.gr_feats.specs.Grammars.{WrittenPair, WrittenLiteral, bag_text, bag_of, closed_literals_text, closed_literals_of}

-- the grammar; an optional part stands before `nil`
abbrev pub perhaps_bag_text : Grammar Class
perhaps_bag_text = alt bag_text nil

abbrev pub input_text : Grammar Class
input_text = seq (tok (keyword (codes "input"))) (seq (tok any_word) (seq perhaps_bag_text (seq (tok (sign (codes "{"))) closed_literals_text)))

abbrev pub inputs_text : Grammar Class
inputs_text = star input_text

-- an input as it is written: how many lexemes are left at its word `input`, itself among them, its name, its start features, of which there are none where the bag is left out, and its literals
pub record WrittenInput : Type 0 where
  pub left : ℕ
  pub name : List ℕ
  pub start : List WrittenPair
  pub literals : List WrittenLiteral

-- what the texts are
abbrev pub perhaps_bag_of : {ts rest : List Lexeme} → Matches flat perhaps_bag_text ts rest → List WrittenPair
perhaps_bag_of (the_left m) = bag_of m
perhaps_bag_of (the_right m) = []

abbrev pub input_of : {ts rest : List Lexeme} → Matches flat input_text ts rest → WrittenInput
input_of {ts} (both w (both n (both b (both o ls)))) = record { left = length ts; name = (token_of n).text; start = perhaps_bag_of b; literals = closed_literals_of ls }

abbrev pub inputs_of : {ts rest : List Lexeme} → Matches flat inputs_text ts rest → List WrittenInput
inputs_of m = items (λ ts rest m. input_of m) m
