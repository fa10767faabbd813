-- Brackets: what a lexeme does to those that are open, and how many lexemes stand before the first that opens too deep.
use Rattle.std.specs.Prelude.{ℕ, List, [], ◌∷◌, codes, Bool, true, false, ◌&&◌, ◌==◌}
use Rattle.gr_grammar.specs.declared.brackets.Turn.{Turn}
use Rattle.gr_grammar.specs.declared.brackets.Turn.TheVariants.{Opens, Closes, Neither}
use Rattle.gr_grammar.specs.Depths.{shallow_len}
use Rattle.gr_tokens.specs.declared.Token.{Token}
use Rattle.gr_reader.specs.Lexemes.{Lexeme, lexemes}
use Rattle.gr_reader.specs.Classes.{kind_number, is_one_of}

abbrev pub opening : List (List ℕ)
opening = codes "(" ∷ codes "[" ∷ codes "{" ∷ []

abbrev pub closing : List (List ℕ)
closing = codes ")" ∷ codes "]" ∷ codes "}" ∷ []

abbrev pub turn_by : Bool → Bool → Turn
turn_by true c = Opens
turn_by false true = Closes
turn_by false false = Neither

-- only signs are brackets
abbrev pub turn : Lexeme → Turn
turn t = turn_by ((kind_number t.kind == 3) && is_one_of opening t.text) ((kind_number t.kind == 3) && is_one_of closing t.text)

-- how many tokens stand before the first bracket that opens inside 200 open ones
abbrev pub shallow_tokens : List ℕ → List Token → ℕ
shallow_tokens bytes ts = shallow_len turn 200 0 (lexemes bytes ts)
