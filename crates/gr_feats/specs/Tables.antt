-- The table of names behind a text that was read: it has the texts of its names and variables, which are taken one after another.
use Rattle.std.specs.Prelude.{◌≡◌, ℕ, List, [], ◌∷◌, ◌++◌, Bool, true, false}
use Rattle.gr_symbols.specs.Numbers.{with_texts}
use Rattle.gr_grammar.specs.Grammars.{Grammar, System, Matches, a_token, no_token, both, the_left, the_right, no_more, one_more, by_part}
use Rattle.gr_reader.specs.Lexemes.{Lexeme}
use Rattle.gr_reader.specs.Classes.{Class, sign, keyword, any_word, word_but, word_among, any_string, any_name, variable, flat}

-- the class leaves open which text a lexeme has, so that it is a name or a variable; a sign or a word that the grammar itself has is none
abbrev pub is_open : Class → Bool
is_open (sign s) = false
is_open (keyword w) = false
is_open any_word = true
is_open (word_but ws) = true
is_open (word_among w ws) = true
is_open any_string = true
is_open any_name = true
is_open variable = true

abbrev pub text_if : Bool → List ℕ → List (List ℕ)
text_if true text = text ∷ []
text_if false text = []

-- the texts of the names and variables of a text, in its order, each as often as it stands there
abbrev pub names_in : {S : System Class Lexeme} {g : Grammar Class} {ts rest : List Lexeme} → Matches S g ts rest → List (List ℕ)
names_in (a_token {c} {t} h) = text_if (is_open c) t.text
names_in no_token = []
names_in (both m n) = names_in m ++ names_in n
names_in (the_left m) = names_in m
names_in (the_right m) = names_in m
names_in no_more = []
names_in (one_more m) = names_in m
names_in (by_part m) = names_in m

-- a text of the grammar begins the lexemes, and the new table is the old one with its names and variables
pub record PutsNames (g : Grammar Class) (old new : List (List ℕ)) (ts rest : List Lexeme) : Type 0 where
  pub tree : Matches flat g ts rest
  pub table : new ≡ with_texts old (names_in tree)
