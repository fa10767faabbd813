-- The table of names behind inputs: it has the texts of their names and variables, and the names of the handles that were left out.
use Rattle.std.specs.Prelude.{ℕ, suc, List, [], ◌∷◌, ◌++◌, Option, Some, None}
use Rattle.gr_base.specs.Lists.{gathered}
use Rattle.gr_grammar.specs.Grammars.{Matches, items}
use Rattle.gr_reader.specs.Lexemes.{Lexeme}
use Rattle.gr_reader.specs.Classes.{flat}
use Rattle.gr_feats.specs.Grammars.{WrittenLiteral}
use Rattle.gr_feats.specs.Tables.{names_in}
use Rattle.sm_input.specs.Firsts.{firsts}
use Rattle.sm_input.specs.Grammars.{input_text, input_of, inputs_text}
use Rattle.sm_input.specs.Inputs.{own_name}

-- the name of the handle of the literal with this number, where it was left out
abbrev pub own_if : {A : Type 0} → ℕ → Option A → List (List ℕ)
own_if number None = own_name number ∷ []
own_if number (Some handle) = []

-- the names of the handles that were left out at these literals, the first of which has this number
abbrev pub own_names : ℕ → List WrittenLiteral → List (List ℕ)
own_names number [] = []
own_names number (w ∷ ws) = own_if number w.handle ++ own_names (suc number) ws

-- the texts of the names and variables of an input, in the order of the text, and behind them the names of the handles that were left out
abbrev pub input_names : {ts rest : List Lexeme} → Matches flat input_text ts rest → List (List ℕ)
input_names m = names_in m ++ own_names 1 (firsts [] (input_of m).literals)

-- the same of one input after another
abbrev pub inputs_names : {ts rest : List Lexeme} → Matches flat inputs_text ts rest → List (List ℕ)
inputs_names m = gathered (λ names. names) (items (λ ts rest m. input_names m) m)
