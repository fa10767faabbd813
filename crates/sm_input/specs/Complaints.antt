-- What is wrong with a file of inputs that can be read.
use Rattle.std.specs.Prelude.{ℕ, suc, List, [], ◌∷◌, ◌++◌, length, Option, Some, None, ◌==◌, nat_lt, if◌then◌else◌}
use Rattle.gr_grammar.specs.Grammars.{Matches}
use Rattle.gr_reader.specs.Lexemes.{Lexeme}
use Rattle.gr_reader.specs.Classes.{flat, test, variable}
use Rattle.gr_reader.specs.declared.complaints.Complaint.{Complaint}
use Rattle.gr_reader.specs.declared.complaints.Fault.TheVariants.{Variable, InputLiterals, TooManyInputs}
use Rattle.gr_feats.specs.Complaints.{complaint_if, complaint_at, bag_bad}
use Rattle.sm_input.specs.Grammars.{WrittenInput, inputs_text, inputs_of}
use Rattle.sm_input.specs.Firsts.{firsts}

-- An input is complained of at its word where it has too many different literals, and where too many inputs stand before it; its start features are at the first attribute that stands a second time. Of two complaints at one place the one that stands first here counts.
abbrev pub input_bad : ℕ → WrittenInput → List Complaint
input_bad number w =
    complaint_if (nat_lt 24 (length (firsts [] w.literals))) InputLiterals w.left
    ++ (complaint_if (number == 4096) TooManyInputs w.left
    ++ bag_bad w.start)

-- the complaints of inputs, where so many stand before them
abbrev pub inputs_bad : ℕ → List WrittenInput → List Complaint
inputs_bad number [] = []
inputs_bad number (w ∷ ws) = input_bad number w ++ inputs_bad (suc number) ws

-- how many lexemes are left at the first variable
abbrev pub variable_left : List Lexeme → Option ℕ
variable_left [] = None
variable_left (t ∷ ts) = if test variable t then Some (length (t ∷ ts)) else variable_left ts

-- a file is complained of by its inputs, and at its first variable
abbrev pub file_bad : {ts rest : List Lexeme} → Matches flat inputs_text ts rest → List Complaint
file_bad {ts} m = inputs_bad 0 (inputs_of m) ++ complaint_at Variable (variable_left ts)
