use Rattle.std.proofs.Common.{◌≡◌, ℕ, List, length}
use Rattle.gr_reader.specs.Lexemes.{lexemes}
use Rattle.sm_input.specs.Complaints.{variable_left}
use Rattle.sm_input.proofs.read.first_variable.Given as goal

abbrev pub invariant-rest : goal.invariant-rest
invariant-rest l = (bytes : List ℕ) → variable_left (lexemes bytes l.initial.rest) ≡ variable_left (lexemes bytes l.rest)

abbrev pub decreases-rest : goal.decreases-rest
decreases-rest l = length l.rest
