-- Where a reading from the front comes to a part with a number.
use Rattle.std.specs.Prelude.{ℕ, List, [], ◌∷◌, ◌++◌, ◌==◌, if◌then◌else◌}
use Rattle.gr_grammar.specs.Grammars.{System, Grammar, Runs, End, take_token, bad_token, bad_end, take_nothing, run_both, run_first, run_left, run_right, run_end, run_more, run_part}

-- what is left to read each time that the run begins the part with the number p, in the order of the text
abbrev pub begun : {C T : Type 0} {S : System C T} {g : Grammar C} {ts : List T} {e : End T} → ℕ → Runs S g ts e → List (List T)
begun p (take_token h) = []
begun p (bad_token h) = []
begun p bad_end = []
begun p take_nothing = []
begun p (run_both a b) = begun p a ++ begun p b
begun p (run_first a) = begun p a
begun p (run_left h a) = begun p a
begun p (run_right h a) = begun p a
begun p (run_end h) = []
begun p (run_more h a) = begun p a
begun p (run_part {n} {ts} a) = if n == p then (ts ∷ begun p a) else begun p a
