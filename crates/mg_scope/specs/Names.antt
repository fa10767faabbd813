-- Sets of names by their numbers.
use Rattle.std.specs.Prelude.{ℕ, ◌<◌, ◌≤◌, List, length, get_or, ◌↔◌}
use Rattle.gr_base.specs.Lists.{IsAmong}
use Rattle.gr_terms.specs.declared.Sym.{Sym}

-- no number is above a later one
abbrev pub Rise : List ℕ → Type 0
Rise xs = (i j : ℕ) → i ≤ j → j < length xs → get_or xs i 0 ≤ get_or xs j 0

abbrev pub number_of : Sym → ℕ
number_of x = x.0

-- the numbers are those of these names
abbrev pub AreNumbers : List ℕ → List Sym → Type 0
AreNumbers numbers names = (x : Sym) → IsAmong numbers x.0 ↔ IsAmong names x
