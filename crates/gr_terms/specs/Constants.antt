-- The numbers of the names that the definitions know.
use Rattle.std.specs.Prelude.{ℕ, List, [], ◌∷◌}

abbrev pub CAT : ℕ
CAT = 0

abbrev pub MARK : ℕ
MARK = 1

abbrev pub NAME : ℕ
NAME = 2

abbrev pub ANCHOR : ℕ
ANCHOR = 3

abbrev pub COANCHOR : ℕ
COANCHOR = 4

abbrev pub SUBST : ℕ
SUBST = 5

abbrev pub FOOT : ℕ
FOOT = 6

abbrev pub LEX : ℕ
LEX = 7

abbrev pub NADJ : ℕ
NADJ = 8

-- the empty text
abbrev pub EMPTY : ℕ
EMPTY = 9

-- all of them
abbrev pub first_numbers : List ℕ
first_numbers = CAT ∷ MARK ∷ NAME ∷ ANCHOR ∷ COANCHOR ∷ SUBST ∷ FOOT ∷ LEX ∷ NADJ ∷ EMPTY ∷ []

-- those that are marks of nodes
abbrev pub mark_numbers : List ℕ
mark_numbers = ANCHOR ∷ COANCHOR ∷ SUBST ∷ FOOT ∷ LEX ∷ NADJ ∷ []
