-- Lists in brackets while they are written part by part.
use Rattle.std.specs.Prelude.{ℕ, List, [], ◌∷◌, ◌++◌, Bool, true, false, cond, codes}
use Rattle.mg_printer.specs.Pieces.{Piece, a_sign}

-- there is a part
abbrev pub has_some : {A : Type 0} → List A → Bool
has_some [] = false
has_some (x ∷ xs) = true

-- Parts of a list that was begun already or is begun with the first of them: a comma or the opening bracket before each.
abbrev pub begun_parts : Bool → List ℕ → List (List Piece) → List Piece
begun_parts begun before [] = []
begun_parts begun before (x ∷ xs) = a_sign (cond begun (codes ",") before) ∷ x ++ begun_parts true before xs
