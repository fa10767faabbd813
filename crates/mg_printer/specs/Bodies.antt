-- The spelling of bodies of classes.
use Rattle.std.specs.Prelude.{ℕ, List, [], ◌∷◌, ◌++◌, codes}
use Rattle.gr_base.specs.Lists.{gathered}
use Rattle.gr_terms.specs.declared.Sym.{Sym}
use Rattle.mg_syntax.specs.declared.body.Statement.{Statement}
use Rattle.mg_syntax.specs.declared.body.Statement.TheOpen as open_statement
use Rattle.mg_syntax.specs.declared.body.Statement.TheFolds.{fold-Statement}
use Rattle.mg_printer.specs.Pieces.{Piece, a_sign, a_key, a_word, a_variable, separated}
use Rattle.mg_printer.specs.Values.{ref_pieces, side_pieces, bag_pieces, literal_pieces}
use Rattle.mg_printer.specs.Blocks.{syn_item_pieces}

-- a call of a class
abbrev pub call_pieces : Sym → List Piece
call_pieces c = a_word c.0 ∷ a_sign (codes "[") ∷ a_sign (codes "]") ∷ []

-- a dimension: its word between `<` and `>`, and what it has in braces
abbrev pub opened : List ℕ → List Piece
opened key = a_sign (codes "<") ∷ a_key key ∷ a_sign (codes ">") ∷ a_sign (codes "{") ∷ []

abbrev pub dimension_pieces : List ℕ → List Piece → List Piece
dimension_pieces key ps = opened key ++ ps ++ a_sign (codes "}") ∷ []

-- alternatives with `|` between them, and statements with `;`
abbrev pub alternative_by : {A : Type 0} → (A → List Piece) → List A → List Piece
alternative_by f ss = separated (a_sign (codes ";")) f ss

abbrev pub body_by : {A : Type 0} → (A → List Piece) → List (List A) → List Piece
body_by f as' = separated (a_sign (codes "|")) (alternative_by f) as'

-- a statement, of which a group has the pieces of its statements
abbrev pub statement_step : open_statement.Statement-F (List Piece) → List Piece
statement_step (open_statement.Group b) = a_sign (codes "{") ∷ body_by (λ p. p) b ++ a_sign (codes "}") ∷ []
statement_step (open_statement.Call c) = call_pieces c
statement_step (open_statement.Bind x c) = a_variable x.0 ∷ a_sign (codes "=") ∷ call_pieces c
statement_step (open_statement.Equation r s) = ref_pieces r ++ a_sign (codes "=") ∷ side_pieces s
statement_step (open_statement.Syn is) = dimension_pieces (codes "syn") (separated (a_sign (codes ";")) syn_item_pieces is)
statement_step (open_statement.Sem ls) = dimension_pieces (codes "sem") (gathered literal_pieces ls)
statement_step (open_statement.Iface b) = dimension_pieces (codes "iface") (bag_pieces b)

unfoldable pub statement_pieces : Statement → List Piece
statement_pieces = fold-Statement (List Piece) statement_step

abbrev pub body_pieces : List (List Statement) → List Piece
body_pieces b = body_by statement_pieces b

-- a body in braces
abbrev pub group_pieces : List (List Statement) → List Piece
group_pieces b = a_sign (codes "{") ∷ body_pieces b ++ a_sign (codes "}") ∷ []
