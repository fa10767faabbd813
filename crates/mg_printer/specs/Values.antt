-- The spelling of values, bags and literals.
use Rattle.std.specs.Prelude.{List, [], ◌∷◌, ◌++◌, Option, Some, None, codes}
use Rattle.gr_base.specs.Lists.{gathered}
use Rattle.gr_terms.specs.declared.Sym.{Sym}
use Rattle.mg_syntax.specs.declared.body.Ref.{Ref}
use Rattle.mg_syntax.specs.declared.body.Side.{Side}
use Rattle.mg_syntax.specs.declared.body.Side.TheVariants as side
use Rattle.mg_syntax.specs.declared.body.Literal.{Literal}
use Rattle.mg_printer.specs.Pieces.{Piece, a_sign, a_word, a_name, a_variable, separated}

-- `?x`, or `?x . ?y`
abbrev pub owner_pieces : Option Sym → List Piece
owner_pieces None = []
owner_pieces (Some x) = a_variable x.0 ∷ a_sign (codes ".") ∷ []

abbrev pub ref_pieces : Ref → List Piece
ref_pieces r = owner_pieces r.of ++ a_variable r.name.0 ∷ []

abbrev pub side_pieces : Side → List Piece
side_pieces (side.Ref r) = ref_pieces r
side_pieces (side.Name a) = a_name a.0 ∷ []

-- an attribute with its value
abbrev pub pair_pieces : Sym × Side → List Piece
pair_pieces p = a_word p.0.0 ∷ a_sign (codes "=") ∷ side_pieces p.1

-- a bag in its brackets, which stand also where it is empty
abbrev pub bag_pieces : List (Sym × Side) → List Piece
bag_pieces b = a_sign (codes "[") ∷ separated (a_sign (codes ",")) pair_pieces b ++ a_sign (codes "]") ∷ []

-- a literal: a handle and `:` where it has a handle, then the predicate with the arguments in parentheses, nothing between them
abbrev pub handle_pieces : Option Side → List Piece
handle_pieces None = []
handle_pieces (Some h) = side_pieces h ++ a_sign (codes ":") ∷ []

abbrev pub arguments_pieces : List Side → List Piece
arguments_pieces args = a_sign (codes "(") ∷ gathered side_pieces args ++ a_sign (codes ")") ∷ []

unfoldable pub literal_pieces : Literal → List Piece
literal_pieces l = handle_pieces l.handle ++ side_pieces l.pred ++ arguments_pieces l.args
