-- The spelling of the items of a metagrammar.
use Rattle.std.specs.Prelude.{ℕ, List, [], ◌∷◌, ◌++◌, Option, Some, None, codes}
use Rattle.gr_base.specs.Lists.{gathered}
use Rattle.gr_terms.specs.declared.Sym.{Sym}
use Rattle.mg_syntax.specs.declared.item.Class.{Class}
use Rattle.mg_syntax.specs.declared.item.Header.{Header}
use Rattle.mg_syntax.specs.declared.item.Header.TheVariants.{Domain, Property, Feature, Principle}
use Rattle.mg_syntax.specs.declared.item.Item.{Item}
use Rattle.mg_syntax.specs.declared.item.Item.TheVariants as item
use Rattle.mg_printer.specs.Pieces.{Piece, a_sign, a_key, a_word, a_name, a_variable, separated}
use Rattle.mg_printer.specs.Bodies.{call_pieces, group_pieces}

-- a keyword with a list behind it, and nothing where the list is empty
abbrev pub listed : List ℕ → (Sym → List Piece) → List Sym → List Piece
listed key f [] = []
listed key f (x ∷ xs) = a_key key ∷ gathered f (x ∷ xs)

abbrev pub variable_pieces : Sym → List Piece
variable_pieces x = a_variable x.0 ∷ []

-- a class, behind the word that it begins with
abbrev pub class_head : Class → List Piece
class_head c =
    a_word c.name.0
    ∷ listed (codes "import") call_pieces c.imports
    ++ listed (codes "export") variable_pieces c.exports
    ++ listed (codes "declare") variable_pieces c.declares

abbrev pub class_behind : Class → List Piece
class_behind c = class_head c ++ group_pieces c.body

-- the values of a type: `!`, or names in braces
abbrev pub name_pieces : Sym → List Piece
name_pieces a = a_name a.0 ∷ []

abbrev pub domain_pieces : Option (List Sym) → List Piece
domain_pieces None = a_sign (codes "!") ∷ []
domain_pieces (Some names) = a_sign (codes "=") ∷ a_sign (codes "{") ∷ separated (a_sign (codes ",")) name_pieces names ++ a_sign (codes "}") ∷ []

-- an argument of a principle, with its value where it has one
abbrev pub value_pieces : Option Sym → List Piece
value_pieces None = []
value_pieces (Some a) = a_sign (codes "=") ∷ a_name a.0 ∷ []

abbrev pub argument_pieces : Sym × Option Sym → List Piece
argument_pieces p = a_word p.0.0 ∷ value_pieces p.1

abbrev pub arguments_pieces : List (Sym × Option Sym) → List Piece
arguments_pieces args = a_sign (codes "(") ∷ separated (a_sign (codes ",")) argument_pieces args ++ a_sign (codes ")") ∷ []

abbrev pub dims_pieces : Sym → List Piece
dims_pieces d = a_key (codes "dims") ∷ a_sign (codes "(") ∷ a_word d.0 ∷ a_sign (codes ")") ∷ []

abbrev pub principle_behind : Sym → List (Sym × Option Sym) → Sym → List Piece
principle_behind a args d = a_word a.0 ∷ a_key (codes "with") ∷ arguments_pieces args ++ dims_pieces d

abbrev pub typed_pieces : Sym → Sym → List Piece
typed_pieces a b = a_word a.0 ∷ a_sign (codes ":") ∷ a_word b.0 ∷ []

-- a header: the word that it begins with, and what stands behind it
abbrev pub header_key : Header → List ℕ
header_key (Domain a d) = codes "type"
header_key (Property a b) = codes "property"
header_key (Feature a b) = codes "feature"
header_key (Principle a args d) = codes "use"

abbrev pub header_behind : Header → List Piece
header_behind (Domain a d) = a_word a.0 ∷ domain_pieces d
header_behind (Property a b) = typed_pieces a b
header_behind (Feature a b) = typed_pieces a b
header_behind (Principle a args d) = principle_behind a args d

-- an item in the same way
abbrev pub item_key : Item → List ℕ
item_key (item.Class c) = codes "class"
item_key (item.Value c) = codes "value"
item_key (item.Header h) = header_key h

abbrev pub item_behind : Item → List Piece
item_behind (item.Class c) = class_behind c
item_behind (item.Value c) = a_word c.0 ∷ []
item_behind (item.Header h) = header_behind h

abbrev pub item_pieces : Item → List Piece
item_pieces i = a_key (item_key i) ∷ item_behind i
