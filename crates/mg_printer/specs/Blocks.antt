-- The spelling of node blocks and of relations between nodes.
use Rattle.std.specs.Prelude.{ℕ, List, [], ◌∷◌, ◌++◌, map, Option, Some, None, Bool, true, false, not, ◌==◌, codes}
use Rattle.std.specs.List.{filter}
use Rattle.gr_base.specs.Lists.{gathered}
use Rattle.gr_terms.specs.Constants.{CAT}
use Rattle.gr_terms.specs.declared.Sym.{Sym}
use Rattle.mg_syntax.specs.declared.block.Relate.{Relate}
use Rattle.mg_syntax.specs.declared.block.Relate.TheVariants as relate
use Rattle.mg_syntax.specs.declared.block.Paint.{Paint}
use Rattle.mg_syntax.specs.declared.block.Paint.TheVariants.{Black, White, Red}
use Rattle.mg_syntax.specs.declared.block.SynItem.{SynItem}
use Rattle.mg_syntax.specs.declared.block.SynItem.TheVariants as item
use Rattle.mg_syntax.specs.declared.block.NodeBlock.{NodeBlock, fold-NodeBlock}
use Rattle.mg_syntax.specs.declared.block.Kid.{Kid, fold-Kid}
use Rattle.mg_syntax.specs.declared.block.Kid.TheOpen.{Kid-F, NodeBlock-F}
use Rattle.mg_syntax.specs.declared.body.Ref.{Ref}
use Rattle.mg_syntax.specs.declared.body.Side.{Side}
use Rattle.mg_printer.specs.Pieces.{Piece, a_sign, a_key, enclosed}
use Rattle.mg_printer.specs.Values.{ref_pieces, side_pieces, pair_pieces, bag_pieces}

-- the sign of a relation
abbrev pub relate_text : Relate → List ℕ
relate_text relate.Parent = codes "->"
relate_text relate.Above = codes "->+"
relate_text relate.AboveOrSame = codes "->*"
relate_text relate.Next = codes ">>"
relate_text relate.Left = codes ">>+"
relate_text relate.LeftOrSame = codes ">>*"
relate_text relate.Same = codes "="

abbrev pub paint_text : Paint → List ℕ
paint_text Black = codes "black"
paint_text White = codes "white"
paint_text Red = codes "red"

-- the variable of a block, where it has one
abbrev pub name_pieces : Option Ref → List Piece
name_pieces None = []
name_pieces (Some r) = ref_pieces r

-- the properties: the colour, and then the pairs of the node's own list but the category
abbrev pub colour_parts : Option Paint → List (List Piece)
colour_parts None = []
colour_parts (Some p) = (a_key (codes "color") ∷ a_sign (codes "=") ∷ a_key (paint_text p) ∷ []) ∷ []

abbrev pub is_category : Sym × Side → Bool
is_category p = p.0.0 == CAT

abbrev pub property_parts : List (Sym × Side) → List (List Piece)
property_parts own = map pair_pieces (filter (λ p. not (is_category p)) own)

-- the features: the category, and then the top and the bottom where they have a pair
abbrev pub category_pieces : Sym × Side → List Piece
category_pieces p = a_key (codes "cat") ∷ a_sign (codes "=") ∷ side_pieces p.1

abbrev pub category_parts : List (Sym × Side) → List (List Piece)
category_parts own = map category_pieces (filter is_category own)

abbrev pub feature_parts : List ℕ → List (Sym × Side) → List (List Piece)
feature_parts key [] = []
feature_parts key (p ∷ ps) = (a_key key ∷ a_sign (codes "=") ∷ bag_pieces (p ∷ ps)) ∷ []

-- what stands before the word `node` of a kid
abbrev pub loose_pieces : Bool → List Piece
loose_pieces true = a_sign (codes ",,,") ∷ []
loose_pieces false = []

abbrev pub down_pieces : Relate → List Piece
down_pieces relate.AboveOrSame = a_sign (codes "...") ∷ []
down_pieces relate.Above = a_sign (codes "...+") ∷ []
down_pieces relate.Parent = []
down_pieces relate.Next = []
down_pieces relate.Left = []
down_pieces relate.LeftOrSame = []
down_pieces relate.Same = []

-- the kids in braces, and nothing where there is none
abbrev pub braced : {A : Type 0} → (A → List Piece) → List A → List Piece
braced f [] = []
braced f (k ∷ ks) = a_sign (codes "{") ∷ gathered f (k ∷ ks) ++ a_sign (codes "}") ∷ []

-- a block, from its parts but the kids and from the pieces of its kids
abbrev pub block_step : NodeBlock-F (List Piece) (List Piece) → List Piece
block_step b =
    a_key (codes "node") ∷ name_pieces b.name
    ++ enclosed (codes "(") (colour_parts b.colour ++ property_parts b.own) (codes ")")
    ++ enclosed (codes "[") (category_parts b.own ++ feature_parts (codes "top") b.top ++ feature_parts (codes "bot") b.bot) (codes "]")
    ++ braced (λ p. p) b.kids

-- a kid, from the pieces of its block
abbrev pub kid_step : Kid-F (List Piece) (List Piece) → List Piece
kid_step k = loose_pieces k.loose ++ down_pieces k.down ++ k.node

unfoldable pub block_pieces : NodeBlock → List Piece
block_pieces = fold-NodeBlock (List Piece) (List Piece) kid_step block_step

unfoldable pub kid_pieces : Kid → List Piece
kid_pieces = fold-Kid (List Piece) (List Piece) kid_step block_step

unfoldable pub syn_item_pieces : SynItem → List Piece
syn_item_pieces (item.Node b) = block_pieces b
syn_item_pieces (item.Relation x how y) = ref_pieces x ++ a_sign (relate_text how) ∷ ref_pieces y
