-- How many items a deed has.
use Rattle.std.specs.Prelude.{ℕ, ◌+◌, List, [], ◌∷◌, length, Option, Some, None}
use Rattle.gr_base.specs.Forests.{Forest, empty, tree}
use Rattle.mg_syntax.specs.declared.body.Literal.{Literal}
use Rattle.mg_syntax.specs.declared.body.Statement.{Statement}
use Rattle.mg_syntax.specs.declared.block.Paint.{Paint}
use Rattle.mg_syntax.specs.declared.block.SynItem.{SynItem}
use Rattle.mg_syntax.specs.declared.block.SynItem.TheVariants as item
use Rattle.mg_deeds.specs.Blocks.{Head, KidHead, Block, block_of}
use Rattle.mg_deeds.specs.Deeds.{Deed, equation, syntax_items, semantics, interface, deed_of}

abbrev pub total : {A : Type 0} → (A → ℕ) → List A → ℕ
total weight [] = 0
total weight (x ∷ xs) = weight x + total weight xs

abbrev pub colour_weight : Option Paint → ℕ
colour_weight None = 0
colour_weight (Some c) = 1

-- the block, its colour and its pairs
abbrev pub head_weight : Head → ℕ
head_weight h = 1 + colour_weight h.colour + length h.own + length h.top + length h.bottom

-- of each kid its own block, the relation to the parent, its kids, and the relation to each kid that stands right behind it
abbrev pub kids_weight : Forest KidHead → ℕ
kids_weight empty = 0
kids_weight (tree k kids empty) = head_weight k.head + 1 + kids_weight kids
kids_weight (tree k kids (tree next others more)) = head_weight k.head + 1 + kids_weight kids + 1 + kids_weight (tree next others more)

abbrev pub block_weight : Block → ℕ
block_weight b = head_weight b.head + kids_weight b.kids

abbrev pub syntax_weight : SynItem → ℕ
syntax_weight (item.Node b) = block_weight (block_of b)
syntax_weight (item.Relation r how s) = 1

-- the literal and its arguments
abbrev pub literal_weight : Literal → ℕ
literal_weight l = 1 + length l.args

abbrev pub deed_weight : Deed → ℕ
deed_weight (equation r s) = 1
deed_weight (syntax_items items) = total syntax_weight items
deed_weight (semantics literals) = total literal_weight literals
deed_weight (interface bag) = length bag

-- the items of a statement itself, of which a call and a group have none
abbrev pub weight_if : Option Deed → ℕ
weight_if None = 0
weight_if (Some d) = deed_weight d

abbrev pub statement_weight : Statement → ℕ
statement_weight s = weight_if (deed_of s)
