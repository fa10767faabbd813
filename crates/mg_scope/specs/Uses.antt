-- Where variables and classes stand in the body of a class, in the order of its canonical spelling: there the properties of a
-- node block stand before its category, and then come the top, the bottom and the kids.
use Rattle.std.specs.Prelude.{◌≡◌, ℕ, List, [], ◌∷◌, ◌++◌, map, Bool, Option, Some, None, ◌==◌, not, if◌then◌else◌}
use Rattle.std.specs.List.{filter}
use Rattle.gr_base.specs.Lists.{joined, gathered}
use Rattle.gr_terms.specs.declared.Sym.{Sym}
use Rattle.mg_syntax.specs.declared.body.Ref.{Ref}
use Rattle.mg_syntax.specs.declared.body.Side.{Side}
use Rattle.mg_syntax.specs.declared.body.Side.TheVariants as side
use Rattle.mg_syntax.specs.declared.body.Literal.{Literal}
use Rattle.mg_syntax.specs.declared.body.Statement.{Statement, fold-Statement}
use Rattle.mg_syntax.specs.declared.body.Statement.TheOpen.{Statement-F}
use Rattle.mg_syntax.specs.declared.body.Statement.TheOpen as open_statement
use Rattle.mg_syntax.specs.declared.block.NodeBlock.{NodeBlock, NodeBlock-F, fold-NodeBlock}
use Rattle.mg_syntax.specs.declared.block.Kid.{Kid-F}
use Rattle.mg_syntax.specs.declared.block.SynItem.{SynItem}
use Rattle.mg_syntax.specs.declared.block.SynItem.TheVariants as item
use Rattle.mg_scope.specs.declared.uses.Use.{Use}
use Rattle.mg_scope.specs.declared.uses.Use.TheVariants.{Alone, Bound, Called, Dotted}

abbrev pub ref_use : Ref → Use
ref_use r = elim r.of [ None ↦ Alone r.name | Some x ↦ Dotted x r.name ]

-- a value that is a name is no use
abbrev pub side_uses : Side → List Use
side_uses (side.Ref r) = ref_use r ∷ []
side_uses (side.Name a) = []

abbrev pub bag_uses : List (Sym × Side) → List Use
bag_uses pairs = gathered (λ (p : Sym × Side). side_uses p.1) pairs

-- the pair gives the category
abbrev pub is_category : Sym × Side → Bool
is_category p = p.0.0 == 0

abbrev pub properties_of : List (Sym × Side) → List (Sym × Side)
properties_of pairs = filter (λ p. not (is_category p)) pairs

abbrev pub categories_of : List (Sym × Side) → List (Sym × Side)
categories_of pairs = filter is_category pairs

-- what one pair adds to the properties, and to the categories
abbrev pub property_uses : Sym × Side → List Use
property_uses p = if is_category p then [] else side_uses p.1

abbrev pub category_uses : Sym × Side → List Use
category_uses p = if is_category p then side_uses p.1 else []

-- the properties, and then the category
abbrev pub own_uses : List (Sym × Side) → List Use
own_uses pairs = bag_uses (properties_of pairs) ++ bag_uses (categories_of pairs)

abbrev pub name_uses : Option Ref → List Use
name_uses None = []
name_uses (Some r) = ref_use r ∷ []

-- a kid has the uses of its block, and a block those of its name, its lists and its kids
abbrev pub kid_step : Kid-F (List Use) (List Use) → List Use
kid_step k = k.node

abbrev pub block_step : NodeBlock-F (List Use) (List Use) → List Use
block_step b = name_uses b.name ++ own_uses b.own ++ bag_uses b.top ++ bag_uses b.bot ++ joined b.kids

abbrev pub block_uses : NodeBlock → List Use
block_uses = fold-NodeBlock (List Use) (List Use) kid_step block_step

abbrev pub item_uses : SynItem → List Use
item_uses (item.Node b) = block_uses b
item_uses (item.Relation x how y) = ref_use x ∷ ref_use y ∷ []

abbrev pub handle_uses : Option Side → List Use
handle_uses None = []
handle_uses (Some h) = side_uses h

abbrev pub literal_uses : Literal → List Use
literal_uses l = handle_uses l.handle ++ side_uses l.pred ++ gathered side_uses l.args

abbrev pub statement_step : Statement-F (List Use) → List Use
statement_step (open_statement.Group body) = joined (map joined body)
statement_step (open_statement.Call c) = Called c ∷ []
statement_step (open_statement.Bind x c) = Bound x c ∷ []
statement_step (open_statement.Equation r s) = ref_use r ∷ side_uses s
statement_step (open_statement.Syn items) = gathered item_uses items
statement_step (open_statement.Sem literals) = gathered literal_uses literals
statement_step (open_statement.Iface bag) = bag_uses bag

abbrev pub statement_uses : Statement → List Use
statement_uses = fold-Statement (List Use) statement_step

abbrev pub body_uses : List (List Statement) → List Use
body_uses body = gathered (gathered statement_uses) body
