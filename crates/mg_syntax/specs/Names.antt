-- The names that stand in a metagrammar: all of them, in the order of its lists, each as often as it stands there.
use Rattle.std.specs.Prelude.{ℕ, ◌<◌, List, [], ◌∷◌, ◌++◌, map, length, Option, Some, None}
use Rattle.gr_base.specs.Lists.{Each, gathered, joined}
use Rattle.gr_terms.specs.declared.Sym.{Sym}
use Rattle.mg_syntax.specs.declared.body.Ref.{Ref}
use Rattle.mg_syntax.specs.declared.body.Side.{Side}
use Rattle.mg_syntax.specs.declared.body.Side.TheVariants as side
use Rattle.mg_syntax.specs.declared.body.Literal.{Literal}
use Rattle.mg_syntax.specs.declared.body.Statement.{Statement, fold-Statement}
use Rattle.mg_syntax.specs.declared.body.Statement.TheOpen.{Statement-F}
use Rattle.mg_syntax.specs.declared.body.Statement.TheOpen as statement
use Rattle.mg_syntax.specs.declared.block.NodeBlock.{NodeBlock, NodeBlock-F, fold-NodeBlock}
use Rattle.mg_syntax.specs.declared.block.Kid.{Kid, Kid-F, fold-Kid}
use Rattle.mg_syntax.specs.declared.block.SynItem.{SynItem}
use Rattle.mg_syntax.specs.declared.block.SynItem.TheVariants as syn_item
use Rattle.mg_syntax.specs.declared.item.Class.{Class}
use Rattle.mg_syntax.specs.declared.item.Header.{Header}
use Rattle.mg_syntax.specs.declared.item.Header.TheVariants.{Domain, Property, Feature, Principle}
use Rattle.mg_syntax.specs.declared.item.Item.{Item}
use Rattle.mg_syntax.specs.declared.item.Item.TheVariants as item

-- what f gives of a value, and nothing where there is none
abbrev pub if_some : {A : Type 0} → (A → List Sym) → Option A → List Sym
if_some f None = []
if_some f (Some x) = f x

abbrev pub one_name : Sym → List Sym
one_name x = x ∷ []

-- values, bags and literals
abbrev pub ref_names : Ref → List Sym
ref_names r = if_some one_name r.of ++ r.name ∷ []

abbrev pub side_names : Side → List Sym
side_names (side.Ref r) = ref_names r
side_names (side.Name a) = a ∷ []

abbrev pub pair_names : Sym × Side → List Sym
pair_names p = p.0 ∷ side_names p.1

abbrev pub bag_names : List (Sym × Side) → List Sym
bag_names pairs = gathered pair_names pairs

abbrev pub literal_names : Literal → List Sym
literal_names l = if_some side_names l.handle ++ side_names l.pred ++ gathered side_names l.args

-- a kid has the names of its block, and a block those of its variable, its lists and its kids
abbrev pub kid_step : Kid-F (List Sym) (List Sym) → List Sym
kid_step k = k.node

abbrev pub block_step : NodeBlock-F (List Sym) (List Sym) → List Sym
block_step b = if_some ref_names b.name ++ bag_names b.own ++ bag_names b.top ++ bag_names b.bot ++ joined b.kids

unfoldable pub block_names : NodeBlock → List Sym
block_names = fold-NodeBlock (List Sym) (List Sym) kid_step block_step

unfoldable pub kid_names : Kid → List Sym
kid_names = fold-Kid (List Sym) (List Sym) kid_step block_step

abbrev pub syn_item_names : SynItem → List Sym
syn_item_names (syn_item.Node b) = block_names b
syn_item_names (syn_item.Relation x how y) = ref_names x ++ ref_names y

-- a statement, of which a group has the names of its statements
abbrev pub statement_step : Statement-F (List Sym) → List Sym
statement_step (statement.Group body) = joined (map joined body)
statement_step (statement.Call c) = c ∷ []
statement_step (statement.Bind x c) = x ∷ c ∷ []
statement_step (statement.Equation r s) = ref_names r ++ side_names s
statement_step (statement.Syn items) = gathered syn_item_names items
statement_step (statement.Sem literals) = gathered literal_names literals
statement_step (statement.Iface bag) = bag_names bag

unfoldable pub statement_names : Statement → List Sym
statement_names = fold-Statement (List Sym) statement_step

abbrev pub body_names : List (List Statement) → List Sym
body_names body = gathered (gathered statement_names) body

-- items
abbrev pub class_names : Class → List Sym
class_names k = k.name ∷ k.imports ++ k.exports ++ k.declares ++ body_names k.body

abbrev pub argument_names : Sym × Option Sym → List Sym
argument_names p = p.0 ∷ if_some one_name p.1

abbrev pub header_names : Header → List Sym
header_names (Domain a values) = a ∷ if_some (λ names. names) values
header_names (Property a b) = a ∷ b ∷ []
header_names (Feature a b) = a ∷ b ∷ []
header_names (Principle a arguments d) = a ∷ gathered argument_names arguments ++ d ∷ []

abbrev pub item_names : Item → List Sym
item_names (item.Class k) = class_names k
item_names (item.Value c) = c ∷ []
item_names (item.Header h) = header_names h

abbrev pub all_names : List Item → List Sym
all_names m = gathered item_names m

-- each name that stands in the metagrammar is the number of a text
abbrev pub HasTexts : List (List ℕ) → List Item → Type 0
HasTexts texts m = Each (λ x. x.0 < length texts) (all_names m)
