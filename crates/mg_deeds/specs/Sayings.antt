-- What a deed says of its variables, which are pairs of a call and a name.
-- A call, a node block and a literal are named by how many items are counted before them.
use Rattle.std.specs.Prelude.{ℕ, ◌+◌, List, [], ◌∷◌, ◌++◌, map, Bool, true, false, Option, Some, None}
use Rattle.gr_base.specs.Forests.{Forest, empty, tree}
use Rattle.gr_terms.specs.declared.Sym.{Sym}
use Rattle.gr_terms.specs.Networks.{Term, name, variable}
use Rattle.td_desc.specs.declared.Colour.{Colour}
use Rattle.td_desc.specs.declared.Colour.TheVariants as colour
use Rattle.td_desc.specs.declared.Dominance.TheVariants as dominance
use Rattle.mg_syntax.specs.declared.body.Ref.{Ref}
use Rattle.mg_syntax.specs.declared.body.Side.{Side}
use Rattle.mg_syntax.specs.declared.body.Side.TheVariants as side
use Rattle.mg_syntax.specs.declared.body.Literal.{Literal}
use Rattle.mg_syntax.specs.declared.body.Statement.{Statement}
use Rattle.mg_syntax.specs.declared.block.Relate.{Relate}
use Rattle.mg_syntax.specs.declared.block.Relate.TheVariants.{Parent, Above, AboveOrSame, Next, Left, LeftOrSame, Same}
use Rattle.mg_syntax.specs.declared.block.Paint.{Paint}
use Rattle.mg_syntax.specs.declared.block.Paint.TheVariants.{Black, White, Red}
use Rattle.mg_syntax.specs.declared.block.SynItem.{SynItem}
use Rattle.mg_syntax.specs.declared.block.SynItem.TheVariants as item
use Rattle.mg_facts.specs.declared.variable.Variable.{Variable}
use Rattle.mg_facts.specs.declared.variable.Local.TheVariants.{Name, Dotted, Own}
use Rattle.mg_facts.specs.Said.{Slot, own_of, top_of, bottom_of, the_interface, Said, block, related, one_node, identified, is_name, coloured, paired, says}
use Rattle.mg_deeds.specs.Blocks.{Head, KidHead, Block, block_of}
use Rattle.mg_deeds.specs.Deeds.{Deed, equation, syntax_items, semantics, interface, deed_of}
use Rattle.mg_deeds.specs.Weights.{head_weight, kids_weight, syntax_weight, literal_weight}

abbrev pub relation_said : Variable → Relate → Variable → Said
relation_said x Parent y = related x dominance.Parent y
relation_said x Above y = related x dominance.Above y
relation_said x AboveOrSame y = related x dominance.AboveOrSame y
relation_said x Next y = related x dominance.Next y
relation_said x Left y = related x dominance.Left y
relation_said x LeftOrSame y = related x dominance.LeftOrSame y
relation_said x Same y = one_node x y

abbrev pub colour_of : Paint → Colour
colour_of Black = colour.Black
colour_of White = colour.White
colour_of Red = colour.Red

abbrev pub colour_said : Variable → Option Paint → List Said
colour_said x None = []
colour_said x (Some c) = coloured x (colour_of c) ∷ []

-- two kids side by side
abbrev pub sisters_said : Variable → Bool → Variable → Said
sisters_said x true y = related x dominance.Left y
sisters_said x false y = related x dominance.Next y

-- what the elements say one after another, from the place n on
abbrev pub said_from : {A : Type 0} → (A → ℕ) → (ℕ → A → List Said) → ℕ → List A → List Said
said_from weight said n [] = []
said_from weight said n (x ∷ xs) = said n x ++ said_from weight said (n + weight x) xs

-- within the call that is named by `here`
module _ (here : ℕ) where
  -- `?x.?y` is a variable of this call, which the call that is bound to ?x makes one with its own ?y
  abbrev pub variable_of : Ref → Variable
  variable_of r = elim r.of [ None ↦ record { at = here; local = Name r.name.0 } | Some x ↦ record { at = here; local = Dotted x.0 r.name.0 } ]

  abbrev pub side_term : Side → Term Variable
  side_term (side.Ref r) = variable (variable_of r)
  side_term (side.Name a) = name a.0

  -- the variable of the block that is named by n: the one that is written, or one of its own
  abbrev pub block_variable : ℕ → Option Ref → Variable
  block_variable n None = record { at = n; local = Own }
  block_variable n (Some r) = variable_of r

  abbrev pub handle_of : ℕ → Option Side → Term Variable
  handle_of n None = variable (record { at = n; local = Own })
  handle_of n (Some h) = side_term h

  abbrev pub pair_said : Slot → Sym × Side → Said
  pair_said s p = paired s p.0.0 (side_term p.1)

  abbrev pub bag_said : Slot → List (Sym × Side) → List Said
  bag_said s bag = map (pair_said s) bag

  abbrev pub head_said : Variable → Head → List Said
  head_said x h = block x ∷ colour_said x h.colour ++ bag_said (own_of x) h.own ++ bag_said (top_of x) h.top ++ bag_said (bottom_of x) h.bottom

  -- the kids of the block of x, from the place n on: each kid's own block, its relation to x, its kids, and its relation to the next kid
  abbrev pub kids_said : Variable → ℕ → Forest KidHead → List Said
  kids_said x n empty = []
  kids_said x n (tree k kids empty) =
      let y = block_variable n k.head.name in
      head_said y k.head ++ relation_said x k.down y ∷ kids_said y (n + head_weight k.head + 1) kids
  kids_said x n (tree k kids (tree next others more)) =
      let y = block_variable n k.head.name in
      let after = n + head_weight k.head + 1 + kids_weight kids in
      let z = block_variable (after + 1) next.head.name in
      head_said y k.head ++ relation_said x k.down y ∷ kids_said y (n + head_weight k.head + 1) kids
      ++ sisters_said y next.loose z ∷ kids_said x (after + 1) (tree next others more)

  abbrev pub block_said : ℕ → Block → List Said
  block_said n b =
      let x = block_variable n b.head.name in
      head_said x b.head ++ kids_said x (n + head_weight b.head) b.kids

  abbrev pub syntax_said : ℕ → SynItem → List Said
  syntax_said n (item.Node b) = block_said n (block_of b)
  syntax_said n (item.Relation r how s) = relation_said (variable_of r) how (variable_of s) ∷ []

  abbrev pub literal_said : ℕ → Literal → List Said
  literal_said n l = says (record { handle = handle_of n l.handle; pred = side_term l.pred; args = map side_term l.args }) ∷ []

  abbrev pub equation_said : Ref → Side → List Said
  equation_said r (side.Ref s) = identified (variable_of r) (variable_of s) ∷ []
  equation_said r (side.Name a) = is_name (variable_of r) a.0 ∷ []

  abbrev pub deed_said : ℕ → Deed → List Said
  deed_said n (equation r s) = equation_said r s
  deed_said n (syntax_items items) = said_from syntax_weight syntax_said n items
  deed_said n (semantics literals) = said_from literal_weight literal_said n literals
  deed_said n (interface bag) = bag_said the_interface bag

  -- what a statement itself says, which is nothing at a call and at a group
  abbrev pub said_if : ℕ → Option Deed → List Said
  said_if n None = []
  said_if n (Some d) = deed_said n d

  abbrev pub statement_said : ℕ → Statement → List Said
  statement_said n s = said_if n (deed_of s)

-- an import makes each name that the imported class exports one with that name of the importer
abbrev pub import_said : ℕ → ℕ → Sym → Said
import_said here there y = identified (record { at = here; local = Name y.0 }) (record { at = there; local = Name y.0 })

-- a call that is bound to x makes `?x.?y` one with its ?y, for each name y that the class exports
abbrev pub dot_said : Sym → ℕ → ℕ → Sym → Said
dot_said x here there y = identified (record { at = here; local = Dotted x.0 y.0 }) (record { at = there; local = Name y.0 })
