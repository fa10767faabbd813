-- What the texts of the grammar mean: the value of each tree.
use Rattle.std.specs.Prelude.{List, [], ◌∷◌, ◌++◌, map, Option, Some, None, unwrap_or, Bool, true, false}
use Rattle.gr_grammar.specs.Grammars.{tok, star, part, Matches, a_token, both, the_left, the_right, no_more, one_more, by_part, items}
use Rattle.gr_terms.specs.declared.Sym.{Sym}
use Rattle.gr_terms.specs.declared.TheConstants.{CAT}
use Rattle.mg_syntax.specs.declared.body.Ref.{Ref}
use Rattle.mg_syntax.specs.declared.body.Side.{Side}
use Rattle.mg_syntax.specs.declared.body.Side.TheVariants as side
use Rattle.mg_syntax.specs.declared.body.Literal.{Literal}
use Rattle.mg_syntax.specs.declared.body.Statement.{Statement}
use Rattle.mg_syntax.specs.declared.body.Statement.TheVariants as statement
use Rattle.mg_syntax.specs.declared.block.Relate.{Relate}
use Rattle.mg_syntax.specs.declared.block.Relate.TheVariants as relate
use Rattle.mg_syntax.specs.declared.block.Paint.{Paint}
use Rattle.mg_syntax.specs.declared.block.Paint.TheVariants as paint
use Rattle.mg_syntax.specs.declared.block.NodeBlock.{NodeBlock, roll-NodeBlock}
use Rattle.mg_syntax.specs.declared.block.Kid.{Kid, roll-Kid}
use Rattle.mg_syntax.specs.declared.block.SynItem.{SynItem}
use Rattle.mg_syntax.specs.declared.block.SynItem.TheVariants as syn_item
use Rattle.mg_syntax.specs.declared.item.Class.{Class}
use Rattle.mg_syntax.specs.declared.item.Header.{Header}
use Rattle.mg_syntax.specs.declared.item.Header.TheVariants as header
use Rattle.mg_syntax.specs.declared.item.Item.{Item}
use Rattle.mg_syntax.specs.declared.item.Item.TheVariants as item
use Rattle.mg_reader.specs.declared.lexeme.Kind.{Kind}
use Rattle.mg_reader.specs.declared.lexeme.Kind.TheVariants as kind
use Rattle.mg_reader.specs.declared.lexeme.Class.{Class as Kinds}
use Rattle.mg_reader.specs.declared.lexeme.Lexeme.{Lexeme}
use Rattle.mg_reader.specs.declared.found.Keyed.{Keyed}
use Rattle.mg_reader.specs.declared.found.Given.TheVariants as given
use Rattle.mg_reader.specs.declared.found.Property.{Property}
use Rattle.mg_reader.specs.declared.found.Properties.{Properties}
use Rattle.mg_reader.specs.declared.found.Feature.{Feature}
use Rattle.mg_reader.specs.declared.found.Feature.TheVariants as feature
use Rattle.mg_reader.specs.declared.found.Features.{Features}
use Rattle.mg_reader.specs.declared.found.After.{After}
use Rattle.mg_reader.specs.declared.found.After.TheVariants as after
use Rattle.mg_reader.specs.Grammar.{system, maybe_text, second_text, ref_text, side_text, pair_text, more_pair_text, pairs_text, perhaps_pairs_text, bag_text, next_arg_text, args_text, perhaps_args_text, predicate_text, literal_text, next_literal_text, literals_text, perhaps_literals_text, property_text, more_property_text, properties_text, perhaps_properties_text, property_list_text, feature_text, more_feature_text, features_text, perhaps_features_text, feature_list_text, node_name_text, kid_text, next_kid_text, kids_text, perhaps_kids_text, kid_list_text, relation_text, syn_item_text, more_syn_item_text, syn_items_text, perhaps_syn_items_text, syn_text, sem_text, iface_text, behind_less_text, dimension_text, call_text, brackets_text, word_text, right_text, after_text, variable_text, group_text, statement_text, more_statement_text, alternative_text, more_alternative_text, alternatives_text, calls_text, imports_text, variables_text, exports_text, declares_text, class_text, value_text, more_name_text, names_text, domain_text, type_text, typed_text, given_text, argument_text, more_argument_text, arguments_text, perhaps_arguments_text, principle_text, header_text, item_text, metagrammar_text}

abbrev pub token_of : {c : Kinds} {ts rest : List Lexeme} → Matches system (tok c) ts rest → Lexeme
token_of (a_token {t} h) = t

-- whether an optional lexeme is there
abbrev pub is_there : {c : Kinds} {ts rest : List Lexeme} → Matches system (maybe_text c) ts rest → Bool
is_there (the_left m) = true
is_there (the_right m) = false

-- variables and values
abbrev pub second_of : {ts rest : List Lexeme} → Matches system second_text ts rest → Option Sym
second_of (the_left (both d v)) = Some (token_of v).name
second_of (the_right m) = None

-- a variable, or with a second one behind a dot that one, of the first
abbrev pub ref_with : Sym → Option Sym → Ref
ref_with x None = record { of = None; name = x }
ref_with x (Some y) = record { of = Some x; name = y }

abbrev pub ref_of : {ts rest : List Lexeme} → Matches system ref_text ts rest → Ref
ref_of (both a b) = ref_with (token_of a).name (second_of b)

abbrev pub side_of : {ts rest : List Lexeme} → Matches system side_text ts rest → Side
side_of (the_left a) = side.Name (token_of a).name
side_of (the_right m) = side.Ref (ref_of m)

-- bags
abbrev pub keyed_of : {ts rest : List Lexeme} → Matches system pair_text ts rest → Keyed
keyed_of (both a (both e v)) = record { key = token_of a; value = side_of v }

abbrev pub more_pair_of : {ts rest : List Lexeme} → Matches system more_pair_text ts rest → Keyed
more_pair_of (both s p) = keyed_of p

abbrev pub keyeds_of : {ts rest : List Lexeme} → Matches system pairs_text ts rest → List Keyed
keyeds_of (both p ps) = keyed_of p ∷ items (λ ts rest m. more_pair_of m) ps

abbrev pub pair_of : Keyed → Sym × Side
pair_of k = (k.key.name, k.value)

abbrev pub pairs_of : {ts rest : List Lexeme} → Matches system pairs_text ts rest → List (Sym × Side)
pairs_of m = map pair_of (keyeds_of m)

abbrev pub perhaps_pairs_of : {ts rest : List Lexeme} → Matches system perhaps_pairs_text ts rest → List (Sym × Side)
perhaps_pairs_of (the_left m) = pairs_of m
perhaps_pairs_of (the_right m) = []

abbrev pub bag_of : {ts rest : List Lexeme} → Matches system bag_text ts rest → List (Sym × Side)
bag_of (both a (both m b)) = perhaps_pairs_of m

-- literals
abbrev pub next_arg_of : {ts rest : List Lexeme} → Matches system next_arg_text ts rest → Side
next_arg_of (both s v) = side_of v

abbrev pub args_of : {ts rest : List Lexeme} → Matches system args_text ts rest → List Side
args_of (both v vs) = side_of v ∷ items (λ ts rest m. next_arg_of m) vs

abbrev pub perhaps_args_of : {ts rest : List Lexeme} → Matches system perhaps_args_text ts rest → List Side
perhaps_args_of (the_left m) = args_of m
perhaps_args_of (the_right m) = []

abbrev pub predicate_of : {ts rest : List Lexeme} → Matches system predicate_text ts rest → Option Side
predicate_of (the_left (both c v)) = Some (side_of v)
predicate_of (the_right m) = None

-- the first value is the handle where a colon and another one follow, and else the predicate
abbrev pub literal_with : Side → Option Side → List Side → Literal
literal_with v None args = record { handle = None; pred = v; args = args }
literal_with v (Some p) args = record { handle = Some v; pred = p; args = args }

abbrev pub literal_of : {ts rest : List Lexeme} → Matches system literal_text ts rest → Literal
literal_of (both v (both p (both a (both args b)))) = literal_with (side_of v) (predicate_of p) (perhaps_args_of args)

abbrev pub next_literal_of : {ts rest : List Lexeme} → Matches system next_literal_text ts rest → Literal
next_literal_of (both s l) = literal_of l

abbrev pub literals_of : {ts rest : List Lexeme} → Matches system literals_text ts rest → List Literal
literals_of (both l ls) = literal_of l ∷ items (λ ts rest m. next_literal_of m) ls

abbrev pub perhaps_literals_of : {ts rest : List Lexeme} → Matches system perhaps_literals_text ts rest → List Literal
perhaps_literals_of (the_left m) = literals_of m
perhaps_literals_of (the_right m) = []

-- properties
abbrev pub paint_of : Kind → Paint
paint_of kind.Black = paint.Black
paint_of kind.White = paint.White
paint_of _ = paint.Red

abbrev pub property_of : {ts rest : List Lexeme} → Matches system property_text ts rest → Property
property_of (the_left (both k (both e v))) = record { key = token_of k; given = given.Paint (paint_of (token_of v).kind) }
property_of (the_right (the_left (both k (both e v)))) = record { key = token_of k; given = given.Value (side.Name (token_of v).name) }
property_of (the_right (the_right (both k (both e v)))) = record { key = token_of k; given = given.Value (side_of v) }

abbrev pub more_property_of : {ts rest : List Lexeme} → Matches system more_property_text ts rest → Property
more_property_of (both s p) = property_of p

abbrev pub property_row_of : {ts rest : List Lexeme} → Matches system properties_text ts rest → List Property
property_row_of (both p ps) = property_of p ∷ items (λ ts rest m. more_property_of m) ps

-- one more property: the first colour counts, and the pairs stand in order
abbrev pub or_else : {A : Type 0} → Option A → Option A → Option A
or_else None b = b
or_else (Some a) b = Some a

abbrev pub with_property : Properties → Property → Properties
with_property ps p = elim p.given [
  | given.Paint c ↦ record { colour = or_else ps.colour (Some c); own = ps.own }
  | given.Value v ↦ record { colour = ps.colour; own = ps.own ++ (p.key.name, v) ∷ [] }
]

abbrev pub with_properties : Properties → List Property → Properties
with_properties ps [] = ps
with_properties ps (q ∷ qs) = with_properties (with_property ps q) qs

abbrev pub no_properties : Properties
no_properties = record { colour = None; own = [] }

abbrev pub properties_of : {ts rest : List Lexeme} → Matches system properties_text ts rest → Properties
properties_of m = with_properties no_properties (property_row_of m)

abbrev pub perhaps_properties_of : {ts rest : List Lexeme} → Matches system perhaps_properties_text ts rest → Properties
perhaps_properties_of (the_left m) = properties_of m
perhaps_properties_of (the_right m) = no_properties

abbrev pub property_list_of : {ts rest : List Lexeme} → Matches system property_list_text ts rest → Properties
property_list_of (the_left (both a (both m b))) = perhaps_properties_of m
property_list_of (the_right m) = no_properties

-- features
abbrev pub feature_of : {ts rest : List Lexeme} → Matches system feature_text ts rest → Feature
feature_of (the_left (both k (both e v))) = feature.Category (side_of v)
feature_of (the_right (the_left (both k (both e b)))) = feature.Top (bag_of b)
feature_of (the_right (the_right (both k (both e b)))) = feature.Bottom (bag_of b)

abbrev pub more_feature_of : {ts rest : List Lexeme} → Matches system more_feature_text ts rest → Feature
more_feature_of (both s f) = feature_of f

abbrev pub feature_row_of : {ts rest : List Lexeme} → Matches system features_text ts rest → List Feature
feature_row_of (both f fs) = feature_of f ∷ items (λ ts rest m. more_feature_of m) fs

abbrev pub with_feature : Features → Feature → Features
with_feature fs (feature.Category v) = record { category = or_else fs.category (Some v); top = fs.top; bottom = fs.bottom }
with_feature fs (feature.Top b) = record { category = fs.category; top = or_else fs.top (Some b); bottom = fs.bottom }
with_feature fs (feature.Bottom b) = record { category = fs.category; top = fs.top; bottom = or_else fs.bottom (Some b) }

abbrev pub with_features : Features → List Feature → Features
with_features fs [] = fs
with_features fs (g ∷ gs) = with_features (with_feature fs g) gs

abbrev pub no_features : Features
no_features = record { category = None; top = None; bottom = None }

abbrev pub features_of : {ts rest : List Lexeme} → Matches system features_text ts rest → Features
features_of m = with_features no_features (feature_row_of m)

abbrev pub perhaps_features_of : {ts rest : List Lexeme} → Matches system perhaps_features_text ts rest → Features
perhaps_features_of (the_left m) = features_of m
perhaps_features_of (the_right m) = no_features

abbrev pub feature_list_of : {ts rest : List Lexeme} → Matches system feature_list_text ts rest → Features
feature_list_of (the_left (both a (both m b))) = perhaps_features_of m
feature_list_of (the_right m) = no_features

-- node blocks: the properties but the colour, and then the category
abbrev pub category_pairs : Option Side → List (Sym × Side)
category_pairs None = []
category_pairs (Some v) = (CAT, v) ∷ []

abbrev pub node_with : Option Ref → Properties → Features → List Kid → NodeBlock
node_with name ps fs kids = roll-NodeBlock (record {
  name = name;
  colour = ps.colour;
  own = ps.own ++ category_pairs fs.category;
  top = unwrap_or fs.top [];
  bot = unwrap_or fs.bottom [];
  kids = kids;
})

abbrev pub node_name_of : {ts rest : List Lexeme} → Matches system node_name_text ts rest → Option Ref
node_name_of (the_left m) = Some (ref_of m)
node_name_of (the_right m) = None

-- how a kid stands under its block
abbrev pub descent_of : Kind → Relate
descent_of kind.Dots = relate.AboveOrSame
descent_of _ = relate.Above

abbrev pub down_of : {ts rest : List Lexeme} → Matches system (maybe_text Kinds.Descent) ts rest → Relate
down_of (the_left m) = descent_of (token_of m).kind
down_of (the_right m) = relate.Parent

abbrev mutual
  pub node_of : {ts rest : List Lexeme} → Matches system (part 1) ts rest → NodeBlock
  node_of (by_part (both w (both n (both ps (both fs ks))))) = node_with (node_name_of n) (property_list_of ps) (feature_list_of fs) (kid_list_of ks)

  pub kid_list_of : {ts rest : List Lexeme} → Matches system kid_list_text ts rest → List Kid
  kid_list_of (the_left (both a (both m b))) = perhaps_kids_of m
  kid_list_of (the_right m) = []

  pub perhaps_kids_of : {ts rest : List Lexeme} → Matches system perhaps_kids_text ts rest → List Kid
  perhaps_kids_of (the_left m) = kids_of m
  perhaps_kids_of (the_right m) = []

  pub kids_of : {ts rest : List Lexeme} → Matches system kids_text ts rest → List Kid
  kids_of (both k ks) = kid_of false k ∷ more_kids_of ks

  pub more_kids_of : {ts rest : List Lexeme} → Matches system (star next_kid_text) ts rest → List Kid
  more_kids_of no_more = []
  more_kids_of (one_more (both k ks)) = next_kid_of k ∷ more_kids_of ks

  pub next_kid_of : {ts rest : List Lexeme} → Matches system next_kid_text ts rest → Kid
  next_kid_of (both l k) = kid_of (is_there l) k

  pub kid_of : {ts rest : List Lexeme} → Bool → Matches system kid_text ts rest → Kid
  kid_of loose (both d n) = roll-Kid (record { down = down_of d; loose = loose; node = node_of n })

-- the items of a `<syn>` block
abbrev pub relate_of : Kind → Relate
relate_of kind.Below = relate.Parent
relate_of kind.BelowPlus = relate.Above
relate_of kind.BelowStar = relate.AboveOrSame
relate_of kind.Next = relate.Next
relate_of kind.NextPlus = relate.Left
relate_of kind.NextStar = relate.LeftOrSame
relate_of _ = relate.Same

abbrev pub relation_of : {ts rest : List Lexeme} → Matches system relation_text ts rest → SynItem
relation_of (both a (both o b)) = syn_item.Relation (ref_of a) (relate_of (token_of o).kind) (ref_of b)

abbrev pub syn_item_of : {ts rest : List Lexeme} → Matches system syn_item_text ts rest → SynItem
syn_item_of (the_left m) = syn_item.Node (node_of m)
syn_item_of (the_right m) = relation_of m

abbrev pub more_syn_item_of : {ts rest : List Lexeme} → Matches system more_syn_item_text ts rest → SynItem
more_syn_item_of (both s m) = syn_item_of m

abbrev pub syn_items_of : {ts rest : List Lexeme} → Matches system syn_items_text ts rest → List SynItem
syn_items_of (both m ms) = syn_item_of m ∷ items (λ ts rest m. more_syn_item_of m) ms

abbrev pub perhaps_syn_items_of : {ts rest : List Lexeme} → Matches system perhaps_syn_items_text ts rest → List SynItem
perhaps_syn_items_of (the_left m) = syn_items_of m
perhaps_syn_items_of (the_right m) = []

-- the three dimensions
abbrev pub syn_of : {ts rest : List Lexeme} → Matches system syn_text ts rest → List SynItem
syn_of (both w (both g (both a (both m b)))) = perhaps_syn_items_of m

abbrev pub sem_of : {ts rest : List Lexeme} → Matches system sem_text ts rest → List Literal
sem_of (both w (both g (both a (both m b)))) = perhaps_literals_of m

abbrev pub iface_of : {ts rest : List Lexeme} → Matches system iface_text ts rest → List (Sym × Side)
iface_of (both w (both g (both a (both m b)))) = bag_of m

abbrev pub behind_less_of : {ts rest : List Lexeme} → Matches system behind_less_text ts rest → Statement
behind_less_of (the_left m) = statement.Syn (syn_of m)
behind_less_of (the_right (the_left m)) = statement.Sem (sem_of m)
behind_less_of (the_right (the_right m)) = statement.Iface (iface_of m)

abbrev pub dimension_of : {ts rest : List Lexeme} → Matches system dimension_text ts rest → Statement
dimension_of (both l m) = behind_less_of m

-- calls, and statements that begin with a variable
abbrev pub call_of : {ts rest : List Lexeme} → Matches system call_text ts rest → Sym
call_of (both a b) = (token_of a).name

abbrev pub brackets_of : {ts rest : List Lexeme} → Matches system brackets_text ts rest → Bool
brackets_of (the_left m) = true
brackets_of (the_right m) = false

abbrev pub word_with : Sym → Bool → After
word_with w true = after.Call w
word_with w false = after.Equals (side.Name w)

abbrev pub word_of : {ts rest : List Lexeme} → Matches system word_text ts rest → After
word_of (both a b) = word_with (token_of a).name (brackets_of b)

abbrev pub right_of : {ts rest : List Lexeme} → Matches system right_text ts rest → After
right_of (the_left m) = word_of m
right_of (the_right (the_left a)) = after.Equals (side.Name (token_of a).name)
right_of (the_right (the_right (the_left a))) = after.Equals (side.Name (token_of a).name)
right_of (the_right (the_right (the_right m))) = after.Equals (side.Ref (ref_of m))

abbrev pub after_of : {ts rest : List Lexeme} → Matches system after_text ts rest → After
after_of (the_left (both d (both v (both e s)))) = after.Dotted (token_of v).name (side_of s)
after_of (the_right (both e m)) = right_of m

abbrev pub statement_with : Sym → After → Statement
statement_with x (after.Dotted y s) = statement.Equation (record { of = Some x; name = y }) s
statement_with x (after.Equals s) = statement.Equation (record { of = None; name = x }) s
statement_with x (after.Call c) = statement.Bind x c

abbrev pub variable_of : {ts rest : List Lexeme} → Matches system variable_text ts rest → Statement
variable_of (both a b) = statement_with (token_of a).name (after_of b)

-- bodies
abbrev mutual
  pub body_of : {ts rest : List Lexeme} → Matches system (part 0) ts rest → List (List Statement)
  body_of (by_part (the_left m)) = alternatives_of m
  body_of (by_part (the_right m)) = []

  pub alternatives_of : {ts rest : List Lexeme} → Matches system alternatives_text ts rest → List (List Statement)
  alternatives_of (both a more) = alternative_of a ∷ more_alternatives_of more

  pub more_alternatives_of : {ts rest : List Lexeme} → Matches system (star more_alternative_text) ts rest → List (List Statement)
  more_alternatives_of no_more = []
  more_alternatives_of (one_more (both a more)) = more_alternative_of a ∷ more_alternatives_of more

  pub more_alternative_of : {ts rest : List Lexeme} → Matches system more_alternative_text ts rest → List Statement
  more_alternative_of (both b a) = alternative_of a

  pub alternative_of : {ts rest : List Lexeme} → Matches system alternative_text ts rest → List Statement
  alternative_of (both s ss) = statement_of s ∷ more_statements_of ss

  pub more_statements_of : {ts rest : List Lexeme} → Matches system (star more_statement_text) ts rest → List Statement
  more_statements_of no_more = []
  more_statements_of (one_more (both s ss)) = more_statement_of s ∷ more_statements_of ss

  pub more_statement_of : {ts rest : List Lexeme} → Matches system more_statement_text ts rest → Statement
  more_statement_of (both b s) = statement_of s

  pub statement_of : {ts rest : List Lexeme} → Matches system statement_text ts rest → Statement
  statement_of (the_left m) = statement.Group (group_of m)
  statement_of (the_right (the_left m)) = statement.Call (call_of m)
  statement_of (the_right (the_right (the_left m))) = variable_of m
  statement_of (the_right (the_right (the_right m))) = dimension_of m

  pub group_of : {ts rest : List Lexeme} → Matches system group_text ts rest → List (List Statement)
  group_of (both a (both b c)) = body_of b

-- classes
abbrev pub calls_of : {ts rest : List Lexeme} → Matches system calls_text ts rest → List Sym
calls_of (both c cs) = call_of c ∷ items (λ ts rest m. call_of m) cs

abbrev pub imports_of : {ts rest : List Lexeme} → Matches system imports_text ts rest → List Sym
imports_of (the_left (both w cs)) = calls_of cs
imports_of (the_right m) = []

abbrev pub variables_of : {ts rest : List Lexeme} → Matches system variables_text ts rest → List Sym
variables_of (both v vs) = (token_of v).name ∷ items (λ ts rest m. (token_of m).name) vs

abbrev pub exports_of : {ts rest : List Lexeme} → Matches system exports_text ts rest → List Sym
exports_of (the_left (both w vs)) = variables_of vs
exports_of (the_right m) = []

abbrev pub declares_of : {ts rest : List Lexeme} → Matches system declares_text ts rest → List Sym
declares_of (the_left (both w vs)) = variables_of vs
declares_of (the_right m) = []

abbrev pub class_of : {ts rest : List Lexeme} → Matches system class_text ts rest → Class
class_of (both w (both n (both i (both e (both d (both a (both b c))))))) =
    record { name = (token_of n).name; imports = imports_of i; exports = exports_of e; declares = declares_of d; body = body_of b }

abbrev pub value_of : {ts rest : List Lexeme} → Matches system value_text ts rest → Sym
value_of (both w n) = (token_of n).name

-- headers
abbrev pub more_name_of : {ts rest : List Lexeme} → Matches system more_name_text ts rest → Sym
more_name_of (both s n) = (token_of n).name

abbrev pub names_of : {ts rest : List Lexeme} → Matches system names_text ts rest → List Sym
names_of (both n ns) = (token_of n).name ∷ items (λ ts rest m. more_name_of m) ns

abbrev pub domain_of : {ts rest : List Lexeme} → Matches system domain_text ts rest → Option (List Sym)
domain_of (the_left m) = None
domain_of (the_right (both e (both a (both ns b)))) = Some (names_of ns)

abbrev pub type_of : {ts rest : List Lexeme} → Matches system type_text ts rest → Header
type_of (both w (both n d)) = header.Domain (token_of n).name (domain_of d)

abbrev pub typed_of : {k : Kind} {ts rest : List Lexeme} → Matches system (typed_text k) ts rest → Sym × Sym
typed_of (both w (both n (both c t))) = ((token_of n).name, (token_of t).name)

abbrev pub given_of : {ts rest : List Lexeme} → Matches system given_text ts rest → Option Sym
given_of (the_left (both e n)) = Some (token_of n).name
given_of (the_right m) = None

abbrev pub argument_of : {ts rest : List Lexeme} → Matches system argument_text ts rest → Sym × Option Sym
argument_of (both n g) = ((token_of n).name, given_of g)

abbrev pub more_argument_of : {ts rest : List Lexeme} → Matches system more_argument_text ts rest → Sym × Option Sym
more_argument_of (both s a) = argument_of a

abbrev pub arguments_of : {ts rest : List Lexeme} → Matches system arguments_text ts rest → List (Sym × Option Sym)
arguments_of (both a more) = argument_of a ∷ items (λ ts rest m. more_argument_of m) more

abbrev pub perhaps_arguments_of : {ts rest : List Lexeme} → Matches system perhaps_arguments_text ts rest → List (Sym × Option Sym)
perhaps_arguments_of (the_left m) = arguments_of m
perhaps_arguments_of (the_right m) = []

abbrev pub principle_of : {ts rest : List Lexeme} → Matches system principle_text ts rest → Header
principle_of (both w (both n (both h (both a (both args (both b (both d (both o (both dim c))))))))) = header.Principle (token_of n).name (perhaps_arguments_of args) (token_of dim).name

abbrev pub header_of : {ts rest : List Lexeme} → Matches system header_text ts rest → Header
header_of (the_left m) = type_of m
header_of (the_right (the_left m)) = header.Property (typed_of m).0 (typed_of m).1
header_of (the_right (the_right (the_left m))) = header.Feature (typed_of m).0 (typed_of m).1
header_of (the_right (the_right (the_right m))) = principle_of m

-- the whole
abbrev pub item_of : {ts rest : List Lexeme} → Matches system item_text ts rest → Item
item_of (the_left m) = item.Class (class_of m)
item_of (the_right (the_left m)) = item.Value (value_of m)
item_of (the_right (the_right m)) = item.Header (header_of m)

abbrev pub metagrammar_of : {ts rest : List Lexeme} → Matches system metagrammar_text ts rest → List Item
metagrammar_of m = items (λ ts rest m. item_of m) m
