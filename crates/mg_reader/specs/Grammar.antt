-- The grammar of a metagrammar, over lexemes. Where two forms begin alike they share their beginning, so that the next lexeme decides.
use Rattle.std.specs.Prelude.{ℕ, zero, suc, [], ◌∷◌, true, false}
use Rattle.gr_grammar.specs.Grammars.{Grammar, tok, nil, seq, alt, star, part, Info, System}
use Rattle.mg_reader.specs.Kinds.{test, apart}
use Rattle.mg_reader.specs.declared.lexeme.Kind.{Kind}
use Rattle.mg_reader.specs.declared.lexeme.Kind.TheVariants as kind
use Rattle.mg_reader.specs.declared.lexeme.Class.{Class}
use Rattle.mg_reader.specs.declared.lexeme.Class.TheVariants as class
use Rattle.mg_reader.specs.declared.lexeme.Lexeme.{Lexeme}

-- one lexeme of a kind, and an optional lexeme of a class
abbrev pub is : Kind → Grammar Class
is k = tok (class.Is k)

abbrev pub maybe_text : Class → Grammar Class
maybe_text c = alt (tok c) nil

-- variables and values
abbrev pub second_text : Grammar Class
second_text = alt (seq (is kind.Dot) (is kind.Var)) nil

abbrev pub ref_text : Grammar Class
ref_text = seq (is kind.Var) second_text

abbrev pub side_text : Grammar Class
side_text = alt (tok class.Name) ref_text

-- bags
abbrev pub pair_text : Grammar Class
pair_text = seq (tok class.Word) (seq (is kind.Equals) side_text)

abbrev pub more_pair_text : Grammar Class
more_pair_text = seq (is kind.Comma) pair_text

abbrev pub pairs_text : Grammar Class
pairs_text = seq pair_text (star more_pair_text)

abbrev pub perhaps_pairs_text : Grammar Class
perhaps_pairs_text = alt pairs_text nil

abbrev pub bag_text : Grammar Class
bag_text = seq (is kind.LeftBracket) (seq perhaps_pairs_text (is kind.RightBracket))

-- literals
abbrev pub next_arg_text : Grammar Class
next_arg_text = seq (maybe_text (class.Is kind.Comma)) side_text

abbrev pub args_text : Grammar Class
args_text = seq side_text (star next_arg_text)

abbrev pub perhaps_args_text : Grammar Class
perhaps_args_text = alt args_text nil

abbrev pub predicate_text : Grammar Class
predicate_text = alt (seq (is kind.Colon) side_text) nil

abbrev pub literal_text : Grammar Class
literal_text = seq side_text (seq predicate_text (seq (is kind.LeftParen) (seq perhaps_args_text (is kind.RightParen))))

abbrev pub next_literal_text : Grammar Class
next_literal_text = seq (maybe_text (class.Is kind.Semicolon)) literal_text

abbrev pub literals_text : Grammar Class
literals_text = seq literal_text (star next_literal_text)

abbrev pub perhaps_literals_text : Grammar Class
perhaps_literals_text = alt literals_text nil

-- node blocks. Part 1 is a node block
abbrev pub paint_text : Grammar Class
paint_text = seq (is kind.Color) (seq (is kind.Equals) (tok class.Paint))

abbrev pub marker_text : Grammar Class
marker_text = seq (is kind.Mark) (seq (is kind.Equals) (tok class.Marker))

abbrev pub plain_property_text : Grammar Class
plain_property_text = seq (tok class.Property) (seq (is kind.Equals) side_text)

abbrev pub property_text : Grammar Class
property_text = alt paint_text (alt marker_text plain_property_text)

abbrev pub more_property_text : Grammar Class
more_property_text = seq (is kind.Comma) property_text

abbrev pub properties_text : Grammar Class
properties_text = seq property_text (star more_property_text)

abbrev pub perhaps_properties_text : Grammar Class
perhaps_properties_text = alt properties_text nil

abbrev pub property_list_text : Grammar Class
property_list_text = alt (seq (is kind.LeftParen) (seq perhaps_properties_text (is kind.RightParen))) nil

abbrev pub category_text : Grammar Class
category_text = seq (is kind.Cat) (seq (is kind.Equals) side_text)

abbrev pub top_text : Grammar Class
top_text = seq (is kind.Top) (seq (is kind.Equals) bag_text)

abbrev pub bottom_text : Grammar Class
bottom_text = seq (is kind.Bot) (seq (is kind.Equals) bag_text)

abbrev pub feature_text : Grammar Class
feature_text = alt category_text (alt top_text bottom_text)

abbrev pub more_feature_text : Grammar Class
more_feature_text = seq (is kind.Comma) feature_text

abbrev pub features_text : Grammar Class
features_text = seq feature_text (star more_feature_text)

abbrev pub perhaps_features_text : Grammar Class
perhaps_features_text = alt features_text nil

abbrev pub feature_list_text : Grammar Class
feature_list_text = alt (seq (is kind.LeftBracket) (seq perhaps_features_text (is kind.RightBracket))) nil

abbrev pub node_name_text : Grammar Class
node_name_text = alt ref_text nil

abbrev pub kid_text : Grammar Class
kid_text = seq (maybe_text class.Descent) (part 1)

abbrev pub next_kid_text : Grammar Class
next_kid_text = seq (maybe_text (class.Is kind.Commas)) kid_text

abbrev pub kids_text : Grammar Class
kids_text = seq kid_text (star next_kid_text)

abbrev pub perhaps_kids_text : Grammar Class
perhaps_kids_text = alt kids_text nil

abbrev pub kid_list_text : Grammar Class
kid_list_text = alt (seq (is kind.LeftBrace) (seq perhaps_kids_text (is kind.RightBrace))) nil

abbrev pub node_text : Grammar Class
node_text = seq (is kind.Node) (seq node_name_text (seq property_list_text (seq feature_list_text kid_list_text)))

-- what stands in a `<syn>` block
abbrev pub relation_text : Grammar Class
relation_text = seq ref_text (seq (tok class.Operator) ref_text)

abbrev pub syn_item_text : Grammar Class
syn_item_text = alt (part 1) relation_text

abbrev pub more_syn_item_text : Grammar Class
more_syn_item_text = seq (is kind.Semicolon) syn_item_text

abbrev pub syn_items_text : Grammar Class
syn_items_text = seq syn_item_text (star more_syn_item_text)

abbrev pub perhaps_syn_items_text : Grammar Class
perhaps_syn_items_text = alt syn_items_text nil

-- the blocks of the three dimensions behind `<`
abbrev pub syn_text : Grammar Class
syn_text = seq (is kind.Syn) (seq (is kind.Greater) (seq (is kind.LeftBrace) (seq perhaps_syn_items_text (is kind.RightBrace))))

abbrev pub sem_text : Grammar Class
sem_text = seq (is kind.Sem) (seq (is kind.Greater) (seq (is kind.LeftBrace) (seq perhaps_literals_text (is kind.RightBrace))))

abbrev pub iface_text : Grammar Class
iface_text = seq (is kind.Iface) (seq (is kind.Greater) (seq (is kind.LeftBrace) (seq bag_text (is kind.RightBrace))))

abbrev pub behind_less_text : Grammar Class
behind_less_text = alt syn_text (alt sem_text iface_text)

abbrev pub dimension_text : Grammar Class
dimension_text = seq (is kind.Less) behind_less_text

-- calls, and statements that begin with a variable
abbrev pub call_text : Grammar Class
call_text = seq (tok class.Plain) (seq (is kind.LeftBracket) (is kind.RightBracket))

abbrev pub brackets_text : Grammar Class
brackets_text = alt (seq (is kind.LeftBracket) (is kind.RightBracket)) nil

abbrev pub word_text : Grammar Class
word_text = seq (tok class.Plain) brackets_text

abbrev pub right_text : Grammar Class
right_text = alt word_text (alt (tok class.Reserved) (alt (is kind.Str) ref_text))

abbrev pub dotted_text : Grammar Class
dotted_text = seq (is kind.Dot) (seq (is kind.Var) (seq (is kind.Equals) side_text))

abbrev pub equals_text : Grammar Class
equals_text = seq (is kind.Equals) right_text

abbrev pub after_text : Grammar Class
after_text = alt dotted_text equals_text

abbrev pub variable_text : Grammar Class
variable_text = seq (is kind.Var) after_text

-- bodies. Part 0 is a body
abbrev pub group_text : Grammar Class
group_text = seq (is kind.LeftBrace) (seq (part 0) (is kind.RightBrace))

abbrev pub statement_text : Grammar Class
statement_text = alt group_text (alt call_text (alt variable_text dimension_text))

abbrev pub more_statement_text : Grammar Class
more_statement_text = seq (is kind.Semicolon) statement_text

abbrev pub alternative_text : Grammar Class
alternative_text = seq statement_text (star more_statement_text)

abbrev pub more_alternative_text : Grammar Class
more_alternative_text = seq (is kind.Bar) alternative_text

abbrev pub alternatives_text : Grammar Class
alternatives_text = seq alternative_text (star more_alternative_text)

abbrev pub body_text : Grammar Class
body_text = alt alternatives_text nil

-- classes
abbrev pub calls_text : Grammar Class
calls_text = seq call_text (star call_text)

abbrev pub imports_text : Grammar Class
imports_text = alt (seq (is kind.Import) calls_text) nil

abbrev pub variables_text : Grammar Class
variables_text = seq (is kind.Var) (star (is kind.Var))

abbrev pub exports_text : Grammar Class
exports_text = alt (seq (is kind.Export) variables_text) nil

abbrev pub declares_text : Grammar Class
declares_text = alt (seq (is kind.Declare) variables_text) nil

abbrev pub class_text : Grammar Class
class_text = seq (is kind.Class) (seq (tok class.Plain) (seq imports_text (seq exports_text (seq declares_text (seq (is kind.LeftBrace) (seq (part 0) (is kind.RightBrace)))))))

abbrev pub value_text : Grammar Class
value_text = seq (is kind.Value) (tok class.Plain)

-- headers
abbrev pub more_name_text : Grammar Class
more_name_text = seq (is kind.Comma) (tok class.Name)

abbrev pub names_text : Grammar Class
names_text = seq (tok class.Name) (star more_name_text)

abbrev pub domain_text : Grammar Class
domain_text = alt (is kind.Bang) (seq (is kind.Equals) (seq (is kind.LeftBrace) (seq names_text (is kind.RightBrace))))

abbrev pub type_text : Grammar Class
type_text = seq (is kind.Domain) (seq (tok class.Word) domain_text)

abbrev pub typed_text : Kind → Grammar Class
typed_text k = seq (is k) (seq (tok class.Word) (seq (is kind.Colon) (tok class.Word)))

abbrev pub given_text : Grammar Class
given_text = alt (seq (is kind.Equals) (tok class.Name)) nil

abbrev pub argument_text : Grammar Class
argument_text = seq (tok class.Word) given_text

abbrev pub more_argument_text : Grammar Class
more_argument_text = seq (is kind.Comma) argument_text

abbrev pub arguments_text : Grammar Class
arguments_text = seq argument_text (star more_argument_text)

abbrev pub perhaps_arguments_text : Grammar Class
perhaps_arguments_text = alt arguments_text nil

abbrev pub principle_text : Grammar Class
principle_text =
    seq (is kind.Use) (seq (tok class.Word) (seq (is kind.With) (seq (is kind.LeftParen) (seq perhaps_arguments_text (seq (is kind.RightParen)
    (seq (is kind.Dims) (seq (is kind.LeftParen) (seq (tok class.Word) (is kind.RightParen)))))))))

abbrev pub header_text : Grammar Class
header_text = alt type_text (alt (typed_text kind.Property) (alt (typed_text kind.Feature) principle_text))

-- the whole
abbrev pub item_text : Grammar Class
item_text = alt class_text (alt value_text header_text)

abbrev pub metagrammar_text : Grammar Class
metagrammar_text = star item_text

abbrev pub parts : ℕ → Grammar Class
parts zero = body_text
parts (suc n) = node_text

-- what begins a body and a node block, and what may go on behind one
abbrev pub info : ℕ → Info Class
info zero = record {
  null = true;
  first = class.Is kind.LeftBrace ∷ class.Plain ∷ class.Is kind.Var ∷ class.Is kind.Less ∷ [];
  goes = class.Is kind.Dot ∷ class.Is kind.LeftBracket ∷ class.Is kind.Dot ∷ class.Is kind.Semicolon ∷ class.Is kind.Dot ∷ class.Is kind.LeftBracket ∷ class.Is kind.Dot ∷ class.Is kind.Bar ∷ class.Is kind.Dot ∷ class.Is kind.LeftBracket ∷ class.Is kind.Dot ∷ class.Is kind.Semicolon ∷ class.Is kind.Dot ∷ class.Is kind.LeftBracket ∷ class.Is kind.Dot ∷ class.Is kind.LeftBrace ∷ class.Plain ∷ class.Is kind.Var ∷ class.Is kind.Less ∷ [];
}
info (suc n) = record {
  null = false;
  first = class.Is kind.Node ∷ [];
  goes = class.Is kind.LeftBrace ∷ class.Is kind.LeftBracket ∷ class.Is kind.LeftParen ∷ class.Is kind.Dot ∷ class.Is kind.Var ∷ [];
}

abbrev pub system : System Class Lexeme
system = record { test = test; apart = apart; parts = parts; info = info }
