-- What is wrong with a text that can be read: an attribute that a list has already, and too many classes. The complaints of a tree stand in the order of the text.
use Rattle.std.specs.Prelude.{ℕ, suc, List, [], ◌∷◌, ◌++◌, map, Option, Some, None, is_some, Bool, true, false, ◌||◌, ◌==◌}
use Rattle.gr_grammar.specs.Grammars.{star, part, Matches, both, the_left, the_right, no_more, one_more, by_part, items}
use Rattle.mg_reader.specs.declared.notes.Complaint.{Complaint}
use Rattle.mg_reader.specs.declared.notes.Complaint.TheVariants.{Duplicate, TooManyClasses}
use Rattle.mg_reader.specs.declared.lexeme.Lexeme.{Lexeme}
use Rattle.mg_reader.specs.declared.found.Keyed.{Keyed}
use Rattle.mg_reader.specs.declared.found.Property.{Property}
use Rattle.mg_reader.specs.declared.found.Feature.{Feature}
use Rattle.mg_reader.specs.declared.found.Feature.TheVariants as feature
use Rattle.mg_reader.specs.declared.found.Features.{Features}
use Rattle.mg_reader.specs.Grammar.{system, pairs_text, perhaps_pairs_text, bag_text, properties_text, perhaps_properties_text, property_list_text, feature_text, more_feature_text, features_text, perhaps_features_text, feature_list_text, kid_text, next_kid_text, kids_text, perhaps_kids_text, kid_list_text, syn_item_text, more_syn_item_text, syn_items_text, perhaps_syn_items_text, syn_text, iface_text, behind_less_text, dimension_text, group_text, statement_text, more_statement_text, alternative_text, more_alternative_text, alternatives_text, class_text, item_text, metagrammar_text}
use Rattle.mg_reader.specs.Values.{token_of, keyeds_of, property_row_of, feature_of, with_feature, no_features}

-- the first complaint, where one may be there already
abbrev pub or_first : Option Complaint → List Complaint → Option Complaint
or_first c [] = c
or_first None (x ∷ xs) = Some x
or_first (Some c) (x ∷ xs) = Some c

-- the lists one after another
abbrev pub all_of : List (List Complaint) → List Complaint
all_of [] = []
all_of (c ∷ cs) = c ++ all_of cs

-- the number is one of these
abbrev pub among : List ℕ → ℕ → Bool
among [] a = false
among (b ∷ bs) a = (a == b) || among bs a

-- an attribute that stands there already is complained of at its place
abbrev pub again : Bool → Lexeme → List Complaint
again true t = Duplicate t.place ∷ []
again false t = []

-- the complaints of the attributes of a list, behind those that stand before
abbrev pub key_bad : List ℕ → List Lexeme → List Complaint
key_bad seen [] = []
key_bad seen (k ∷ ks) = again (among seen k.name.0) k ++ key_bad (seen ++ k.name.0 ∷ []) ks

-- bags
abbrev pub pairs_bad : {ts rest : List Lexeme} → Matches system pairs_text ts rest → List Complaint
pairs_bad m = key_bad [] (map (λ (k : Keyed). k.key) (keyeds_of m))

abbrev pub perhaps_pairs_bad : {ts rest : List Lexeme} → Matches system perhaps_pairs_text ts rest → List Complaint
perhaps_pairs_bad (the_left m) = pairs_bad m
perhaps_pairs_bad (the_right m) = []

abbrev pub bag_bad : {ts rest : List Lexeme} → Matches system bag_text ts rest → List Complaint
bag_bad (both a (both m b)) = perhaps_pairs_bad m

-- properties, the colour among them
abbrev pub properties_bad : {ts rest : List Lexeme} → Matches system properties_text ts rest → List Complaint
properties_bad m = key_bad [] (map (λ (p : Property). p.key) (property_row_of m))

abbrev pub perhaps_properties_bad : {ts rest : List Lexeme} → Matches system perhaps_properties_text ts rest → List Complaint
perhaps_properties_bad (the_left m) = properties_bad m
perhaps_properties_bad (the_right m) = []

abbrev pub property_list_bad : {ts rest : List Lexeme} → Matches system property_list_text ts rest → List Complaint
property_list_bad (the_left (both a (both m b))) = perhaps_properties_bad m
property_list_bad (the_right m) = []

-- features. The complaints of a feature that others stand before: at its key where one of the same kind is among them, and then those of its bag
abbrev pub has : Features → Feature → Bool
has fs (feature.Category v) = is_some fs.category
has fs (feature.Top b) = is_some fs.top
has fs (feature.Bottom b) = is_some fs.bottom

-- a feature, its key, and the complaints inside it
pub record FeatureRead : Type 0 where
  pub given : Feature
  pub key : Lexeme
  pub inner : List Complaint

abbrev pub feature_key : {ts rest : List Lexeme} → Matches system feature_text ts rest → Lexeme
feature_key (the_left (both k m)) = token_of k
feature_key (the_right (the_left (both k m))) = token_of k
feature_key (the_right (the_right (both k m))) = token_of k

abbrev pub feature_inner : {ts rest : List Lexeme} → Matches system feature_text ts rest → List Complaint
feature_inner (the_left m) = []
feature_inner (the_right (the_left (both k (both e b)))) = bag_bad b
feature_inner (the_right (the_right (both k (both e b)))) = bag_bad b

abbrev pub feature_read : {ts rest : List Lexeme} → Matches system feature_text ts rest → FeatureRead
feature_read m = record { given = feature_of m; key = feature_key m; inner = feature_inner m }

abbrev pub more_feature_read : {ts rest : List Lexeme} → Matches system more_feature_text ts rest → FeatureRead
more_feature_read (both s f) = feature_read f

abbrev pub feature_bad : Features → FeatureRead → List Complaint
feature_bad fs r = again (has fs r.given) r.key ++ r.inner

-- the complaints of features, behind those that stand before
abbrev pub feature_row_bad : Features → List FeatureRead → List Complaint
feature_row_bad fs [] = []
feature_row_bad fs (r ∷ rs) = feature_bad fs r ++ feature_row_bad (with_feature fs r.given) rs

abbrev pub features_bad : {ts rest : List Lexeme} → Matches system features_text ts rest → List Complaint
features_bad (both f fs) = feature_row_bad no_features (feature_read f ∷ items (λ ts rest m. more_feature_read m) fs)

abbrev pub perhaps_features_bad : {ts rest : List Lexeme} → Matches system perhaps_features_text ts rest → List Complaint
perhaps_features_bad (the_left m) = features_bad m
perhaps_features_bad (the_right m) = []

abbrev pub feature_list_bad : {ts rest : List Lexeme} → Matches system feature_list_text ts rest → List Complaint
feature_list_bad (the_left (both a (both m b))) = perhaps_features_bad m
feature_list_bad (the_right m) = []

-- node blocks
abbrev mutual
  pub node_bad : {ts rest : List Lexeme} → Matches system (part 1) ts rest → List Complaint
  node_bad (by_part (both w (both n (both ps (both fs ks))))) = property_list_bad ps ++ (feature_list_bad fs ++ kid_list_bad ks)

  pub kid_list_bad : {ts rest : List Lexeme} → Matches system kid_list_text ts rest → List Complaint
  kid_list_bad (the_left (both a (both m b))) = perhaps_kids_bad m
  kid_list_bad (the_right m) = []

  pub perhaps_kids_bad : {ts rest : List Lexeme} → Matches system perhaps_kids_text ts rest → List Complaint
  perhaps_kids_bad (the_left m) = kids_bad m
  perhaps_kids_bad (the_right m) = []

  pub kids_bad : {ts rest : List Lexeme} → Matches system kids_text ts rest → List Complaint
  kids_bad (both k ks) = kid_bad k ++ more_kids_bad ks

  pub more_kids_bad : {ts rest : List Lexeme} → Matches system (star next_kid_text) ts rest → List Complaint
  more_kids_bad no_more = []
  more_kids_bad (one_more (both k ks)) = next_kid_bad k ++ more_kids_bad ks

  pub next_kid_bad : {ts rest : List Lexeme} → Matches system next_kid_text ts rest → List Complaint
  next_kid_bad (both l k) = kid_bad k

  pub kid_bad : {ts rest : List Lexeme} → Matches system kid_text ts rest → List Complaint
  kid_bad (both d n) = node_bad n

-- the three dimensions
abbrev pub syn_item_bad : {ts rest : List Lexeme} → Matches system syn_item_text ts rest → List Complaint
syn_item_bad (the_left m) = node_bad m
syn_item_bad (the_right m) = []

abbrev pub more_syn_item_bad : {ts rest : List Lexeme} → Matches system more_syn_item_text ts rest → List Complaint
more_syn_item_bad (both s m) = syn_item_bad m

abbrev pub syn_items_bad : {ts rest : List Lexeme} → Matches system syn_items_text ts rest → List Complaint
syn_items_bad (both m ms) = syn_item_bad m ++ all_of (items (λ ts rest m. more_syn_item_bad m) ms)

abbrev pub perhaps_syn_items_bad : {ts rest : List Lexeme} → Matches system perhaps_syn_items_text ts rest → List Complaint
perhaps_syn_items_bad (the_left m) = syn_items_bad m
perhaps_syn_items_bad (the_right m) = []

abbrev pub syn_bad : {ts rest : List Lexeme} → Matches system syn_text ts rest → List Complaint
syn_bad (both w (both g (both a (both m b)))) = perhaps_syn_items_bad m

abbrev pub iface_bad : {ts rest : List Lexeme} → Matches system iface_text ts rest → List Complaint
iface_bad (both w (both g (both a (both m b)))) = bag_bad m

abbrev pub behind_less_bad : {ts rest : List Lexeme} → Matches system behind_less_text ts rest → List Complaint
behind_less_bad (the_left m) = syn_bad m
behind_less_bad (the_right (the_left m)) = []
behind_less_bad (the_right (the_right m)) = iface_bad m

abbrev pub dimension_bad : {ts rest : List Lexeme} → Matches system dimension_text ts rest → List Complaint
dimension_bad (both l m) = behind_less_bad m

-- bodies
abbrev mutual
  pub body_bad : {ts rest : List Lexeme} → Matches system (part 0) ts rest → List Complaint
  body_bad (by_part (the_left m)) = alternatives_bad m
  body_bad (by_part (the_right m)) = []

  pub alternatives_bad : {ts rest : List Lexeme} → Matches system alternatives_text ts rest → List Complaint
  alternatives_bad (both a more) = alternative_bad a ++ more_alternatives_bad more

  pub more_alternatives_bad : {ts rest : List Lexeme} → Matches system (star more_alternative_text) ts rest → List Complaint
  more_alternatives_bad no_more = []
  more_alternatives_bad (one_more (both a more)) = more_alternative_bad a ++ more_alternatives_bad more

  pub more_alternative_bad : {ts rest : List Lexeme} → Matches system more_alternative_text ts rest → List Complaint
  more_alternative_bad (both b a) = alternative_bad a

  pub alternative_bad : {ts rest : List Lexeme} → Matches system alternative_text ts rest → List Complaint
  alternative_bad (both s ss) = statement_bad s ++ more_statements_bad ss

  pub more_statements_bad : {ts rest : List Lexeme} → Matches system (star more_statement_text) ts rest → List Complaint
  more_statements_bad no_more = []
  more_statements_bad (one_more (both s ss)) = more_statement_bad s ++ more_statements_bad ss

  pub more_statement_bad : {ts rest : List Lexeme} → Matches system more_statement_text ts rest → List Complaint
  more_statement_bad (both b s) = statement_bad s

  pub statement_bad : {ts rest : List Lexeme} → Matches system statement_text ts rest → List Complaint
  statement_bad (the_left m) = group_bad m
  statement_bad (the_right (the_left m)) = []
  statement_bad (the_right (the_right (the_left m))) = []
  statement_bad (the_right (the_right (the_right m))) = dimension_bad m

  pub group_bad : {ts rest : List Lexeme} → Matches system group_text ts rest → List Complaint
  group_bad (both a (both b c)) = body_bad b

-- the word `class` of a class, where too many stand before
abbrev pub too_many : Bool → Lexeme → List Complaint
too_many true t = TooManyClasses t.place ∷ []
too_many false t = []

-- of an item, the word `class` where it is a class, and the complaints inside it
pub record ItemRead : Type 0 where
  pub word : Option Lexeme
  pub inner : List Complaint

abbrev pub class_word : {ts rest : List Lexeme} → Matches system class_text ts rest → Lexeme
class_word (both w m) = token_of w

abbrev pub class_inner : {ts rest : List Lexeme} → Matches system class_text ts rest → List Complaint
class_inner (both w (both n (both i (both e (both d (both a (both b c))))))) = body_bad b

abbrev pub class_bad : {ts rest : List Lexeme} → ℕ → Matches system class_text ts rest → List Complaint
class_bad count m = too_many (count == 4096) (class_word m) ++ class_inner m

abbrev pub item_read : {ts rest : List Lexeme} → Matches system item_text ts rest → ItemRead
item_read (the_left m) = record { word = Some (class_word m); inner = class_inner m }
item_read (the_right m) = record { word = None; inner = [] }

-- the complaints of an item, where so many classes stand before, and the number of classes with it
abbrev pub word_bad : ℕ → Option Lexeme → List Complaint
word_bad count None = []
word_bad count (Some w) = too_many (count == 4096) w

abbrev pub item_bad : ℕ → ItemRead → List Complaint
item_bad count r = word_bad count r.word ++ r.inner

abbrev pub with_class : ℕ → Option Lexeme → ℕ
with_class count None = count
with_class count (Some w) = suc count

abbrev pub item_row_bad : ℕ → List ItemRead → List Complaint
item_row_bad count [] = []
item_row_bad count (r ∷ rs) = item_bad count r ++ item_row_bad (with_class count r.word) rs

abbrev pub metagrammar_bad : {ts rest : List Lexeme} → Matches system metagrammar_text ts rest → List Complaint
metagrammar_bad m = item_row_bad 0 (items (λ ts rest i. item_read i) m)
