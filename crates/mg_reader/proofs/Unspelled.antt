-- What is spelled is a text of the grammar, with the spelled value and without complaints.
use Rattle.std.proofs.Common.{◌≡◌, ℕ, suc, ◌+◌, ◌≤◌, ◌<◌, List, [], ◌∷◌, ◌++◌, Bool, true, false, refl, ap, sym, ◌∙◌, subst, arith, Option, Some, None, inl, inr}
use Rattle.std.specs.Prelude.{◌||◌, ◌==◌, nat_le, map, ⊤}
use Rattle.std.proofs.lemmas.Bool.{ne_eqb, cases_lt, leb-true, ltb-true, le-leb, lt-ltb, and_from}
use Rattle.gr_base.specs.Lists.{IsAmong, NoneTwice}
use Rattle.gr_grammar.specs.Grammars.{Grammar, tok, seq, star, part, Matches, a_token, no_token, both, the_left, the_right, no_more, one_more, by_part, items}
use Rattle.gr_terms.specs.declared.Sym.{Sym}
use Rattle.mg_syntax.specs.declared.body.Side.{Side}
use Rattle.mg_syntax.specs.declared.body.Side.TheVariants as side
use Rattle.mg_syntax.specs.declared.body.Ref.{Ref}
use Rattle.mg_syntax.specs.declared.body.Literal.{Literal}
use Rattle.mg_syntax.specs.declared.body.Statement.{Statement}
use Rattle.mg_syntax.specs.declared.body.Statement.TheVariants as statement
use Rattle.mg_syntax.specs.declared.block.Relate.{Relate}
use Rattle.mg_syntax.specs.declared.block.NodeBlock.{NodeBlock}
use Rattle.mg_syntax.specs.declared.block.Kid.{Kid, roll-Kid}
use Rattle.mg_syntax.specs.declared.block.SynItem.{SynItem}
use Rattle.mg_syntax.specs.declared.block.SynItem.TheVariants as syn_item
use Rattle.mg_syntax.specs.declared.item.Class.{Class as ClassValue}
use Rattle.mg_syntax.specs.declared.item.Header.{Header}
use Rattle.mg_syntax.specs.declared.item.Header.TheVariants as header
use Rattle.mg_syntax.specs.declared.item.Item.{Item}
use Rattle.mg_syntax.specs.declared.item.Item.TheVariants as item
use Rattle.mg_reader.specs.declared.lexeme.Kind.{Kind}
use Rattle.mg_reader.specs.declared.lexeme.Kind.TheVariants as kind
use Rattle.mg_reader.specs.declared.lexeme.Class.{Class}
use Rattle.mg_reader.specs.declared.lexeme.Class.TheVariants as of
use Rattle.mg_reader.specs.declared.lexeme.Lexeme.{Lexeme}
use Rattle.mg_reader.specs.declared.notes.Complaint.{Complaint}
use Rattle.mg_reader.specs.declared.found.Property.{Property}
use Rattle.mg_reader.specs.declared.found.Given.TheVariants as given
use Rattle.mg_reader.specs.declared.found.Feature.{Feature}
use Rattle.mg_reader.specs.declared.found.Feature.TheVariants as feature
use Rattle.mg_reader.specs.declared.found.Features.{Features}
use Rattle.mg_reader.specs.Grammar.{is, maybe_text, ref_text, side_text, pair_text, more_pair_text, pairs_text, bag_text, args_text, perhaps_args_text, literal_text, literals_text, perhaps_literals_text, property_text, properties_text, property_list_text, feature_text, features_text, feature_list_text, node_name_text, kid_text, next_kid_text, kid_list_text, syn_item_text, syn_items_text, perhaps_syn_items_text, call_text, right_text, variable_text, statement_text, more_statement_text, alternative_text, more_alternative_text, calls_text, imports_text, variables_text, exports_text, declares_text, class_text, names_text, domain_text, argument_text, arguments_text, perhaps_arguments_text, header_text, metagrammar_text, system}
use Rattle.mg_reader.specs.Values.{token_of, is_there, ref_of, side_of, keyed_of, more_pair_of, keyeds_of, pair_of, pairs_of, bag_of, next_arg_of, args_of, perhaps_args_of, literal_with, literal_of, next_literal_of, literals_of, perhaps_literals_of, property_of, more_property_of, property_row_of, with_properties, no_properties, property_list_of, feature_of, feature_row_of, with_feature, with_features, no_features, feature_list_of, node_with, node_name_of, down_of, node_of, kid_list_of, more_kids_of, kid_of, relate_of, syn_item_of, syn_items_of, perhaps_syn_items_of, call_of, right_of, statement_with, variable_of, body_of, more_alternatives_of, alternative_of, more_statements_of, statement_of, calls_of, imports_of, variables_of, exports_of, declares_of, class_of, more_name_of, names_of, domain_of, argument_of, more_argument_of, arguments_of, perhaps_arguments_of, header_of, metagrammar_of}
use Rattle.mg_reader.specs.Complaints.{among, again, key_bad, bag_bad, property_list_bad, has, feature_inner, feature_read, more_feature_read, feature_row_bad, features_bad, feature_list_bad, node_bad, kid_list_bad, more_kids_bad, kid_bad, syn_item_bad, syn_items_bad, perhaps_syn_items_bad, body_bad, more_alternatives_bad, alternative_bad, more_statements_bad, statement_bad, too_many, class_word, class_inner, item_read, item_row_bad, metagrammar_bad, FeatureRead}
use Rattle.mg_reader.specs.Spelling.{Is, IsA, Separated, LooselySeparated, Row, Maybe, MaybeEnclosed, Behind, Named, SpellsRef, SpellsMaybeRef, SpellsSide, SpellsPair, SpellsBag, SpellsLiteral, SpellsLiterals, SpellsProperty, SpellsFeature, feature_number, SpellsDescent, SpellsLoose, SpellsNode, SpellsKids, SpellsMoreKids, SpellsKid, SpellsSynItem, SpellsCall, SpellsBody, SpellsMoreAlternatives, SpellsAlternative, SpellsMoreStatements, SpellsStatement, SpellsClass, SpellsDomain, SpellsArgument, SpellsHeader, SpellsItem, Spells, last_separated, separated, last_loosely, loosely, side_by_side, last_in_row, in_row, nothing, something, within, not_enclosed, enclosed, no_word, behind_word, a_name, a_ref, a_dotted_ref, unnamed, named, a_side_name, a_variable, a_pair, a_bag, without_handle, with_handle, a_colour, a_mark, a_property, a_category, a_top, a_bottom, a_child, a_descent, not_loose, is_loose, a_node, no_kid_list, empty_kid_list, a_kid_list, no_more_kids, one_more_kid, a_kid, a_block, a_relation, a_dimension, a_call, empty_body, a_body, no_more_alternatives, one_more_alternative, an_alternative, no_more_statements, one_more_statement, a_group, a_call_statement, a_binding, an_equation, a_syn, a_sem, an_iface, a_class, any_value, these_values, a_flag, an_argument, a_domain, a_property_type, a_feature_type, a_principle, a_class_item, a_value_item, a_header_item}
use Rattle.mg_reader.specs.Answers.{class_count}
use Rattle.mg_reader.specs.Kinds.{kind_number, test, low, high}
use Rattle.mg_reader.specs.declared.found.After.TheVariants as after
use Rattle.gr_grammar.proofs.Fronts.{and_left, and_right}
use Rattle.mg_reader.proofs.Keys.{number_of, key_of_pair, key_of_property, given_of_read, among-push, given_items}
use Rattle.mg_reader.proofs.Spelled.{pair_names, property_names}

-- a tree with this value
record Has {A : Type 0} (g : Grammar Class) (value : (ts rest : List Lexeme) → Matches system g ts rest → A) (v : A) (ts rest : List Lexeme) : Type 0 where
  tree : Matches system g ts rest
  is : value ts rest tree ≡ v

-- a tree with this value and no complaints
record Clean {A : Type 0} (g : Grammar Class) (value : (ts rest : List Lexeme) → Matches system g ts rest → A) (bad : (ts rest : List Lexeme) → Matches system g ts rest → List Complaint) (v : A) (ts rest : List Lexeme) : Type 0 where
  tree : Matches system g ts rest
  is : value ts rest tree ≡ v
  fine : bad ts rest tree ≡ []

none_bad : {xs ys : List Complaint} → xs ≡ [] → ys ≡ [] → xs ++ ys ≡ []
none_bad e f = λ i. e i ++ f i

-- rows with a lexeme of a kind between each two, for a part g whose value is f
module _ {A : Type 0} (k : Kind) (g : Grammar Class) (f : (ts rest : List Lexeme) → Matches system g ts rest → A) (more : (ts rest : List Lexeme) → Matches system (seq (is k) g) ts rest → A)
    (same : (ts mid rest : List Lexeme) (s : Matches system (is k) ts mid) (q : Matches system g mid rest) → more ts rest (both s q) ≡ f mid rest q) where
  abbrev row_of : {ts rest : List Lexeme} → Matches system (seq g (star (seq (is k) g))) ts rest → List A
  row_of (both {ts} {mid} p ps) = f ts mid p ∷ items more ps

  abbrev join : {ts mid rest : List Lexeme} {s : Lexeme} → Matches system g ts (s ∷ mid) → IsA k s → Matches system (seq g (star (seq (is k) g))) mid rest → Matches system (seq g (star (seq (is k) g))) ts rest
  join p s (both q qs) = both p (one_more (both (both (a_token s) q) qs))

  join_is : {ts mid rest : List Lexeme} {s : Lexeme} (p : Matches system g ts (s ∷ mid)) (h : IsA k s) (m : Matches system (seq g (star (seq (is k) g))) mid rest) → row_of (join p h m) ≡ f ts (s ∷ mid) p ∷ row_of m
  join_is {ts} {mid} {s = s} p h (both q qs) = ap (λ z. f ts (s ∷ mid) p ∷ (z ∷ items more qs)) (same _ _ _ (a_token h) q)

  separated_back : (P : A → List Lexeme → List Lexeme → Type 0) (back : (x : A) (ts rest : List Lexeme) → P x ts rest → Has g f x ts rest) {xs : List A} {ts rest : List Lexeme} → Separated k P xs ts rest →
      Has (seq g (star (seq (is k) g))) (λ ts rest m. row_of m) xs ts rest
  separated_back P back (last_separated p) = let h = back _ _ _ p in record { tree = both h.tree no_more; is = ap (λ z. z ∷ []) h.is }
  separated_back P back (separated p s ps) =
      let h = back _ _ _ p in let r = separated_back P back ps in record { tree = join h.tree s r.tree; is = join_is h.tree s r.tree ∙ (λ i. h.is i ∷ r.is i) }

-- rows with a lexeme of a kind that may be left out
module _ {A : Type 0} (k : Kind) (g : Grammar Class) (f : (ts rest : List Lexeme) → Matches system g ts rest → A) (more : (ts rest : List Lexeme) → Matches system (seq (maybe_text (of.Is k)) g) ts rest → A)
    (same : (ts mid rest : List Lexeme) (s : Matches system (maybe_text (of.Is k)) ts mid) (q : Matches system g mid rest) → more ts rest (both s q) ≡ f mid rest q) where
  abbrev loose_of : {ts rest : List Lexeme} → Matches system (seq g (star (seq (maybe_text (of.Is k)) g))) ts rest → List A
  loose_of (both {ts} {mid} p ps) = f ts mid p ∷ items more ps

  abbrev loose_join : {ts mid next rest : List Lexeme} → Matches system g ts mid → Matches system (maybe_text (of.Is k)) mid next → Matches system (seq g (star (seq (maybe_text (of.Is k)) g))) next rest → Matches system (seq g (star (seq (maybe_text (of.Is k)) g))) ts rest
  loose_join p s (both q qs) = both p (one_more (both (both s q) qs))

  loose_join_is : {ts mid next rest : List Lexeme} (p : Matches system g ts mid) (s : Matches system (maybe_text (of.Is k)) mid next) (m : Matches system (seq g (star (seq (maybe_text (of.Is k)) g))) next rest) → loose_of (loose_join p s m) ≡ f ts mid p ∷ loose_of m
  loose_join_is {ts} {mid} p s (both q qs) = ap (λ z. f ts mid p ∷ (z ∷ items more qs)) (same _ _ _ s q)

  loosely_back : (P : A → List Lexeme → List Lexeme → Type 0) (back : (x : A) (ts rest : List Lexeme) → P x ts rest → Has g f x ts rest) {xs : List A} {ts rest : List Lexeme} → LooselySeparated k P xs ts rest →
      Has (seq g (star (seq (maybe_text (of.Is k)) g))) (λ ts rest m. loose_of m) xs ts rest
  loosely_back P back (last_loosely p) = let h = back _ _ _ p in record { tree = both h.tree no_more; is = ap (λ z. z ∷ []) h.is }
  loosely_back P back (loosely p s ps) =
      let h = back _ _ _ p in let r = loosely_back P back ps in record { tree = loose_join h.tree (the_left (a_token s)) r.tree; is = loose_join_is h.tree (the_left (a_token s)) r.tree ∙ (λ i. h.is i ∷ r.is i) }
  loosely_back P back (side_by_side p ps) =
      let h = back _ _ _ p in let r = loosely_back P back ps in record { tree = loose_join h.tree (the_right no_token) r.tree; is = loose_join_is h.tree (the_right no_token) r.tree ∙ (λ i. h.is i ∷ r.is i) }

-- rows with nothing between
module _ {A : Type 0} (g : Grammar Class) (f : (ts rest : List Lexeme) → Matches system g ts rest → A) where
  abbrev plain_of : {ts rest : List Lexeme} → Matches system (seq g (star g)) ts rest → List A
  plain_of (both {ts} {mid} p ps) = f ts mid p ∷ items f ps

  abbrev plain_join : {ts mid rest : List Lexeme} → Matches system g ts mid → Matches system (seq g (star g)) mid rest → Matches system (seq g (star g)) ts rest
  plain_join p m = both p (one_more m)

  plain_join_is : {ts mid rest : List Lexeme} (p : Matches system g ts mid) (m : Matches system (seq g (star g)) mid rest) → plain_of (plain_join p m) ≡ f ts mid p ∷ plain_of m
  plain_join_is p (both q qs) = refl

  row_back : (P : A → List Lexeme → List Lexeme → Type 0) (back : (x : A) (ts rest : List Lexeme) → P x ts rest → Has g f x ts rest) {xs : List A} {ts rest : List Lexeme} → Row P xs ts rest → Has (seq g (star g)) (λ ts rest m. plain_of m) xs ts rest
  row_back P back (last_in_row p) = let h = back _ _ _ p in record { tree = both h.tree no_more; is = ap (λ z. z ∷ []) h.is }
  row_back P back (in_row p ps) = let h = back _ _ _ p in let r = row_back P back ps in record { tree = plain_join h.tree r.tree; is = plain_join_is h.tree r.tree ∙ (λ i. h.is i ∷ r.is i) }

-- attributes that stand once have no complaints
once_fine : (seen : List ℕ) (ks : List Lexeme) → NoneTwice (map number_of ks) → ((x : ℕ) → IsAmong (map number_of ks) x → among seen x ≡ false) → key_bad seen ks ≡ []
once_fine seen [] n h = refl
once_fine seen (k ∷ ks) n h = none_bad (ap (λ z. again z k) (h k.name.0 (inl refl))) (once_fine (seen ++ k.name.0 ∷ []) ks n.1 (λ x a. among-push seen k.name.0 x ∙ (λ i. h x (inr a) i || other x a i)))
  where
    other : (x : ℕ) → IsAmong (map number_of ks) x → (x == k.name.0) ≡ false
    other x a = ne_eqb x k.name.0 (λ e. n.0 (subst (λ z. IsAmong (map number_of ks) z) e a))

without : (fs : Features) (g x : Feature) → has fs x ≡ false → (feature_number x ≡ feature_number g → ⊥) → has (with_feature fs g) x ≡ false
without fs (feature.Category v) (feature.Category w) h n = absurd (n refl)
without fs (feature.Category v) (feature.Top w) h n = h
without fs (feature.Category v) (feature.Bottom w) h n = h
without fs (feature.Top v) (feature.Category w) h n = h
without fs (feature.Top v) (feature.Top w) h n = absurd (n refl)
without fs (feature.Top v) (feature.Bottom w) h n = h
without fs (feature.Bottom v) (feature.Category w) h n = h
without fs (feature.Bottom v) (feature.Top w) h n = h
without fs (feature.Bottom v) (feature.Bottom w) h n = absurd (n refl)

AllFine : List FeatureRead → Type 0
AllFine [] = ⊤
AllFine (r ∷ rs) = (r.inner ≡ []) × AllFine rs

features_fine : (had : Features) (rs : List FeatureRead) → AllFine rs → NoneTwice (map feature_number (map given_of_read rs)) → ((x : Feature) → IsAmong (map feature_number (map given_of_read rs)) (feature_number x) → has had x ≡ false) → feature_row_bad had rs ≡ []
unfolding AllFine
features_fine had [] a n h = refl
features_fine had (r ∷ rs) a n h =
    none_bad (none_bad (ap (λ z. again z r.key) (h r.given (inl refl))) a.0)
    (features_fine (with_feature had r.given) rs a.1 n.1 (λ x i. without had r.given x (h x (inr i)) (λ e. n.0 (subst (λ z. IsAmong (map feature_number (map given_of_read rs)) z) e i))))

-- variables and values
back_ref : {r : Ref} {ts rest : List Lexeme} → SpellsRef r ts rest → Has ref_text (λ ts rest m. ref_of m) r ts rest
back_ref (a_ref x) = record { tree = both (a_token x) (the_right no_token); is = refl }
back_ref (a_dotted_ref x d y) = record { tree = both (a_token x) (the_left (both (a_token d) (a_token y))); is = refl }

back_side : {v : Side} {ts rest : List Lexeme} → SpellsSide v ts rest → Has side_text (λ ts rest m. side_of m) v ts rest
back_side (a_side_name n) = record { tree = the_left (a_token n); is = refl }
back_side (a_variable r) = let h = back_ref r in record { tree = the_right h.tree; is = ap side.Ref h.is }

-- bags
abbrev pair_value : (ts rest : List Lexeme) → Matches system pair_text ts rest → Sym × Side
pair_value ts rest m = pair_of (keyed_of m)

abbrev more_pair_value : (ts rest : List Lexeme) → Matches system more_pair_text ts rest → Sym × Side
more_pair_value ts rest m = pair_of (more_pair_of m)

back_pair : {p : Sym × Side} {ts rest : List Lexeme} → SpellsPair p ts rest → Has pair_text (λ ts rest m. pair_value ts rest m) p ts rest
back_pair (a_pair {a = t} a e v) = let h = back_side v in record { tree = both (a_token a) (both (a_token e) h.tree); is = ap (λ (z : Side). (t.name, z)) h.is }

pairs_same : (ts mid rest : List Lexeme) (s : Matches system (is kind.Comma) ts mid) (q : Matches system pair_text mid rest) → more_pair_value ts rest (both s q) ≡ pair_value mid rest q
pairs_same ts mid rest s q = refl

pairs_map : {ts rest : List Lexeme} (m : Matches system (star more_pair_text) ts rest) → map pair_of (items (λ ts rest m. more_pair_of m) m) ≡ items (λ ts rest m. more_pair_value ts rest m) m
pairs_map no_more = refl
pairs_map (one_more (both q qs)) = ap (λ z. pair_of (more_pair_of q) ∷ z) (pairs_map qs)

back_pairs : {ps : List (Sym × Side)} {ts rest : List Lexeme} → Separated kind.Comma SpellsPair ps ts rest → Has pairs_text (λ ts rest m. pairs_of m) ps ts rest
back_pairs s = let h = separated_back kind.Comma pair_text (λ ts rest m. pair_value ts rest m) (λ ts rest m. more_pair_value ts rest m) pairs_same SpellsPair (λ x ts rest p. back_pair p) s in record { tree = h.tree; is = whole h.tree ∙ h.is }
  where
    whole : {ts rest : List Lexeme} (m : Matches system pairs_text ts rest) → pairs_of m ≡ row_of kind.Comma pair_text (λ ts rest m. pair_value ts rest m) (λ ts rest m. more_pair_value ts rest m) pairs_same m
    whole (both p ps) = ap (λ z. pair_of (keyed_of p) ∷ z) (pairs_map ps)

back_bag : {b : List (Sym × Side)} {ts rest : List Lexeme} → SpellsBag b ts rest → Clean bag_text (λ ts rest m. bag_of m) (λ ts rest m. bag_bad m) b ts rest
back_bag (a_bag n (within o nothing c)) = record { tree = both (a_token o) (both (the_right no_token) (a_token c)); is = refl; fine = refl }
back_bag (a_bag n (within o (something s) c)) = let h = back_pairs s in record {
  tree = both (a_token o) (both (the_left h.tree) (a_token c));
  is = h.is;
  fine = once_fine [] (map key_of_pair (keyeds_of h.tree)) (subst NoneTwice (sym (pair_names (keyeds_of h.tree))) (subst (λ z. NoneTwice (map (λ (p : Sym × Side). p.0.0) z)) (sym h.is) n)) (λ x a. refl);
}

-- literals
args_same : (ts mid rest : List Lexeme) (s : Matches system (maybe_text (of.Is kind.Comma)) ts mid) (q : Matches system side_text mid rest) → next_arg_of (both s q) ≡ side_of q
args_same ts mid rest s q = refl

args_whole : {ts rest : List Lexeme} (m : Matches system args_text ts rest) → args_of m ≡ loose_of kind.Comma side_text (λ ts rest m. side_of m) (λ ts rest m. next_arg_of m) args_same m
args_whole (both p ps) = refl

back_args : {args : List Side} {ts rest : List Lexeme} → Maybe (LooselySeparated kind.Comma SpellsSide) args ts rest → Has perhaps_args_text (λ ts rest m. perhaps_args_of m) args ts rest
back_args nothing = record { tree = the_right no_token; is = refl }
back_args (something s) = let h = loosely_back kind.Comma side_text (λ ts rest m. side_of m) (λ ts rest m. next_arg_of m) args_same SpellsSide (λ x ts rest p. back_side p) s in record { tree = the_left h.tree; is = args_whole h.tree ∙ h.is }

back_literal : {l : Literal} {ts rest : List Lexeme} → SpellsLiteral l ts rest → Has literal_text (λ ts rest m. literal_of m) l ts rest
back_literal (without_handle p (within o args c)) =
    let h = back_side p in let a = back_args args in record { tree = both h.tree (both (the_right no_token) (both (a_token o) (both a.tree (a_token c)))); is = λ i. literal_with (h.is i) None (a.is i) }
back_literal (with_handle v d p (within o args c)) =
    let g = back_side v in let h = back_side p in let a = back_args args in
    record { tree = both g.tree (both (the_left (both (a_token d) h.tree)) (both (a_token o) (both a.tree (a_token c)))); is = λ i. literal_with (g.is i) (Some (h.is i)) (a.is i) }

literals_same : (ts mid rest : List Lexeme) (s : Matches system (maybe_text (of.Is kind.Semicolon)) ts mid) (q : Matches system literal_text mid rest) → next_literal_of (both s q) ≡ literal_of q
literals_same ts mid rest s q = refl

literals_whole : {ts rest : List Lexeme} (m : Matches system literals_text ts rest) → literals_of m ≡ loose_of kind.Semicolon literal_text (λ ts rest m. literal_of m) (λ ts rest m. next_literal_of m) literals_same m
literals_whole (both p ps) = refl

back_literals : {ls : List Literal} {ts rest : List Lexeme} → SpellsLiterals ls ts rest → Has perhaps_literals_text (λ ts rest m. perhaps_literals_of m) ls ts rest
back_literals nothing = record { tree = the_right no_token; is = refl }
back_literals (something s) =
    let h = loosely_back kind.Semicolon literal_text (λ ts rest m. literal_of m) (λ ts rest m. next_literal_of m) literals_same SpellsLiteral (λ x ts rest p. back_literal p) s in record { tree = the_left h.tree; is = literals_whole h.tree ∙ h.is }

-- properties
back_property : {p : Property} {ts rest : List Lexeme} → SpellsProperty p ts rest → Has property_text (λ ts rest m. property_of m) p ts rest
back_property (a_colour k e v) = record { tree = the_left (both (a_token k) (both (a_token e) (a_token v))); is = refl }
back_property (a_mark k e v) = record { tree = the_right (the_left (both (a_token k) (both (a_token e) (a_token v)))); is = refl }
back_property (a_property {k = t} k e v) =
    let h = back_side v in record { tree = the_right (the_right (both (a_token k) (both (a_token e) h.tree))); is = λ i. record { key = t; given = given.Value (h.is i) } }

properties_same : (ts mid rest : List Lexeme) (s : Matches system (is kind.Comma) ts mid) (q : Matches system property_text mid rest) → more_property_of (both s q) ≡ property_of q
properties_same ts mid rest s q = refl

properties_whole : {ts rest : List Lexeme} (m : Matches system properties_text ts rest) → property_row_of m ≡ row_of kind.Comma property_text (λ ts rest m. property_of m) (λ ts rest m. more_property_of m) properties_same m
properties_whole (both p ps) = refl

back_property_list : {ps : List Property} {ts rest : List Lexeme} → NoneTwice (map (λ (p : Property). p.key.name.0) ps) → MaybeEnclosed kind.LeftParen kind.RightParen (Separated kind.Comma SpellsProperty) ps ts rest →
    Clean property_list_text (λ ts rest m. property_list_of m) (λ ts rest m. property_list_bad m) (with_properties no_properties ps) ts rest
back_property_list n not_enclosed = record { tree = the_right no_token; is = refl; fine = refl }
back_property_list n (enclosed (within o nothing c)) = record { tree = the_left (both (a_token o) (both (the_right no_token) (a_token c))); is = refl; fine = refl }
back_property_list n (enclosed (within o (something s) c)) =
    let h = separated_back kind.Comma property_text (λ ts rest m. property_of m) (λ ts rest m. more_property_of m) properties_same SpellsProperty (λ x ts rest p. back_property p) s in
    let same = properties_whole h.tree ∙ h.is in record {
      tree = the_left (both (a_token o) (both (the_left h.tree) (a_token c)));
      is = ap (λ z. with_properties no_properties z) same;
      fine = once_fine [] (map key_of_property (property_row_of h.tree)) (subst NoneTwice (sym (property_names (property_row_of h.tree))) (subst (λ z. NoneTwice (map (λ (p : Property). p.key.name.0) z)) (sym same) n)) (λ x a. refl);
    }

-- features
back_feature : {f : Feature} {ts rest : List Lexeme} → SpellsFeature f ts rest → Clean feature_text (λ ts rest m. feature_of m) (λ ts rest m. feature_inner m) f ts rest
back_feature (a_category k e v) = let h = back_side v in record { tree = the_left (both (a_token k) (both (a_token e) h.tree)); is = ap feature.Category h.is; fine = refl }
back_feature (a_top k e b) = let h = back_bag b in record { tree = the_right (the_left (both (a_token k) (both (a_token e) h.tree))); is = ap feature.Top h.is; fine = h.fine }
back_feature (a_bottom k e b) = let h = back_bag b in record { tree = the_right (the_right (both (a_token k) (both (a_token e) h.tree))); is = ap feature.Bottom h.is; fine = h.fine }

abbrev reads_of : {ts rest : List Lexeme} → Matches system features_text ts rest → List FeatureRead
reads_of (both f fs) = feature_read f ∷ items (λ ts rest m. more_feature_read m) fs

feature_join : {ts mid rest : List Lexeme} {s : Lexeme} → Matches system feature_text ts (s ∷ mid) → IsA kind.Comma s → Matches system features_text mid rest → Matches system features_text ts rest
feature_join p s (both q qs) = both p (one_more (both (both (a_token s) q) qs))

feature_join_reads : {ts mid rest : List Lexeme} {s : Lexeme} (p : Matches system feature_text ts (s ∷ mid)) (h : IsA kind.Comma s) (m : Matches system features_text mid rest) → reads_of (feature_join p h m) ≡ feature_read p ∷ reads_of m
unfolding feature_join
feature_join_reads p h (both q qs) = refl

record FeaturesBack (fs : List Feature) (ts rest : List Lexeme) : Type 0 where
  tree : Matches system features_text ts rest
  are : map given_of_read (reads_of tree) ≡ fs
  fine : AllFine (reads_of tree)

back_features : {fs : List Feature} {ts rest : List Lexeme} → Separated kind.Comma SpellsFeature fs ts rest → FeaturesBack fs ts rest
unfolding AllFine
back_features (last_separated p) = let h = back_feature p in record { tree = both h.tree no_more; are = ap (λ z. z ∷ []) h.is; fine = (h.fine, tt) }
back_features (separated p s ps) =
    let h = back_feature p in let r = back_features ps in let e = feature_join_reads h.tree s r.tree in record {
      tree = feature_join h.tree s r.tree;
      are = ap (λ z. map given_of_read z) e ∙ (λ i. h.is i ∷ r.are i);
      fine = subst AllFine (sym e) (h.fine, r.fine);
    }

features_given : {ts rest : List Lexeme} (m : Matches system features_text ts rest) → map given_of_read (reads_of m) ≡ feature_row_of m
features_given (both f fs) = ap (λ z. feature_of f ∷ z) (given_items fs)

features_bad_reads : {ts rest : List Lexeme} (m : Matches system features_text ts rest) → features_bad m ≡ feature_row_bad no_features (reads_of m)
features_bad_reads (both f fs) = refl

back_feature_list : {fs : List Feature} {ts rest : List Lexeme} → NoneTwice (map feature_number fs) → MaybeEnclosed kind.LeftBracket kind.RightBracket (Separated kind.Comma SpellsFeature) fs ts rest →
    Clean feature_list_text (λ ts rest m. feature_list_of m) (λ ts rest m. feature_list_bad m) (with_features no_features fs) ts rest
back_feature_list n not_enclosed = record { tree = the_right no_token; is = refl; fine = refl }
back_feature_list n (enclosed (within o nothing c)) = record { tree = the_left (both (a_token o) (both (the_right no_token) (a_token c))); is = refl; fine = refl }
back_feature_list n (enclosed (within o (something s) c)) =
    let h = back_features s in record {
      tree = the_left (both (a_token o) (both (the_left h.tree) (a_token c)));
      is = ap (λ z. with_features no_features z) (sym (features_given h.tree) ∙ h.are);
      fine = features_bad_reads h.tree ∙ features_fine no_features (reads_of h.tree) h.fine (subst (λ z. NoneTwice (map feature_number z)) (sym h.are) n) (λ x a. none_had x);
    }
  where
    none_had : (x : Feature) → has no_features x ≡ false
    none_had (feature.Category v) = refl
    none_had (feature.Top v) = refl
    none_had (feature.Bottom v) = refl

-- node blocks
back_name : {r : Option Ref} {ts rest : List Lexeme} → SpellsMaybeRef r ts rest → Has node_name_text (λ ts rest m. node_name_of m) r ts rest
back_name unnamed = record { tree = the_right no_token; is = refl }
back_name (named r) = let h = back_ref r in record { tree = the_left h.tree; is = ap Some h.is }

back_down : {d : Relate} {ts rest : List Lexeme} → SpellsDescent d ts rest → Has (maybe_text of.Descent) (λ ts rest m. down_of m) d ts rest
back_down a_child = record { tree = the_right no_token; is = refl }
back_down (a_descent d) = record { tree = the_left (a_token d); is = refl }

back_loose : {b : Bool} {ts rest : List Lexeme} → SpellsLoose b ts rest → Has (maybe_text (of.Is kind.Commas)) (λ ts rest m. is_there m) b ts rest
back_loose not_loose = record { tree = the_right no_token; is = refl }
back_loose (is_loose s) = record { tree = the_left (a_token s); is = refl }

mutual
  back_node : {n : NodeBlock} {ts rest : List Lexeme} → SpellsNode n ts rest → Clean (part 1) (λ ts rest m. node_of m) (λ ts rest m. node_bad m) n ts rest
  back_node (a_node w n po ps fo fs ks) =
      let a = back_name n in let p = back_property_list po ps in let f = back_feature_list fo fs in let k = back_kid_list ks in record {
        tree = by_part {n = 1} (both (a_token w) (both a.tree (both p.tree (both f.tree k.tree))));
        is = λ i. node_with (a.is i) (p.is i) (f.is i) (k.is i);
        fine = none_bad p.fine (none_bad f.fine k.fine);
      }

  back_kid_list : {ks : List Kid} {ts rest : List Lexeme} → SpellsKids ks ts rest → Clean kid_list_text (λ ts rest m. kid_list_of m) (λ ts rest m. kid_list_bad m) ks ts rest
  back_kid_list no_kid_list = record { tree = the_right no_token; is = refl; fine = refl }
  back_kid_list (empty_kid_list o c) = record { tree = the_left (both (a_token o) (both (the_right no_token) (a_token c))); is = refl; fine = refl }
  back_kid_list (a_kid_list o k ks c) =
      let h = back_kid k in let r = back_more_kids ks in record { tree = the_left (both (a_token o) (both (the_left (both h.tree r.tree)) (a_token c))); is = λ i. h.is i ∷ r.is i; fine = none_bad h.fine r.fine }

  back_more_kids : {ks : List Kid} {ts rest : List Lexeme} → SpellsMoreKids ks ts rest → Clean (star next_kid_text) (λ ts rest m. more_kids_of m) (λ ts rest m. more_kids_bad m) ks ts rest
  back_more_kids no_more_kids = record { tree = no_more; is = refl; fine = refl }
  back_more_kids (one_more_kid l k ks) =
      let a = back_loose l in let h = back_kid k in let r = back_more_kids ks in
      record { tree = one_more (both (both a.tree h.tree) r.tree); is = (λ i. kid_of (a.is i) h.tree ∷ more_kids_of r.tree) ∙ (λ i. h.is i ∷ r.is i); fine = none_bad h.fine r.fine }

  back_kid : {loose : Bool} {k : Kid} {ts rest : List Lexeme} → SpellsKid loose k ts rest → Clean kid_text (λ ts rest m. kid_of loose m) (λ ts rest m. kid_bad m) k ts rest
  back_kid {loose} (a_kid d n) =
      let a = back_down d in let h = back_node n in record { tree = both a.tree h.tree; is = λ i. roll-Kid (record { down = a.is i; loose = loose; node = h.is i }); fine = h.fine }

-- the three dimensions
back_syn_item : {x : SynItem} {ts rest : List Lexeme} → SpellsSynItem x ts rest → Clean syn_item_text (λ ts rest m. syn_item_of m) (λ ts rest m. syn_item_bad m) x ts rest
back_syn_item (a_block n) = let h = back_node n in record { tree = the_left h.tree; is = ap syn_item.Node h.is; fine = h.fine }
back_syn_item (a_relation {o = t} a o b) = let g = back_ref a in let h = back_ref b in record { tree = the_right (both g.tree (both (a_token o) h.tree)); is = λ i. syn_item.Relation (g.is i) (relate_of t.kind) (h.is i); fine = refl }

syn_join : {ts mid rest : List Lexeme} {s : Lexeme} → Matches system syn_item_text ts (s ∷ mid) → IsA kind.Semicolon s → Matches system syn_items_text mid rest → Matches system syn_items_text ts rest
syn_join p s (both q qs) = both p (one_more (both (both (a_token s) q) qs))

syn_join_of : {ts mid rest : List Lexeme} {s : Lexeme} (p : Matches system syn_item_text ts (s ∷ mid)) (h : IsA kind.Semicolon s) (m : Matches system syn_items_text mid rest) → syn_items_of (syn_join p h m) ≡ syn_item_of p ∷ syn_items_of m
unfolding syn_join
syn_join_of p h (both q qs) = refl

syn_join_bad : {ts mid rest : List Lexeme} {s : Lexeme} (p : Matches system syn_item_text ts (s ∷ mid)) (h : IsA kind.Semicolon s) (m : Matches system syn_items_text mid rest) → syn_items_bad (syn_join p h m) ≡ syn_item_bad p ++ syn_items_bad m
unfolding syn_join
syn_join_bad p h (both q qs) = refl

back_syn_items : {xs : List SynItem} {ts rest : List Lexeme} → Separated kind.Semicolon SpellsSynItem xs ts rest → Clean syn_items_text (λ ts rest m. syn_items_of m) (λ ts rest m. syn_items_bad m) xs ts rest
back_syn_items (last_separated p) = let h = back_syn_item p in record { tree = both h.tree no_more; is = ap (λ z. z ∷ []) h.is; fine = none_bad h.fine refl }
back_syn_items (separated p s ps) =
    let h = back_syn_item p in let r = back_syn_items ps in
    record { tree = syn_join h.tree s r.tree; is = syn_join_of h.tree s r.tree ∙ (λ i. h.is i ∷ r.is i); fine = syn_join_bad h.tree s r.tree ∙ none_bad h.fine r.fine }

back_perhaps_syn_items : {xs : List SynItem} {ts rest : List Lexeme} → Maybe (Separated kind.Semicolon SpellsSynItem) xs ts rest → Clean perhaps_syn_items_text (λ ts rest m. perhaps_syn_items_of m) (λ ts rest m. perhaps_syn_items_bad m) xs ts rest
back_perhaps_syn_items nothing = record { tree = the_right no_token; is = refl; fine = refl }
back_perhaps_syn_items (something s) = let h = back_syn_items s in record { tree = the_left h.tree; is = h.is; fine = h.fine }

-- statements
back_call : {n : Sym} {ts rest : List Lexeme} → SpellsCall n ts rest → Has call_text (λ ts rest m. call_of m) n ts rest
back_call (a_call n o c) = record { tree = both (a_token n) (both (a_token o) (a_token c)); is = refl }

within_class : (c : Class) (t : Lexeme) → low c ≤ kind_number t.kind → kind_number t.kind < high c → test c t ≡ true
within_class c t l h = and_from _ _ (le-leb (low c) (kind_number t.kind) l) (lt-ltb (kind_number t.kind) (high c) h)

back_name_right : (t : Lexeme) (ts : List Lexeme) → Is of.Name t → Has right_text (λ ts rest m. right_of m) (after.Equals (side.Name t.name)) (t ∷ ts) ts
back_name_right t ts h =
    let n = kind_number t.kind in
    let l : low of.Name ≤ n = leb-true (low of.Name) n (and_left (nat_le (low of.Name) n) _ h) in let u : n < high of.Name = ltb-true n (high of.Name) (and_right (nat_le (low of.Name) n) _ h) in
    elim (cases_lt n (low of.Reserved)) [
      | inl x ↦ record { tree = the_right (the_right (the_left (a_token (within_class (of.Is kind.Str) t l x)))); is = refl }
      | inr y ↦ elim (cases_lt n (low of.Plain)) [
        | inl x ↦ record { tree = the_right (the_left (a_token (within_class of.Reserved t y x))); is = refl }
        | inr z ↦ record { tree = the_left (both (a_token (within_class of.Plain t z u)) (the_right no_token)); is = refl }
      ]
    ]

back_right : {v : Side} {ts rest : List Lexeme} → SpellsSide v ts rest → Has right_text (λ ts rest m. right_of m) (after.Equals v) ts rest
back_right (a_side_name {t} {ts} n) = back_name_right t ts n
back_right (a_variable r) = let h = back_ref r in record { tree = the_right (the_right (the_right h.tree)); is = ap (λ z. after.Equals (side.Ref z)) h.is }

back_equation : {r : Ref} {v : Side} {e : Lexeme} {ts mid rest : List Lexeme} → SpellsRef r ts (e ∷ mid) → IsA kind.Equals e → SpellsSide v mid rest → Has variable_text (λ ts rest m. variable_of m) (statement.Equation r v) ts rest
back_equation (a_ref {x = t} x) e v = let h = back_right v in record { tree = both (a_token x) (the_right (both (a_token e) h.tree)); is = ap (λ z. statement_with t.name z) h.is }
back_equation (a_dotted_ref {x = t} {y = u} x d y) e v =
    let h = back_side v in record { tree = both (a_token x) (the_left (both (a_token d) (both (a_token y) (both (a_token e) h.tree)))); is = ap (λ z. statement.Equation (record { of = Some t.name; name = u.name }) z) h.is }

back_binding : {n : Sym} {x e : Lexeme} {ts rest : List Lexeme} → IsA kind.Var x → IsA kind.Equals e → SpellsCall n ts rest → Has variable_text (λ ts rest m. variable_of m) (statement.Bind x.name n) (x ∷ e ∷ ts) rest
back_binding x e (a_call n o c) = record { tree = both (a_token x) (the_right (both (a_token e) (the_left (both (a_token n) (the_left (both (a_token o) (a_token c))))))); is = refl }

-- bodies
mutual
  back_body : {b : List (List Statement)} {ts rest : List Lexeme} → SpellsBody b ts rest → Clean (part 0) (λ ts rest m. body_of m) (λ ts rest m. body_bad m) b ts rest
  back_body empty_body = record { tree = by_part {n = 0} (the_right no_token); is = refl; fine = refl }
  back_body (a_body a more) = let h = back_alternative a in let r = back_more_alternatives more in record { tree = by_part {n = 0} (the_left (both h.tree r.tree)); is = λ i. h.is i ∷ r.is i; fine = none_bad h.fine r.fine }

  back_more_alternatives : {b : List (List Statement)} {ts rest : List Lexeme} → SpellsMoreAlternatives b ts rest → Clean (star more_alternative_text) (λ ts rest m. more_alternatives_of m) (λ ts rest m. more_alternatives_bad m) b ts rest
  back_more_alternatives no_more_alternatives = record { tree = no_more; is = refl; fine = refl }
  back_more_alternatives (one_more_alternative b a more) = let h = back_alternative a in let r = back_more_alternatives more in record { tree = one_more (both (both (a_token b) h.tree) r.tree); is = λ i. h.is i ∷ r.is i; fine = none_bad h.fine r.fine }

  back_alternative : {a : List Statement} {ts rest : List Lexeme} → SpellsAlternative a ts rest → Clean alternative_text (λ ts rest m. alternative_of m) (λ ts rest m. alternative_bad m) a ts rest
  back_alternative (an_alternative s ss) = let h = back_statement s in let r = back_more_statements ss in record { tree = both h.tree r.tree; is = λ i. h.is i ∷ r.is i; fine = none_bad h.fine r.fine }

  back_more_statements : {a : List Statement} {ts rest : List Lexeme} → SpellsMoreStatements a ts rest → Clean (star more_statement_text) (λ ts rest m. more_statements_of m) (λ ts rest m. more_statements_bad m) a ts rest
  back_more_statements no_more_statements = record { tree = no_more; is = refl; fine = refl }
  back_more_statements (one_more_statement b s ss) = let h = back_statement s in let r = back_more_statements ss in record { tree = one_more (both (both (a_token b) h.tree) r.tree); is = λ i. h.is i ∷ r.is i; fine = none_bad h.fine r.fine }

  back_statement : {s : Statement} {ts rest : List Lexeme} → SpellsStatement s ts rest → Clean statement_text (λ ts rest m. statement_of m) (λ ts rest m. statement_bad m) s ts rest
  back_statement (a_group o b c) = let h = back_body b in record { tree = the_left (both (a_token o) (both h.tree (a_token c))); is = ap statement.Group h.is; fine = h.fine }
  back_statement (a_call_statement n) = let h = back_call n in record { tree = the_right (the_left h.tree); is = ap statement.Call h.is; fine = refl }
  back_statement (a_binding x e n) = let h = back_binding x e n in record { tree = the_right (the_right (the_left h.tree)); is = h.is; fine = refl }
  back_statement (an_equation r e v) = let h = back_equation r e v in record { tree = the_right (the_right (the_left h.tree)); is = h.is; fine = refl }
  back_statement (a_syn (a_dimension l w g (within o s c))) =
      let h = back_perhaps_syn_items s in record { tree = the_right (the_right (the_right (both (a_token l) (the_left (both (a_token w) (both (a_token g) (both (a_token o) (both h.tree (a_token c))))))))); is = ap statement.Syn h.is; fine = h.fine }
  back_statement (a_sem (a_dimension l w g (within o s c))) =
      let h = back_literals s in record { tree = the_right (the_right (the_right (both (a_token l) (the_right (the_left (both (a_token w) (both (a_token g) (both (a_token o) (both h.tree (a_token c)))))))))); is = ap statement.Sem h.is; fine = refl }
  back_statement (an_iface (a_dimension l w g (within o s c))) =
      let h = back_bag s in record { tree = the_right (the_right (the_right (both (a_token l) (the_right (the_right (both (a_token w) (both (a_token g) (both (a_token o) (both h.tree (a_token c)))))))))); is = ap statement.Iface h.is; fine = h.fine }

-- classes
back_named : {c : Class} {n : Sym} {ts rest : List Lexeme} → Named c n ts rest → Has (tok c) (λ ts rest m. (token_of m).name) n ts rest
back_named (a_name h) = record { tree = a_token h; is = refl }

calls_whole : {ts rest : List Lexeme} (m : Matches system calls_text ts rest) → calls_of m ≡ plain_of call_text (λ ts rest m. call_of m) m
calls_whole (both p ps) = refl

variables_whole : {ts rest : List Lexeme} (m : Matches system variables_text ts rest) → variables_of m ≡ plain_of (is kind.Var) (λ ts rest m. (token_of m).name) m
variables_whole (both p ps) = refl

back_imports : {ns : List Sym} {ts rest : List Lexeme} → Behind kind.Import (Row SpellsCall) ns ts rest → Has imports_text (λ ts rest m. imports_of m) ns ts rest
back_imports no_word = record { tree = the_right no_token; is = refl }
back_imports (behind_word w s) = let h = row_back call_text (λ ts rest m. call_of m) SpellsCall (λ x ts rest p. back_call p) s in record { tree = the_left (both (a_token w) h.tree); is = calls_whole h.tree ∙ h.is }

back_exports : {ns : List Sym} {ts rest : List Lexeme} → Behind kind.Export (Row (Named (of.Is kind.Var))) ns ts rest → Has exports_text (λ ts rest m. exports_of m) ns ts rest
back_exports no_word = record { tree = the_right no_token; is = refl }
back_exports (behind_word w s) = let h = row_back (is kind.Var) (λ ts rest m. (token_of m).name) (Named (of.Is kind.Var)) (λ x ts rest p. back_named p) s in record { tree = the_left (both (a_token w) h.tree); is = variables_whole h.tree ∙ h.is }

back_declares : {ns : List Sym} {ts rest : List Lexeme} → Behind kind.Declare (Row (Named (of.Is kind.Var))) ns ts rest → Has declares_text (λ ts rest m. declares_of m) ns ts rest
back_declares no_word = record { tree = the_right no_token; is = refl }
back_declares (behind_word w s) = let h = row_back (is kind.Var) (λ ts rest m. (token_of m).name) (Named (of.Is kind.Var)) (λ x ts rest p. back_named p) s in record { tree = the_left (both (a_token w) h.tree); is = variables_whole h.tree ∙ h.is }

back_class : {c : ClassValue} {ts rest : List Lexeme} → SpellsClass c ts rest → Clean class_text (λ ts rest m. class_of m) (λ ts rest m. class_inner m) c ts rest
back_class (a_class {n = t} w n i x d (within o b c)) =
    let j = back_imports i in let y = back_exports x in let e = back_declares d in let h = back_body b in record {
      tree = both (a_token w) (both (a_token n) (both j.tree (both y.tree (both e.tree (both (a_token o) (both h.tree (a_token c)))))));
      is = λ i. record { name = t.name; imports = j.is i; exports = y.is i; declares = e.is i; body = h.is i };
      fine = h.fine;
    }

-- headers
names_same : (ts mid rest : List Lexeme) (s : Matches system (is kind.Comma) ts mid) (q : Matches system (tok of.Name) mid rest) → more_name_of (both s q) ≡ (token_of q).name
names_same ts mid rest s q = refl

names_whole : {ts rest : List Lexeme} (m : Matches system names_text ts rest) → names_of m ≡ row_of kind.Comma (tok of.Name) (λ ts rest m. (token_of m).name) (λ ts rest m. more_name_of m) names_same m
names_whole (both p ps) = refl

back_domain : {d : Option (List Sym)} {ts rest : List Lexeme} → SpellsDomain d ts rest → Has domain_text (λ ts rest m. domain_of m) d ts rest
back_domain (any_value b) = record { tree = the_left (a_token b); is = refl }
back_domain (these_values e (within o s c)) =
    let h = separated_back kind.Comma (tok of.Name) (λ ts rest m. (token_of m).name) (λ ts rest m. more_name_of m) names_same (Named of.Name) (λ x ts rest p. back_named p) s in
    record { tree = the_right (both (a_token e) (both (a_token o) (both h.tree (a_token c)))); is = ap Some (names_whole h.tree ∙ h.is) }

back_argument : {a : Sym × Option Sym} {ts rest : List Lexeme} → SpellsArgument a ts rest → Has argument_text (λ ts rest m. argument_of m) a ts rest
back_argument (a_flag n) = record { tree = both (a_token n) (the_right no_token); is = refl }
back_argument (an_argument n e v) = record { tree = both (a_token n) (the_left (both (a_token e) (a_token v))); is = refl }

arguments_same : (ts mid rest : List Lexeme) (s : Matches system (is kind.Comma) ts mid) (q : Matches system argument_text mid rest) → more_argument_of (both s q) ≡ argument_of q
arguments_same ts mid rest s q = refl

arguments_whole : {ts rest : List Lexeme} (m : Matches system arguments_text ts rest) → arguments_of m ≡ row_of kind.Comma argument_text (λ ts rest m. argument_of m) (λ ts rest m. more_argument_of m) arguments_same m
arguments_whole (both p ps) = refl

back_arguments : {args : List (Sym × Option Sym)} {ts rest : List Lexeme} → Maybe (Separated kind.Comma SpellsArgument) args ts rest → Has perhaps_arguments_text (λ ts rest m. perhaps_arguments_of m) args ts rest
back_arguments nothing = record { tree = the_right no_token; is = refl }
back_arguments (something s) =
    let h = separated_back kind.Comma argument_text (λ ts rest m. argument_of m) (λ ts rest m. more_argument_of m) arguments_same SpellsArgument (λ x ts rest p. back_argument p) s in record { tree = the_left h.tree; is = arguments_whole h.tree ∙ h.is }

back_header : {x : Header} {ts rest : List Lexeme} → SpellsHeader x ts rest → Has header_text (λ ts rest m. header_of m) x ts rest
back_header (a_domain {n = t} w n d) = let h = back_domain d in record { tree = the_left (both (a_token w) (both (a_token n) h.tree)); is = ap (λ z. header.Domain t.name z) h.is }
back_header (a_property_type w n c t) = record { tree = the_right (the_left (both (a_token w) (both (a_token n) (both (a_token c) (a_token t))))); is = refl }
back_header (a_feature_type w n c t) = record { tree = the_right (the_right (the_left (both (a_token w) (both (a_token n) (both (a_token c) (a_token t)))))); is = refl }
back_header (a_principle {n = t} {dim = u} w n h (within o args c) d l dim r) =
    let a = back_arguments args in record {
      tree = the_right (the_right (the_right (both (a_token w) (both (a_token n) (both (a_token h) (both (a_token o) (both a.tree (both (a_token c) (both (a_token d) (both (a_token l) (both (a_token dim) (a_token r))))))))))));
      is = ap (λ z. header.Principle t.name z u.name) a.is;
    }

-- the whole
not_full : (n k : ℕ) (w : Lexeme) → n + suc k ≤ 4096 → too_many (n == 4096) w ≡ []
not_full n k w l = ap (λ z. too_many z w) (ne_eqb n 4096 (λ e. omega arith))

back_items : (n : ℕ) {xs : List Item} {ts rest : List Lexeme} → Row SpellsItem xs ts rest → n + class_count xs ≤ 4096 → Clean metagrammar_text (λ ts rest m. metagrammar_of m) (λ ts rest m. item_row_bad n (items (λ ts rest m. item_read m) m)) xs ts rest
back_items n (last_in_row (a_class_item c)) l =
    let h = back_class c in record { tree = one_more (both (the_left h.tree) no_more); is = ap (λ z. item.Class z ∷ []) h.is; fine = none_bad (none_bad (not_full n 0 (class_word h.tree) l) h.fine) refl }
back_items n (last_in_row (a_value_item w t)) l = record { tree = one_more (both (the_right (the_left (both (a_token w) (a_token t)))) no_more); is = refl; fine = refl }
back_items n (last_in_row (a_header_item x)) l = let h = back_header x in record { tree = one_more (both (the_right (the_right h.tree)) no_more); is = ap (λ z. item.Header z ∷ []) h.is; fine = refl }
back_items n (in_row {xs = xs} (a_class_item c) more) l =
    let h = back_class c in let r = back_items (suc n) more (omega arith) in
    record { tree = one_more (both (the_left h.tree) r.tree); is = λ i. item.Class (h.is i) ∷ r.is i; fine = none_bad (none_bad (not_full n (class_count xs) (class_word h.tree) l) h.fine) r.fine }
back_items n (in_row (a_value_item {n = u} w t) more) l =
    let r = back_items n more l in record { tree = one_more (both (the_right (the_left (both (a_token w) (a_token t)))) r.tree); is = ap (λ z. item.Value u.name ∷ z) r.is; fine = r.fine }
back_items n (in_row (a_header_item x) more) l =
    let h = back_header x in let r = back_items n more l in record { tree = one_more (both (the_right (the_right h.tree)) r.tree); is = λ i. item.Header (h.is i) ∷ r.is i; fine = r.fine }

-- a text of a metagrammar, whose tree has it as value and no complaints
pub record Unspelled (m : List Item) (ts : List Lexeme) : Type 0 where
  pub tree : Matches system metagrammar_text ts []
  pub is : metagrammar_of tree ≡ m
  pub fine : metagrammar_bad tree ≡ []

pub unspelled : (m : List Item) (ts : List Lexeme) → Spells m ts → class_count m ≤ 4096 → Unspelled m ts
unspelled m ts nothing l = record { tree = no_more; is = refl; fine = refl }
unspelled m ts (something r) l = let h = back_items 0 r (omega arith) in record { tree = h.tree; is = h.is; fine = h.fine }
