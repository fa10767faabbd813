-- A tree without complaints shows that its value is spelled.
use Rattle.std.proofs.Common.{◌≡◌, ℕ, suc, ◌+◌, ◌≤◌, List, [], ◌∷◌, ◌++◌, Bool, true, false, refl, ap, sym, ◌∙◌, subst, arith, Option, Some, None, inl, inr}
use Rattle.std.specs.Prelude.{◌||◌, ◌==◌, nat_le, map, is_some, ⊤}
use Rattle.std.proofs.lemmas.Bool.{true≢false, eq-eqb, cases_lt, leb-true, ltb-true, le-leb, lt-ltb, and_from}
use Rattle.gr_base.specs.Lists.{IsAmong, NoneTwice}
use Rattle.gr_base.proofs.ListLemmas.{append-nil_left, append-nil_right}
use Rattle.gr_grammar.specs.Grammars.{tok, star, part, Matches, a_token, no_token, both, the_left, the_right, no_more, one_more, by_part, items}
use Rattle.gr_terms.specs.declared.Sym.{Sym}
use Rattle.mg_syntax.specs.declared.body.Side.{Side}
use Rattle.mg_syntax.specs.declared.body.Ref.{Ref}
use Rattle.mg_syntax.specs.declared.block.Kid.{Kid}
use Rattle.mg_reader.specs.declared.lexeme.Kind.TheVariants as kind
use Rattle.mg_reader.specs.declared.lexeme.Class.TheVariants as of
use Rattle.mg_reader.specs.declared.lexeme.Lexeme.{Lexeme}
use Rattle.mg_reader.specs.declared.found.Keyed.{Keyed}
use Rattle.mg_reader.specs.declared.found.Property.{Property}
use Rattle.mg_reader.specs.declared.found.Properties.{Properties}
use Rattle.mg_reader.specs.declared.found.Feature.{Feature}
use Rattle.mg_reader.specs.declared.found.Feature.TheVariants as feature
use Rattle.mg_reader.specs.declared.found.Features.{Features}
use Rattle.mg_reader.specs.Grammar.{is, maybe_text, ref_text, side_text, pair_text, more_pair_text, bag_text, next_arg_text, perhaps_args_text, literal_text, next_literal_text, perhaps_literals_text, property_text, more_property_text, property_list_text, feature_text, more_feature_text, feature_list_text, node_name_text, kid_text, next_kid_text, kid_list_text, syn_item_text, more_syn_item_text, perhaps_syn_items_text, dimension_text, call_text, variable_text, statement_text, more_statement_text, alternative_text, more_alternative_text, imports_text, exports_text, declares_text, class_text, more_name_text, domain_text, argument_text, more_argument_text, perhaps_arguments_text, header_text, item_text, metagrammar_text, system}
use Rattle.mg_reader.specs.Values.{token_of, is_there, ref_of, side_of, keyed_of, more_pair_of, keyeds_of, pair_of, bag_of, next_arg_of, perhaps_args_of, literal_of, next_literal_of, perhaps_literals_of, property_of, more_property_of, property_row_of, or_else, with_properties, no_properties, property_list_of, feature_of, more_feature_of, feature_row_of, with_feature, with_features, no_features, feature_list_of, node_with, node_name_of, down_of, node_of, kid_list_of, more_kids_of, kid_of, syn_item_of, more_syn_item_of, perhaps_syn_items_of, dimension_of, call_of, variable_of, body_of, more_alternatives_of, alternative_of, more_statements_of, statement_of, imports_of, exports_of, declares_of, class_of, more_name_of, domain_of, argument_of, more_argument_of, perhaps_arguments_of, header_of, item_of, metagrammar_of}
use Rattle.mg_reader.specs.Complaints.{all_of, among, again, key_bad, bag_bad, property_list_bad, has, feature_inner, feature_read, more_feature_read, feature_bad, feature_row_bad, feature_list_bad, node_bad, kid_list_bad, more_kids_bad, kid_bad, syn_item_bad, more_syn_item_bad, perhaps_syn_items_bad, dimension_bad, body_bad, more_alternatives_bad, alternative_bad, more_statements_bad, statement_bad, too_many, class_word, class_inner, item_read, word_bad, item_bad, with_class, item_row_bad, metagrammar_bad, FeatureRead}
use Rattle.mg_reader.specs.Spelling.{IsA, Separated, LooselySeparated, Row, Maybe, MaybeEnclosed, Behind, Named, SpellsRef, SpellsMaybeRef, SpellsSide, SpellsPair, SpellsBag, SpellsLiteral, SpellsLiterals, SpellsProperty, SpellsFeature, feature_number, SpellsDescent, SpellsLoose, SpellsNode, SpellsKids, SpellsMoreKids, SpellsKid, SpellsSynItem, SpellsCall, SpellsBody, SpellsMoreAlternatives, SpellsAlternative, SpellsMoreStatements, SpellsStatement, SpellsClass, SpellsDomain, SpellsArgument, SpellsHeader, SpellsItem, Spells, last_separated, separated, last_loosely, loosely, side_by_side, last_in_row, in_row, nothing, something, within, not_enclosed, enclosed, no_word, behind_word, a_name, a_ref, a_dotted_ref, unnamed, named, a_side_name, a_variable, a_pair, a_bag, without_handle, with_handle, a_colour, a_mark, a_property, a_category, a_top, a_bottom, a_child, a_descent, not_loose, is_loose, a_node, no_kid_list, empty_kid_list, a_kid_list, no_more_kids, one_more_kid, a_kid, a_block, a_relation, a_dimension, a_call, empty_body, a_body, no_more_alternatives, one_more_alternative, an_alternative, no_more_statements, one_more_statement, a_group, a_call_statement, a_binding, an_equation, a_syn, a_sem, an_iface, a_class, any_value, these_values, a_flag, an_argument, a_domain, a_property_type, a_feature_type, a_principle, a_class_item, a_value_item, a_header_item}
use Rattle.mg_reader.specs.Answers.{class_count}
use Rattle.mg_reader.specs.Kinds.{kind_number, test, low, high}
use Rattle.gr_grammar.proofs.Fronts.{and_left, and_right}
use Rattle.mg_reader.specs.declared.lexeme.Class.{Class}
use Rattle.mg_reader.proofs.Keys.{number_of, key_of_pair, key_of_property, given_of_read, among-push, given_items}

no_cons : {A : Type 0} {x : A} {xs : List A} → x ∷ xs ≡ [] → ⊥
no_cons e = subst (λ z. Cons z) e tt
  where
    Cons : {A : Type 0} → List A → Type 0
    Cons [] = ⊥
    Cons (x ∷ xs) = ⊤

-- attributes without complaints stand once
not_again : (b : Bool) (k : Lexeme) → again b k ≡ [] → b ≡ false
not_again true k e = absurd (no_cons e)
not_again false k e = refl

neither_left : (a b : Bool) → (a || b) ≡ false → a ≡ false
neither_left true b e = e
neither_left false b e = refl

neither_right : (a b : Bool) → (a || b) ≡ false → b ≡ false
neither_right true b e = absurd (true≢false e)
neither_right false b e = e

once : (seen : List ℕ) (ks : List Lexeme) → key_bad seen ks ≡ [] → NoneTwice (map number_of ks) × ((x : ℕ) → IsAmong (map number_of ks) x → among seen x ≡ false)
once seen [] e = (tt, λ x h. absurd h)
once seen (k ∷ ks) e =
    let r = once (seen ++ k.name.0 ∷ []) ks (append-nil_right (again (among seen k.name.0) k) _ e) in
    let fresh : among seen k.name.0 ≡ false = not_again (among seen k.name.0) k (append-nil_left (again (among seen k.name.0) k) _ e) in
    let behind : (x : ℕ) → IsAmong (map number_of ks) x → (among seen x || (x == k.name.0)) ≡ false = λ x h. sym (among-push seen k.name.0 x) ∙ r.1 x h in (
      (λ h. true≢false (sym (eq-eqb k.name.0 k.name.0 refl) ∙ neither_right (among seen k.name.0) _ (behind k.name.0 h)), r.0),
      λ x h. elim h [ inl q ↦ ap (λ z. among seen z) q ∙ fresh | inr q ↦ neither_left (among seen x) _ (behind x q) ],
    )

pub pair_names : (ks : List Keyed) → map number_of (map key_of_pair ks) ≡ map (λ (p : Sym × Side). p.0.0) (map pair_of ks)
pair_names [] = refl
pair_names (k ∷ ks) = ap (λ z. k.key.name.0 ∷ z) (pair_names ks)

pub property_names : (ps : List Property) → map number_of (map key_of_property ps) ≡ map (λ (p : Property). p.key.name.0) ps
property_names [] = refl
property_names (p ∷ ps) = ap (λ z. p.key.name.0 ∷ z) (property_names ps)

-- so do features
some_else : {A : Type 0} (a : Option A) (v : A) → is_some (or_else a (Some v)) ≡ true
some_else None v = refl
some_else (Some b) v = refl

none_else : {A : Type 0} (a : Option A) (v : A) → is_some (or_else a (Some v)) ≡ false → is_some a ≡ false
none_else None v e = refl
none_else (Some b) v e = e

has_with : (fs : Features) (g x : Feature) → feature_number x ≡ feature_number g → has (with_feature fs g) x ≡ true
has_with fs (feature.Category v) (feature.Category w) e = some_else fs.category v
has_with fs (feature.Category v) (feature.Top w) e = absurd (omega arith)
has_with fs (feature.Category v) (feature.Bottom w) e = absurd (omega arith)
has_with fs (feature.Top v) (feature.Category w) e = absurd (omega arith)
has_with fs (feature.Top v) (feature.Top w) e = some_else fs.top v
has_with fs (feature.Top v) (feature.Bottom w) e = absurd (omega arith)
has_with fs (feature.Bottom v) (feature.Category w) e = absurd (omega arith)
has_with fs (feature.Bottom v) (feature.Top w) e = absurd (omega arith)
has_with fs (feature.Bottom v) (feature.Bottom w) e = some_else fs.bottom v

had_without : (fs : Features) (g x : Feature) → has (with_feature fs g) x ≡ false → has fs x ≡ false
had_without fs (feature.Category v) (feature.Category w) e = none_else fs.category v e
had_without fs (feature.Category v) (feature.Top w) e = e
had_without fs (feature.Category v) (feature.Bottom w) e = e
had_without fs (feature.Top v) (feature.Category w) e = e
had_without fs (feature.Top v) (feature.Top w) e = none_else fs.top v e
had_without fs (feature.Top v) (feature.Bottom w) e = e
had_without fs (feature.Bottom v) (feature.Category w) e = e
had_without fs (feature.Bottom v) (feature.Top w) e = e
had_without fs (feature.Bottom v) (feature.Bottom w) e = none_else fs.bottom v e

feature_once : (had : Features) (rs : List FeatureRead) → feature_row_bad had rs ≡ [] → NoneTwice (map feature_number (map given_of_read rs)) × ((x : Feature) → IsAmong (map feature_number (map given_of_read rs)) (feature_number x) → has had x ≡ false)
feature_once had [] e = (tt, λ x h. absurd h)
feature_once had (f ∷ rs) e =
    let own = append-nil_left (again (has had f.given) f.key) f.inner (append-nil_left (feature_bad had f) _ e) in
    let fresh : has had f.given ≡ false = not_again (has had f.given) f.key own in
    let r = feature_once (with_feature had f.given) rs (append-nil_right (feature_bad had f) _ e) in (
      (λ h. true≢false (sym (has_with had f.given f.given refl) ∙ r.1 f.given h), r.0),
      λ x h. elim h [ inl q ↦ had_here had f.given x q fresh | inr q ↦ had_without had f.given x (r.1 x q) ],
    )
  where
    had_here : (fs : Features) (g x : Feature) → feature_number x ≡ feature_number g → has fs g ≡ false → has fs x ≡ false
    had_here fs (feature.Category v) (feature.Category w) e h = h
    had_here fs (feature.Category v) (feature.Top w) e h = absurd (omega arith)
    had_here fs (feature.Category v) (feature.Bottom w) e h = absurd (omega arith)
    had_here fs (feature.Top v) (feature.Category w) e h = absurd (omega arith)
    had_here fs (feature.Top v) (feature.Top w) e h = h
    had_here fs (feature.Top v) (feature.Bottom w) e h = absurd (omega arith)
    had_here fs (feature.Bottom v) (feature.Category w) e h = absurd (omega arith)
    had_here fs (feature.Bottom v) (feature.Top w) e h = absurd (omega arith)
    had_here fs (feature.Bottom v) (feature.Bottom w) e h = h

-- variables and values
spelled_ref : {ts rest : List Lexeme} (m : Matches system ref_text ts rest) → SpellsRef (ref_of m) ts rest
spelled_ref (both (a_token x) (the_left (both (a_token d) (a_token y)))) = a_dotted_ref x d y
spelled_ref (both (a_token x) (the_right no_token)) = a_ref x

spelled_side : {ts rest : List Lexeme} (m : Matches system side_text ts rest) → SpellsSide (side_of m) ts rest
spelled_side (the_left (a_token n)) = a_side_name n
spelled_side (the_right m) = a_variable (spelled_ref m)

-- bags
spelled_pair : {ts rest : List Lexeme} (m : Matches system pair_text ts rest) → SpellsPair (pair_of (keyed_of m)) ts rest
spelled_pair (both (a_token a) (both (a_token e) v)) = a_pair a e (spelled_side v)

spelled_pairs : {ts mid rest : List Lexeme} (p : Matches system pair_text ts mid) (ps : Matches system (star more_pair_text) mid rest) → Separated kind.Comma SpellsPair (pair_of (keyed_of p) ∷ map pair_of (items (λ ts rest m. more_pair_of m) ps)) ts rest
spelled_pairs p no_more = last_separated (spelled_pair p)
spelled_pairs p (one_more (both (both (a_token s) q) qs)) = separated (spelled_pair p) s (spelled_pairs q qs)

spelled_bag : {ts rest : List Lexeme} (m : Matches system bag_text ts rest) → bag_bad m ≡ [] → SpellsBag (bag_of m) ts rest
spelled_bag (both (a_token o) (both (the_left (both p ps)) (a_token c))) e =
    a_bag (subst NoneTwice (pair_names (keyeds_of (both p ps))) (once [] (map key_of_pair (keyeds_of (both p ps))) e).0) (within o (something (spelled_pairs p ps)) c)
spelled_bag (both (a_token o) (both (the_right no_token) (a_token c))) e = a_bag tt (within o nothing c)

-- literals
spelled_args : {ts mid rest : List Lexeme} (v : Matches system side_text ts mid) (vs : Matches system (star next_arg_text) mid rest) → LooselySeparated kind.Comma SpellsSide (side_of v ∷ items (λ ts rest m. next_arg_of m) vs) ts rest
spelled_args v no_more = last_loosely (spelled_side v)
spelled_args v (one_more (both (both (the_left (a_token s)) w) ws)) = loosely (spelled_side v) s (spelled_args w ws)
spelled_args v (one_more (both (both (the_right no_token) w) ws)) = side_by_side (spelled_side v) (spelled_args w ws)

spelled_perhaps_args : {ts rest : List Lexeme} (m : Matches system perhaps_args_text ts rest) → Maybe (LooselySeparated kind.Comma SpellsSide) (perhaps_args_of m) ts rest
spelled_perhaps_args (the_left (both v vs)) = something (spelled_args v vs)
spelled_perhaps_args (the_right no_token) = nothing

spelled_literal : {ts rest : List Lexeme} (m : Matches system literal_text ts rest) → SpellsLiteral (literal_of m) ts rest
spelled_literal (both v (both (the_left (both (a_token c) p)) (both (a_token o) (both args (a_token b))))) = with_handle (spelled_side v) c (spelled_side p) (within o (spelled_perhaps_args args) b)
spelled_literal (both v (both (the_right no_token) (both (a_token o) (both args (a_token b))))) = without_handle (spelled_side v) (within o (spelled_perhaps_args args) b)

spelled_literals : {ts mid rest : List Lexeme} (l : Matches system literal_text ts mid) (ls : Matches system (star next_literal_text) mid rest) → LooselySeparated kind.Semicolon SpellsLiteral (literal_of l ∷ items (λ ts rest m. next_literal_of m) ls) ts rest
spelled_literals l no_more = last_loosely (spelled_literal l)
spelled_literals l (one_more (both (both (the_left (a_token s)) k) ks)) = loosely (spelled_literal l) s (spelled_literals k ks)
spelled_literals l (one_more (both (both (the_right no_token) k) ks)) = side_by_side (spelled_literal l) (spelled_literals k ks)

spelled_perhaps_literals : {ts rest : List Lexeme} (m : Matches system perhaps_literals_text ts rest) → SpellsLiterals (perhaps_literals_of m) ts rest
spelled_perhaps_literals (the_left (both l ls)) = something (spelled_literals l ls)
spelled_perhaps_literals (the_right no_token) = nothing

-- properties
spelled_property : {ts rest : List Lexeme} (m : Matches system property_text ts rest) → SpellsProperty (property_of m) ts rest
spelled_property (the_left (both (a_token k) (both (a_token e) (a_token v)))) = a_colour k e v
spelled_property (the_right (the_left (both (a_token k) (both (a_token e) (a_token v))))) = a_mark k e v
spelled_property (the_right (the_right (both (a_token k) (both (a_token e) v)))) = a_property k e (spelled_side v)

spelled_properties : {ts mid rest : List Lexeme} (p : Matches system property_text ts mid) (ps : Matches system (star more_property_text) mid rest) → Separated kind.Comma SpellsProperty (property_of p ∷ items (λ ts rest m. more_property_of m) ps) ts rest
spelled_properties p no_more = last_separated (spelled_property p)
spelled_properties p (one_more (both (both (a_token s) q) qs)) = separated (spelled_property p) s (spelled_properties q qs)

-- the properties of a node block that are spelled, each attribute once
record PropertiesSpelled (found : Properties) (ts rest : List Lexeme) : Type 0 where
  ps : List Property
  are : found ≡ with_properties no_properties ps
  once : NoneTwice (map (λ (p : Property). p.key.name.0) ps)
  spelled : MaybeEnclosed kind.LeftParen kind.RightParen (Separated kind.Comma SpellsProperty) ps ts rest

spelled_property_list : {ts rest : List Lexeme} (m : Matches system property_list_text ts rest) → property_list_bad m ≡ [] → PropertiesSpelled (property_list_of m) ts rest
spelled_property_list (the_left (both (a_token o) (both (the_left (both p ps)) (a_token c)))) e = record {
  ps = property_row_of (both p ps);
  are = refl;
  once = subst NoneTwice (property_names (property_row_of (both p ps))) (once [] (map key_of_property (property_row_of (both p ps))) e).0;
  spelled = enclosed (within o (something (spelled_properties p ps)) c);
}
spelled_property_list (the_left (both (a_token o) (both (the_right no_token) (a_token c)))) e = record { ps = []; are = refl; once = tt; spelled = enclosed (within o nothing c) }
spelled_property_list (the_right no_token) e = record { ps = []; are = refl; once = tt; spelled = not_enclosed }

-- features
spelled_feature : {ts rest : List Lexeme} (m : Matches system feature_text ts rest) → feature_inner m ≡ [] → SpellsFeature (feature_of m) ts rest
spelled_feature (the_left (both (a_token k) (both (a_token s) v))) e = a_category k s (spelled_side v)
spelled_feature (the_right (the_left (both (a_token k) (both (a_token s) b)))) e = a_top k s (spelled_bag b e)
spelled_feature (the_right (the_right (both (a_token k) (both (a_token s) b)))) e = a_bottom k s (spelled_bag b e)

inner_nil : (had : Features) (r : FeatureRead) (rs : List FeatureRead) → feature_row_bad had (r ∷ rs) ≡ [] → r.inner ≡ []
inner_nil had r rs e = append-nil_right (again (has had r.given) r.key) r.inner (append-nil_left (feature_bad had r) _ e)

rest_nil : (had : Features) (r : FeatureRead) (rs : List FeatureRead) → feature_row_bad had (r ∷ rs) ≡ [] → feature_row_bad (with_feature had r.given) rs ≡ []
rest_nil had r rs e = append-nil_right (feature_bad had r) _ e

spelled_features : (had : Features) {ts mid rest : List Lexeme} (f : Matches system feature_text ts mid) (fs : Matches system (star more_feature_text) mid rest) → feature_row_bad had (feature_read f ∷ items (λ ts rest m. more_feature_read m) fs) ≡ [] →
    Separated kind.Comma SpellsFeature (feature_of f ∷ items (λ ts rest m. more_feature_of m) fs) ts rest
spelled_features had f no_more e = last_separated (spelled_feature f (inner_nil had (feature_read f) [] e))
spelled_features had f (one_more (both (both (a_token s) g) gs)) e =
    separated (spelled_feature f (inner_nil had (feature_read f) (feature_read g ∷ items (λ ts rest m. more_feature_read m) gs) e)) s
    (spelled_features (with_feature had (feature_of f)) g gs (rest_nil had (feature_read f) (feature_read g ∷ items (λ ts rest m. more_feature_read m) gs) e))

record FeaturesSpelled (found : Features) (ts rest : List Lexeme) : Type 0 where
  fs : List Feature
  are : found ≡ with_features no_features fs
  once : NoneTwice (map feature_number fs)
  spelled : MaybeEnclosed kind.LeftBracket kind.RightBracket (Separated kind.Comma SpellsFeature) fs ts rest

spelled_feature_list : {ts rest : List Lexeme} (m : Matches system feature_list_text ts rest) → feature_list_bad m ≡ [] → FeaturesSpelled (feature_list_of m) ts rest
spelled_feature_list (the_left (both (a_token o) (both (the_left (both f fs)) (a_token c)))) e = record {
  fs = feature_row_of (both f fs);
  are = refl;
  once = subst (λ z. NoneTwice (map feature_number (feature_of f ∷ z))) (given_items fs) (feature_once no_features (feature_read f ∷ items (λ ts rest m. more_feature_read m) fs) e).0;
  spelled = enclosed (within o (something (spelled_features no_features f fs e)) c);
}
spelled_feature_list (the_left (both (a_token o) (both (the_right no_token) (a_token c)))) e = record { fs = []; are = refl; once = tt; spelled = enclosed (within o nothing c) }
spelled_feature_list (the_right no_token) e = record { fs = []; are = refl; once = tt; spelled = not_enclosed }

-- node blocks
spelled_name : {ts rest : List Lexeme} (m : Matches system node_name_text ts rest) → SpellsMaybeRef (node_name_of m) ts rest
spelled_name (the_left m) = named (spelled_ref m)
spelled_name (the_right no_token) = unnamed

spelled_down : {ts rest : List Lexeme} (m : Matches system (maybe_text of.Descent) ts rest) → SpellsDescent (down_of m) ts rest
spelled_down (the_left (a_token d)) = a_descent d
spelled_down (the_right no_token) = a_child

spelled_loose : {ts rest : List Lexeme} (m : Matches system (maybe_text (of.Is kind.Commas)) ts rest) → SpellsLoose (is_there m) ts rest
spelled_loose (the_left (a_token s)) = is_loose s
spelled_loose (the_right no_token) = not_loose

node_spelled : {w : Lexeme} {name : Option Ref} {ps : Properties} {fs : Features} {kids : List Kid} {ts behind_name behind_properties behind_features rest : List Lexeme} → IsA kind.Node w → SpellsMaybeRef name ts behind_name → PropertiesSpelled ps behind_name behind_properties →
    FeaturesSpelled fs behind_properties behind_features → SpellsKids kids behind_features rest → SpellsNode (node_with name ps fs kids) (w ∷ ts) rest
node_spelled {w} {name} {ps} {fs} {kids} {ts} {rest = rest} h n p f k =
    subst (λ z. SpellsNode (node_with name z fs kids) (w ∷ ts) rest) (sym p.are) (subst (λ z. SpellsNode (node_with name (with_properties no_properties p.ps) z kids) (w ∷ ts) rest) (sym f.are) (a_node h n p.once p.spelled f.once f.spelled k))

mutual
  spelled_node : {ts rest : List Lexeme} (m : Matches system (part 1) ts rest) → node_bad m ≡ [] → SpellsNode (node_of m) ts rest
  spelled_node (by_part (both (a_token w) (both n (both ps (both fs ks))))) e =
      node_spelled w (spelled_name n) (spelled_property_list ps (append-nil_left (property_list_bad ps) _ e)) (spelled_feature_list fs (append-nil_left (feature_list_bad fs) _ (append-nil_right (property_list_bad ps) _ e)))
      (spelled_kid_list ks (append-nil_right (feature_list_bad fs) _ (append-nil_right (property_list_bad ps) _ e)))

  spelled_kid_list : {ts rest : List Lexeme} (m : Matches system kid_list_text ts rest) → kid_list_bad m ≡ [] → SpellsKids (kid_list_of m) ts rest
  spelled_kid_list (the_left (both (a_token o) (both (the_left (both k ks)) (a_token c)))) e = a_kid_list o (spelled_kid false k (append-nil_left (kid_bad k) _ e)) (spelled_more_kids ks (append-nil_right (kid_bad k) _ e)) c
  spelled_kid_list (the_left (both (a_token o) (both (the_right no_token) (a_token c)))) e = empty_kid_list o c
  spelled_kid_list (the_right no_token) e = no_kid_list

  spelled_more_kids : {ts rest : List Lexeme} (m : Matches system (star next_kid_text) ts rest) → more_kids_bad m ≡ [] → SpellsMoreKids (more_kids_of m) ts rest
  spelled_more_kids no_more e = no_more_kids
  spelled_more_kids (one_more (both (both l k) ks)) e = one_more_kid (spelled_loose l) (spelled_kid (is_there l) k (append-nil_left (kid_bad k) _ e)) (spelled_more_kids ks (append-nil_right (kid_bad k) _ e))

  spelled_kid : (loose : Bool) {ts rest : List Lexeme} (m : Matches system kid_text ts rest) → kid_bad m ≡ [] → SpellsKid loose (kid_of loose m) ts rest
  spelled_kid loose (both d n) e = a_kid (spelled_down d) (spelled_node n e)

-- the three dimensions
spelled_syn_item : {ts rest : List Lexeme} (m : Matches system syn_item_text ts rest) → syn_item_bad m ≡ [] → SpellsSynItem (syn_item_of m) ts rest
spelled_syn_item (the_left m) e = a_block (spelled_node m e)
spelled_syn_item (the_right (both a (both (a_token o) b))) e = a_relation (spelled_ref a) o (spelled_ref b)

spelled_syn_items : {ts mid rest : List Lexeme} (m : Matches system syn_item_text ts mid) (ms : Matches system (star more_syn_item_text) mid rest) → syn_item_bad m ++ all_of (items (λ ts rest m. more_syn_item_bad m) ms) ≡ [] →
    Separated kind.Semicolon SpellsSynItem (syn_item_of m ∷ items (λ ts rest m. more_syn_item_of m) ms) ts rest
spelled_syn_items m no_more e = last_separated (spelled_syn_item m (append-nil_left (syn_item_bad m) _ e))
spelled_syn_items m (one_more (both (both (a_token s) n) ns)) e = separated (spelled_syn_item m (append-nil_left (syn_item_bad m) _ e)) s (spelled_syn_items n ns (append-nil_right (syn_item_bad m) _ e))

spelled_perhaps_syn_items : {ts rest : List Lexeme} (m : Matches system perhaps_syn_items_text ts rest) → perhaps_syn_items_bad m ≡ [] → Maybe (Separated kind.Semicolon SpellsSynItem) (perhaps_syn_items_of m) ts rest
spelled_perhaps_syn_items (the_left (both m ms)) e = something (spelled_syn_items m ms e)
spelled_perhaps_syn_items (the_right no_token) e = nothing

spelled_dimension : {ts rest : List Lexeme} (m : Matches system dimension_text ts rest) → dimension_bad m ≡ [] → SpellsStatement (dimension_of m) ts rest
spelled_dimension (both (a_token l) (the_left (both (a_token w) (both (a_token g) (both (a_token o) (both m (a_token c))))))) e = a_syn (a_dimension l w g (within o (spelled_perhaps_syn_items m e) c))
spelled_dimension (both (a_token l) (the_right (the_left (both (a_token w) (both (a_token g) (both (a_token o) (both m (a_token c)))))))) e = a_sem (a_dimension l w g (within o (spelled_perhaps_literals m) c))
spelled_dimension (both (a_token l) (the_right (the_right (both (a_token w) (both (a_token g) (both (a_token o) (both m (a_token c)))))))) e = an_iface (a_dimension l w g (within o (spelled_bag m e) c))

-- statements
spelled_call : {ts rest : List Lexeme} (m : Matches system call_text ts rest) → SpellsCall (call_of m) ts rest
spelled_call (both (a_token n) (both (a_token o) (a_token c))) = a_call n o c

is_name : (c : Class) → nat_le (low of.Name) (low c) ≡ true → nat_le (high c) (high of.Name) ≡ true → (t : Lexeme) → test c t ≡ true → test of.Name t ≡ true
is_name c a b t h =
    let n = kind_number t.kind in
    let l = leb-true (low of.Name) (low c) a in let u = leb-true (high c) (high of.Name) b in
    let m = leb-true (low c) n (and_left (nat_le (low c) n) _ h) in let v = ltb-true n (high c) (and_right (nat_le (low c) n) _ h) in
    and_from (nat_le (low of.Name) n) _ (le-leb (low of.Name) n (omega arith)) (lt-ltb n (high of.Name) (omega arith))

spelled_variable : {ts rest : List Lexeme} (m : Matches system variable_text ts rest) → SpellsStatement (variable_of m) ts rest
spelled_variable (both (a_token x) (the_left (both (a_token d) (both (a_token y) (both (a_token e) s))))) = an_equation (a_dotted_ref x d y) e (spelled_side s)
spelled_variable (both (a_token x) (the_right (both (a_token e) (the_left (both (a_token n) (the_left (both (a_token o) (a_token c)))))))) = a_binding x e (a_call n o c)
spelled_variable (both (a_token x) (the_right (both (a_token e) (the_left (both (a_token {t} n) (the_right no_token)))))) = an_equation (a_ref x) e (a_side_name {t = t} (is_name of.Plain refl refl t n))
spelled_variable (both (a_token x) (the_right (both (a_token e) (the_right (the_left (a_token {t} n)))))) = an_equation (a_ref x) e (a_side_name {t = t} (is_name of.Reserved refl refl t n))
spelled_variable (both (a_token x) (the_right (both (a_token e) (the_right (the_right (the_left (a_token {t} n))))))) = an_equation (a_ref x) e (a_side_name {t = t} (is_name (of.Is kind.Str) refl refl t n))
spelled_variable (both (a_token x) (the_right (both (a_token e) (the_right (the_right (the_right m)))))) = an_equation (a_ref x) e (a_variable (spelled_ref m))

-- bodies
mutual
  spelled_body : {ts rest : List Lexeme} (m : Matches system (part 0) ts rest) → body_bad m ≡ [] → SpellsBody (body_of m) ts rest
  spelled_body (by_part (the_left (both a more))) e = a_body (spelled_alternative a (append-nil_left (alternative_bad a) _ e)) (spelled_more_alternatives more (append-nil_right (alternative_bad a) _ e))
  spelled_body (by_part (the_right no_token)) e = empty_body

  spelled_more_alternatives : {ts rest : List Lexeme} (m : Matches system (star more_alternative_text) ts rest) → more_alternatives_bad m ≡ [] → SpellsMoreAlternatives (more_alternatives_of m) ts rest
  spelled_more_alternatives no_more e = no_more_alternatives
  spelled_more_alternatives (one_more (both (both (a_token b) a) more)) e = one_more_alternative b (spelled_alternative a (append-nil_left (alternative_bad a) _ e)) (spelled_more_alternatives more (append-nil_right (alternative_bad a) _ e))

  spelled_alternative : {ts rest : List Lexeme} (m : Matches system alternative_text ts rest) → alternative_bad m ≡ [] → SpellsAlternative (alternative_of m) ts rest
  spelled_alternative (both s ss) e = an_alternative (spelled_statement s (append-nil_left (statement_bad s) _ e)) (spelled_more_statements ss (append-nil_right (statement_bad s) _ e))

  spelled_more_statements : {ts rest : List Lexeme} (m : Matches system (star more_statement_text) ts rest) → more_statements_bad m ≡ [] → SpellsMoreStatements (more_statements_of m) ts rest
  spelled_more_statements no_more e = no_more_statements
  spelled_more_statements (one_more (both (both (a_token b) s) ss)) e = one_more_statement b (spelled_statement s (append-nil_left (statement_bad s) _ e)) (spelled_more_statements ss (append-nil_right (statement_bad s) _ e))

  spelled_statement : {ts rest : List Lexeme} (m : Matches system statement_text ts rest) → statement_bad m ≡ [] → SpellsStatement (statement_of m) ts rest
  spelled_statement (the_left (both (a_token o) (both b (a_token c)))) e = a_group o (spelled_body b e) c
  spelled_statement (the_right (the_left m)) e = a_call_statement (spelled_call m)
  spelled_statement (the_right (the_right (the_left m))) e = spelled_variable m
  spelled_statement (the_right (the_right (the_right m))) e = spelled_dimension m e

-- classes
spelled_calls : {ts mid rest : List Lexeme} (m : Matches system call_text ts mid) (ms : Matches system (star call_text) mid rest) → Row SpellsCall (call_of m ∷ items (λ ts rest m. call_of m) ms) ts rest
spelled_calls m no_more = last_in_row (spelled_call m)
spelled_calls m (one_more (both n ns)) = in_row (spelled_call m) (spelled_calls n ns)

spelled_imports : {ts rest : List Lexeme} (m : Matches system imports_text ts rest) → Behind kind.Import (Row SpellsCall) (imports_of m) ts rest
spelled_imports (the_left (both (a_token w) (both m ms))) = behind_word w (spelled_calls m ms)
spelled_imports (the_right no_token) = no_word

spelled_token : {c : Class} {ts rest : List Lexeme} (m : Matches system (tok c) ts rest) → Named c (token_of m).name ts rest
spelled_token (a_token h) = a_name h

spelled_variables : {ts mid rest : List Lexeme} (m : Matches system (is kind.Var) ts mid) (ms : Matches system (star (is kind.Var)) mid rest) → Row (Named (of.Is kind.Var)) ((token_of m).name ∷ items (λ ts rest m. (token_of m).name) ms) ts rest
spelled_variables m no_more = last_in_row (spelled_token m)
spelled_variables m (one_more (both n ns)) = in_row (spelled_token m) (spelled_variables n ns)

spelled_exports : {ts rest : List Lexeme} (m : Matches system exports_text ts rest) → Behind kind.Export (Row (Named (of.Is kind.Var))) (exports_of m) ts rest
spelled_exports (the_left (both (a_token w) (both m ms))) = behind_word w (spelled_variables m ms)
spelled_exports (the_right no_token) = no_word

spelled_declares : {ts rest : List Lexeme} (m : Matches system declares_text ts rest) → Behind kind.Declare (Row (Named (of.Is kind.Var))) (declares_of m) ts rest
spelled_declares (the_left (both (a_token w) (both m ms))) = behind_word w (spelled_variables m ms)
spelled_declares (the_right no_token) = no_word

spelled_class : {ts rest : List Lexeme} (m : Matches system class_text ts rest) → class_inner m ≡ [] → SpellsClass (class_of m) ts rest
spelled_class (both (a_token w) (both (a_token n) (both i (both x (both d (both (a_token o) (both b (a_token c)))))))) e = a_class w n (spelled_imports i) (spelled_exports x) (spelled_declares d) (within o (spelled_body b e) c)

-- headers
spelled_names : {ts mid rest : List Lexeme} (m : Matches system (tok of.Name) ts mid) (ms : Matches system (star more_name_text) mid rest) → Separated kind.Comma (Named of.Name) ((token_of m).name ∷ items (λ ts rest m. more_name_of m) ms) ts rest
spelled_names m no_more = last_separated (spelled_token m)
spelled_names m (one_more (both (both (a_token s) n) ns)) = separated (spelled_token m) s (spelled_names n ns)

spelled_domain : {ts rest : List Lexeme} (m : Matches system domain_text ts rest) → SpellsDomain (domain_of m) ts rest
spelled_domain (the_left (a_token b)) = any_value b
spelled_domain (the_right (both (a_token e) (both (a_token o) (both (both n ns) (a_token c))))) = these_values e (within o (spelled_names n ns) c)

spelled_argument : {ts rest : List Lexeme} (m : Matches system argument_text ts rest) → SpellsArgument (argument_of m) ts rest
spelled_argument (both (a_token n) (the_left (both (a_token e) (a_token v)))) = an_argument n e v
spelled_argument (both (a_token n) (the_right no_token)) = a_flag n

spelled_arguments : {ts mid rest : List Lexeme} (m : Matches system argument_text ts mid) (ms : Matches system (star more_argument_text) mid rest) → Separated kind.Comma SpellsArgument (argument_of m ∷ items (λ ts rest m. more_argument_of m) ms) ts rest
spelled_arguments m no_more = last_separated (spelled_argument m)
spelled_arguments m (one_more (both (both (a_token s) n) ns)) = separated (spelled_argument m) s (spelled_arguments n ns)

spelled_perhaps_arguments : {ts rest : List Lexeme} (m : Matches system perhaps_arguments_text ts rest) → Maybe (Separated kind.Comma SpellsArgument) (perhaps_arguments_of m) ts rest
spelled_perhaps_arguments (the_left (both m ms)) = something (spelled_arguments m ms)
spelled_perhaps_arguments (the_right no_token) = nothing

spelled_header : {ts rest : List Lexeme} (m : Matches system header_text ts rest) → SpellsHeader (header_of m) ts rest
spelled_header (the_left (both (a_token w) (both (a_token n) d))) = a_domain w n (spelled_domain d)
spelled_header (the_right (the_left (both (a_token w) (both (a_token n) (both (a_token c) (a_token t)))))) = a_property_type w n c t
spelled_header (the_right (the_right (the_left (both (a_token w) (both (a_token n) (both (a_token c) (a_token t))))))) = a_feature_type w n c t
spelled_header (the_right (the_right (the_right (both (a_token w) (both (a_token n) (both (a_token h) (both (a_token a) (both args (both (a_token b) (both (a_token d) (both (a_token o) (both (a_token dim) (a_token c))))))))))))) =
    a_principle w n h (within a (spelled_perhaps_arguments args) b) d o dim c

-- the whole
spelled_item : (n : ℕ) {ts rest : List Lexeme} (m : Matches system item_text ts rest) → item_bad n (item_read m) ≡ [] → SpellsItem (item_of m) ts rest
spelled_item n (the_left m) e = a_class_item (spelled_class m (append-nil_right (word_bad n (Some (class_word m))) _ e))
spelled_item n (the_right (the_left (both (a_token w) (a_token t)))) e = a_value_item w t
spelled_item n (the_right (the_right m)) e = a_header_item (spelled_header m)

spelled_items : (n : ℕ) {ts mid rest : List Lexeme} (m : Matches system item_text ts mid) (ms : Matches system metagrammar_text mid rest) → item_row_bad n (item_read m ∷ items (λ ts rest m. item_read m) ms) ≡ [] → Row SpellsItem (item_of m ∷ items (λ ts rest m. item_of m) ms) ts rest
spelled_items n m no_more e = last_in_row (spelled_item n m (append-nil_left (item_bad n (item_read m)) _ e))
spelled_items n m (one_more (both k ks)) e = in_row (spelled_item n m (append-nil_left (item_bad n (item_read m)) _ e)) (spelled_items (with_class n (item_read m).word) k ks (append-nil_right (item_bad n (item_read m)) _ e))

pub spelled_metagrammar : {ts : List Lexeme} (m : Matches system metagrammar_text ts []) → metagrammar_bad m ≡ [] → Spells (metagrammar_of m) ts
spelled_metagrammar no_more e = nothing
spelled_metagrammar (one_more (both m ms)) e = something (spelled_items 0 m ms e)

-- there are no more classes than allowed
not_too_many : (n : ℕ) (w : Lexeme) → too_many (n == 4096) w ≡ [] → (n ≡ 4096) → ⊥
not_too_many n w e h = true≢false (sym (eq-eqb n 4096 h) ∙ not_so (n == 4096) e)
  where
    not_so : (b : Bool) → too_many b w ≡ [] → b ≡ false
    not_so true e = absurd (no_cons e)
    not_so false e = refl

few_items : (n : ℕ) → n ≤ 4096 → {ts rest : List Lexeme} (m : Matches system metagrammar_text ts rest) → item_row_bad n (items (λ ts rest m. item_read m) m) ≡ [] → n + class_count (items (λ ts rest m. item_of m) m) ≤ 4096
few_items n l no_more e = omega arith
few_items n l (one_more (both (the_left m) ms)) e =
    let h = not_too_many n (class_word m) (append-nil_left (too_many (n == 4096) (class_word m)) _ (append-nil_left (item_bad n (item_read (the_left m))) _ e)) in
    let k = few_items (suc n) (elim (cases_lt n 4096) [ inl x ↦ x | inr y ↦ absurd (h (omega arith)) ]) ms (append-nil_right (item_bad n (item_read (the_left m))) _ e) in omega arith
few_items n l (one_more (both (the_right (the_left m)) ms)) e = few_items n l ms e
few_items n l (one_more (both (the_right (the_right m)) ms)) e = few_items n l ms e

pub few_classes : {ts : List Lexeme} (m : Matches system metagrammar_text ts []) → metagrammar_bad m ≡ [] → class_count (metagrammar_of m) ≤ 4096
few_classes m e = let x = few_items 0 (omega arith) m e in omega arith
