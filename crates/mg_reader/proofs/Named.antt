-- The names of a metagrammar are the names of its lexemes, and the number of the category.
use Rattle.std.specs.Prelude.{ℕ, ◌<◌, List, [], ◌∷◌, ◌++◌, length, Option, Some, None, unwrap_or, Bool, false}
use Rattle.std.proofs.Common.{subst, sym, ap, arith}
use Rattle.std.proofs.lemmas.List.{length-append}
use Rattle.gr_base.specs.Lists.{Each, gathered}
use Rattle.gr_base.proofs.ListLemmas.{Each-left, Each-right, Each-append}
use Rattle.gr_terms.specs.declared.Sym.{Sym}
use Rattle.gr_terms.specs.declared.TheConstants.{CAT}
use Rattle.gr_symbols.specs.Numbers.{Grows, first_texts}
use Rattle.gr_symbols.proofs.NumberLemmas.{Names-within}
use Rattle.gr_tokens.specs.declared.Kind.{Kind as Cut}
use Rattle.gr_tokens.specs.declared.Kind.TheVariants.{Word, Str, Var, Punct}
use Rattle.gr_tokens.specs.declared.Token.{Token}
use Rattle.mg_syntax.specs.declared.body.Ref.{Ref}
use Rattle.mg_syntax.specs.declared.body.Side.{Side}
use Rattle.mg_syntax.specs.declared.body.Statement.TheVariants as statement
use Rattle.mg_syntax.specs.declared.body.Statement.TheOpen as layer
use Rattle.mg_syntax.specs.declared.block.Relate.{Relate}
use Rattle.mg_syntax.specs.declared.block.Kid.{Kid}
use Rattle.mg_syntax.specs.declared.item.Item.{Item}
use Rattle.mg_syntax.specs.Names.{if_some, one_name, ref_names, side_names, pair_names, bag_names, literal_names, block_names, kid_names, syn_item_names, statement_names, body_names, class_names, argument_names, header_names, item_names, all_names, HasTexts}
use Rattle.mg_syntax.proofs.Names.{block_names-roll, kid_names-roll, statement_names-roll}
use Rattle.mg_reader.specs.declared.lexeme.Kind.{Kind}
use Rattle.mg_reader.specs.declared.lexeme.Class.{Class as Kinds}
use Rattle.mg_reader.specs.declared.lexeme.Lexeme.{Lexeme}
use Rattle.mg_reader.specs.declared.found.Property.{Property}
use Rattle.mg_reader.specs.declared.found.Properties.{Properties}
use Rattle.mg_reader.specs.declared.found.Given.{Given}
use Rattle.mg_reader.specs.declared.found.Given.TheVariants as given
use Rattle.mg_reader.specs.declared.found.Feature.{Feature}
use Rattle.mg_reader.specs.declared.found.Feature.TheVariants as feature
use Rattle.mg_reader.specs.declared.found.Features.{Features}
use Rattle.mg_reader.specs.Answers.{IsMetagrammar}
use Rattle.mg_reader.specs.Lexemes.{HasName, EachIs}
use Rattle.mg_reader.specs.Values.{or_else, with_property, with_properties, no_properties, with_feature, with_features, no_features, category_pairs, node_with}
use Rattle.mg_reader.specs.Spelling.{Rule, Separated, LooselySeparated, Row, Maybe, Enclosed, MaybeEnclosed, Behind, Named, SpellsRef, SpellsMaybeRef, SpellsSide, SpellsPair, SpellsBag, SpellsArgs, SpellsLiteral, SpellsLiterals, SpellsProperty, SpellsFeature, SpellsDescent, SpellsLoose, SpellsNode, SpellsKids, SpellsMoreKids, SpellsKid, SpellsSynItem, Dimension, SpellsCall, SpellsBody, SpellsMoreAlternatives, SpellsAlternative, SpellsMoreStatements, SpellsStatement, SpellsClass, SpellsDomain, SpellsArgument, SpellsHeader, SpellsItem, Spells, last_separated, separated, last_loosely, loosely, side_by_side, last_in_row, in_row, nothing, something, within, not_enclosed, enclosed, no_word, behind_word, a_name, a_ref, a_dotted_ref, unnamed, named, a_side_name, a_variable, a_pair, a_bag, without_handle, with_handle, a_colour, a_mark, a_property, a_category, a_top, a_bottom, a_child, a_descent, not_loose, is_loose, a_node, no_kid_list, empty_kid_list, a_kid_list, no_more_kids, one_more_kid, a_kid, a_block, a_relation, a_dimension, a_call, empty_body, a_body, no_more_alternatives, one_more_alternative, an_alternative, no_more_statements, one_more_statement, a_group, a_call_statement, a_binding, an_equation, a_syn, a_sem, an_iface, a_class, any_value, these_values, a_flag, an_argument, a_domain, a_property_type, a_feature_type, a_principle, a_class_item, a_value_item, a_header_item}

module _ (Q : Sym → Type 0) (cat : Q CAT) where
  abbrev Have : List Lexeme → Type 0
  Have ts = Each (λ l. Q l.name) ts

  -- where Q holds of the name of each lexeme, it holds of each name of what a rule spells, and of those of the lexemes that are left
  abbrev Keeps : {A : Type 0} → Rule A → (A → List Sym) → Type 0
  Keeps {A} P f = (x : A) (ts rest : List Lexeme) → P x ts rest → Have ts → Each Q (f x) × Have rest

  both : {A : Type 0} (f : A → List Sym) (x : A) (xs : List A) (rest : List Lexeme) → Each Q (f x) → Each Q (gathered f xs) × Have rest → Each Q (gathered f (x ∷ xs)) × Have rest
  both f x xs rest a b = (Each-append Q (f x) (gathered f xs) a b.0, b.1)

  -- ROWS

  module _ {A : Type 0} (P : Rule A) (f : A → List Sym) (one : Keeps P f) where
    in_separated : (k : Kind) → Keeps (Separated k P) (gathered f)
    in_separated k _ ts rest (last_separated {x} s) h = let a = one x ts rest s h in both f x [] rest a.0 (tt, a.1)
    in_separated k _ ts rest (separated {x} {xs} {mid = mid} {s = between} s i more) h = let a = one x ts (between ∷ mid) s h in both f x xs rest a.0 (in_separated k xs mid rest more a.1.1)

    in_loosely : (k : Kind) → Keeps (LooselySeparated k P) (gathered f)
    in_loosely k _ ts rest (last_loosely {x} s) h = let a = one x ts rest s h in both f x [] rest a.0 (tt, a.1)
    in_loosely k _ ts rest (loosely {x} {xs} {mid = mid} {s = between} s i more) h = let a = one x ts (between ∷ mid) s h in both f x xs rest a.0 (in_loosely k xs mid rest more a.1.1)
    in_loosely k _ ts rest (side_by_side {x} {xs} {mid = mid} s more) h = let a = one x ts mid s h in both f x xs rest a.0 (in_loosely k xs mid rest more a.1)

    in_rows : Keeps (Row P) (gathered f)
    in_rows _ ts rest (last_in_row {x} s) h = let a = one x ts rest s h in both f x [] rest a.0 (tt, a.1)
    in_rows _ ts rest (in_row {x} {xs} {mid = mid} s more) h = let a = one x ts mid s h in both f x xs rest a.0 (in_rows xs mid rest more a.1)

  in_enclosed : {A : Type 0} (R : Rule A) (f : A → List Sym) → Keeps R f → (o c : Kind) → Keeps (Enclosed o c R) f
  in_enclosed R f one o c x _ rest (within {c = closing} {ts = ts} i s j) h = let a = one x ts (closing ∷ rest) s h.1 in (a.0, a.1.1)

  module _ {A : Type 0} (R : Rule (List A)) (f : A → List Sym) (one : Keeps R (gathered f)) where
    in_maybe : Keeps (Maybe R) (gathered f)
    in_maybe _ ts _ nothing h = (tt, h)
    in_maybe xs ts rest (something s) h = one xs ts rest s h

    in_maybe_enclosed : (o c : Kind) → Keeps (MaybeEnclosed o c R) (gathered f)
    in_maybe_enclosed o c _ ts _ not_enclosed h = (tt, h)
    in_maybe_enclosed o c xs ts rest (enclosed s) h = in_enclosed (Maybe R) (gathered f) in_maybe o c xs ts rest s h

    behind : (k : Kind) → Keeps (Behind k R) (gathered f)
    behind k _ ts _ no_word h = (tt, h)
    behind k xs _ rest (behind_word {ts = ts} i s) h = one xs ts rest s h.1

  in_dimension : {A : Type 0} (R : Rule A) (f : A → List Sym) → Keeps R f → (k : Kind) → Keeps (Dimension k R) f
  in_dimension R f one k x _ rest (a_dimension {ts = ts} i j g s) h = in_enclosed R f one _ _ x ts rest s h.1.1.1

  -- VALUES

  in_named : (c : Kinds) → Keeps (Named c) one_name
  in_named c _ _ _ (a_name i) h = ((h.0, tt), h.1)

  in_ref : Keeps SpellsRef ref_names
  in_ref _ _ _ (a_ref i) h = ((h.0, tt), h.1)
  in_ref _ _ _ (a_dotted_ref i j k) h = ((h.0, (h.1.1.0, tt)), h.1.1.1)

  in_maybe_ref : Keeps SpellsMaybeRef (if_some ref_names)
  in_maybe_ref _ ts _ unnamed h = (tt, h)
  in_maybe_ref _ ts rest (named {r} s) h = in_ref r ts rest s h

  in_side : Keeps SpellsSide side_names
  in_side _ _ _ (a_side_name i) h = ((h.0, tt), h.1)
  in_side _ ts rest (a_variable {r} s) h = in_ref r ts rest s h

  in_pair : Keeps SpellsPair pair_names
  in_pair _ _ rest (a_pair {v = v} {ts = ts} i j s) h = let a = in_side v ts rest s h.1.1 in ((h.0, a.0), a.1)

  in_bag : Keeps SpellsBag bag_names
  in_bag bag ts rest (a_bag once s) h = in_enclosed (Maybe (Separated _ SpellsPair)) (gathered pair_names) (in_maybe (Separated _ SpellsPair) pair_names (in_separated SpellsPair pair_names in_pair _)) _ _ bag ts rest s h

  in_args : Keeps SpellsArgs (gathered side_names)
  in_args args ts rest s h = in_enclosed (Maybe (LooselySeparated _ SpellsSide)) (gathered side_names) (in_maybe (LooselySeparated _ SpellsSide) side_names (in_loosely SpellsSide side_names in_side _)) _ _ args ts rest s h

  in_literal : Keeps SpellsLiteral literal_names
  in_literal _ ts rest (without_handle {p} {args} {mid = mid} s t) h =
      let a = in_side p ts mid s h in
      let b = in_args args mid rest t a.1 in
      (Each-append Q (side_names p) (gathered side_names args) a.0 b.0, b.1)
  in_literal _ ts rest (with_handle {h = first} {p} {args} {c} {mid = mid} {behind = after} s i t u) h =
      let a = in_side first ts (c ∷ mid) s h in
      let b = in_side p mid after t a.1.1 in
      let d = in_args args after rest u b.1 in
      (Each-append Q (side_names first ++ side_names p) (gathered side_names args) (Each-append Q (side_names first) (side_names p) a.0 b.0) d.0, d.1)

  in_literals : Keeps SpellsLiterals (gathered literal_names)
  in_literals = in_maybe (LooselySeparated _ SpellsLiteral) literal_names (in_loosely SpellsLiteral literal_names in_literal _)

  -- PROPERTIES AND FEATURES

  abbrev given_names : Lexeme → Given → List Sym
  given_names key (given.Paint c) = []
  given_names key (given.Value v) = key.name ∷ side_names v

  abbrev property_names : Property → List Sym
  property_names p = given_names p.key p.given

  in_property : Keeps SpellsProperty property_names
  in_property _ _ _ (a_colour i j k) h = (tt, h.1.1.1)
  in_property _ _ _ (a_mark i j k) h = ((h.0, (h.1.1.0, tt)), h.1.1.1)
  in_property _ _ rest (a_property {v = v} {ts = ts} i j s) h = let a = in_side v ts rest s h.1.1 in ((h.0, a.0), a.1)

  bags : (xs ys : List (Sym × Side)) → Each Q (bag_names xs) → Each Q (bag_names ys) → Each Q (bag_names (xs ++ ys))
  bags [] ys a b = b
  bags (x ∷ xs) ys a b = Each-append Q (pair_names x) (bag_names (xs ++ ys)) (Each-left Q (pair_names x) (bag_names xs) a) (bags xs ys (Each-right Q (pair_names x) (bag_names xs) a) b)

  one_property : (ps : Properties) (key : Lexeme) (g : Given) → Each Q (bag_names ps.own) → Each Q (given_names key g) → Each Q (bag_names (with_property ps (record { key = key; given = g })).own)
  one_property ps key (given.Paint c) a b = a
  one_property ps key (given.Value v) a b = bags ps.own ((key.name, v) ∷ []) a (Each-append Q (pair_names (key.name, v)) [] b tt)

  all_properties : (ps : Properties) (qs : List Property) → Each Q (bag_names ps.own) → Each Q (gathered property_names qs) → Each Q (bag_names (with_properties ps qs).own)
  all_properties ps [] a b = a
  all_properties ps (q ∷ qs) a b =
      all_properties (with_property ps q) qs (one_property ps q.key q.given a (Each-left Q (property_names q) (gathered property_names qs) b)) (Each-right Q (property_names q) (gathered property_names qs) b)

  abbrev feature_names : Feature → List Sym
  feature_names (feature.Category v) = side_names v
  feature_names (feature.Top b) = bag_names b
  feature_names (feature.Bottom b) = bag_names b

  in_feature : Keeps SpellsFeature feature_names
  in_feature _ _ rest (a_category {v = v} {ts = ts} i j s) h = in_side v ts rest s h.1.1
  in_feature _ _ rest (a_top {b = b} {ts = ts} i j s) h = in_bag b ts rest s h.1.1
  in_feature _ _ rest (a_bottom {b = b} {ts = ts} i j s) h = in_bag b ts rest s h.1.1

  record HaveFeatures (fs : Features) : Type 0 where
    category : Each Q (if_some side_names fs.category)
    top : Each Q (if_some bag_names fs.top)
    bottom : Each Q (if_some bag_names fs.bottom)

  or_one : {A : Type 0} (f : A → List Sym) (o : Option A) (x : A) → Each Q (if_some f o) → Each Q (f x) → Each Q (if_some f (or_else o (Some x)))
  or_one f None x a b = b
  or_one f (Some y) x a b = a

  one_feature : (fs : Features) (g : Feature) → HaveFeatures fs → Each Q (feature_names g) → HaveFeatures (with_feature fs g)
  one_feature fs (feature.Category v) a b = record { category = or_one side_names fs.category v a.category b; top = a.top; bottom = a.bottom }
  one_feature fs (feature.Top v) a b = record { category = a.category; top = or_one bag_names fs.top v a.top b; bottom = a.bottom }
  one_feature fs (feature.Bottom v) a b = record { category = a.category; top = a.top; bottom = or_one bag_names fs.bottom v a.bottom b }

  all_features : (fs : Features) (gs : List Feature) → HaveFeatures fs → Each Q (gathered feature_names gs) → HaveFeatures (with_features fs gs)
  all_features fs [] a b = a
  all_features fs (g ∷ gs) a b =
      all_features (with_feature fs g) gs (one_feature fs g a (Each-left Q (feature_names g) (gathered feature_names gs) b)) (Each-right Q (feature_names g) (gathered feature_names gs) b)

  categories : (o : Option Side) → Each Q (if_some side_names o) → Each Q (bag_names (category_pairs o))
  categories None h = tt
  categories (Some v) h = Each-append Q (CAT ∷ side_names v) [] (cat, h) tt

  unwrapped : (o : Option (List (Sym × Side))) → Each Q (if_some bag_names o) → Each Q (bag_names (unwrap_or o []))
  unwrapped None h = tt
  unwrapped (Some b) h = h

  -- BLOCKS

  behind_descent : (d : Relate) (ts rest : List Lexeme) → SpellsDescent d ts rest → Have ts → Have rest
  behind_descent _ ts _ a_child h = h
  behind_descent _ _ _ (a_descent i) h = h.1

  behind_loose : (b : Bool) (ts rest : List Lexeme) → SpellsLoose b ts rest → Have ts → Have rest
  behind_loose _ ts _ not_loose h = h
  behind_loose _ _ _ (is_loose i) h = h.1

  of_node : (name : Option Ref) (ps : Properties) (fs : Features) (kids : List Kid) → Each Q (if_some ref_names name) → Each Q (bag_names ps.own) → HaveFeatures fs → Each Q (gathered kid_names kids) → Each Q (block_names (node_with name ps fs kids))
  of_node name ps fs kids a b c d =
      let own = ps.own ++ category_pairs fs.category in
      let top = unwrap_or fs.top [] in
      let bottom = unwrap_or fs.bottom [] in
      let x = if_some ref_names name in
      subst (λ z. Each Q z) (sym (block_names-roll (record { name = name; colour = ps.colour; own = own; top = top; bot = bottom; kids = kids })))
      (Each-append Q (x ++ bag_names own ++ bag_names top ++ bag_names bottom) (gathered kid_names kids)
      (Each-append Q (x ++ bag_names own ++ bag_names top) (bag_names bottom)
      (Each-append Q (x ++ bag_names own) (bag_names top)
      (Each-append Q x (bag_names own) a (bags ps.own (category_pairs fs.category) b (categories fs.category c.category)))
      (unwrapped fs.top c.top))
      (unwrapped fs.bottom c.bottom))
      d)

  mutual
    in_node : Keeps SpellsNode block_names
    in_node _ _ rest (a_node {name = name} {ps = ps} {fs = fs} {kids = kids} {ts = ts} {behind_name = t1} {behind_properties = t2} {behind_features = t3} i r once p twice f k) h =
        let a = in_maybe_ref name ts t1 r h.1 in
        let b = in_maybe_enclosed (Separated _ SpellsProperty) property_names (in_separated SpellsProperty property_names in_property _) _ _ ps t1 t2 p a.1 in
        let c = in_maybe_enclosed (Separated _ SpellsFeature) feature_names (in_separated SpellsFeature feature_names in_feature _) _ _ fs t2 t3 f b.1 in
        let d = in_kids kids t3 rest k c.1 in
        (of_node name (with_properties no_properties ps) (with_features no_features fs) kids a.0 (all_properties no_properties ps tt b.0) (all_features no_features fs (record { category = tt; top = tt; bottom = tt }) c.0) d.0, d.1)

    in_kids : Keeps SpellsKids (gathered kid_names)
    in_kids _ ts _ no_kid_list h = (tt, h)
    in_kids _ _ _ (empty_kid_list i j) h = (tt, h.1.1)
    in_kids _ _ rest (a_kid_list {c = c} {k = k} {ks = ks} {ts = ts} {mid = mid} i s more j) h =
        let a = in_kid false k ts mid s h.1 in
        let b = in_more_kids ks mid (c ∷ rest) more a.1 in
        (Each-append Q (kid_names k) (gathered kid_names ks) a.0 b.0, b.1.1)

    in_more_kids : Keeps SpellsMoreKids (gathered kid_names)
    in_more_kids _ ts _ no_more_kids h = (tt, h)
    in_more_kids _ ts rest (one_more_kid {loose = loose} {k = k} {ks = ks} {behind_loose = t1} {mid = mid} l s more) h =
        let a = in_kid loose k t1 mid s (behind_loose loose ts t1 l h) in
        let b = in_more_kids ks mid rest more a.1 in
        (Each-append Q (kid_names k) (gathered kid_names ks) a.0 b.0, b.1)

    in_kid : (loose : Bool) → Keeps (SpellsKid loose) kid_names
    in_kid _ _ ts rest (a_kid {loose = loose} {down = down} {n = n} {mid = mid} d s) h =
        let a = in_node n mid rest s (behind_descent down ts mid d h) in
        (subst (λ z. Each Q z) (sym (kid_names-roll (record { down = down; loose = loose; node = n }))) a.0, a.1)

  in_syn_item : Keeps SpellsSynItem syn_item_names
  in_syn_item _ ts rest (a_block {n = n} s) h = in_node n ts rest s h
  in_syn_item _ ts rest (a_relation {a = x} {b = y} {o = o} {mid = mid} s i t) h =
      let a = in_ref x ts (o ∷ mid) s h in
      let b = in_ref y mid rest t a.1.1 in
      (Each-append Q (ref_names x) (ref_names y) a.0 b.0, b.1)

  -- STATEMENTS

  in_call : Keeps SpellsCall one_name
  in_call _ _ _ (a_call i j k) h = ((h.0, tt), h.1.1.1)

  mutual
    in_body : Keeps SpellsBody body_names
    in_body _ ts _ empty_body h = (tt, h)
    in_body _ ts rest (a_body {a = s} {as_rest = ss} {mid = mid} x y) h =
        both (gathered statement_names) s ss rest (in_alternative s ts mid x h).0 (in_alternatives ss mid rest y (in_alternative s ts mid x h).1)

    in_alternatives : Keeps SpellsMoreAlternatives body_names
    in_alternatives _ ts _ no_more_alternatives h = (tt, h)
    in_alternatives _ _ rest (one_more_alternative {a = s} {as_rest = ss} {ts = ts} {mid = mid} i x y) h =
        both (gathered statement_names) s ss rest (in_alternative s ts mid x h.1).0 (in_alternatives ss mid rest y (in_alternative s ts mid x h.1).1)

    in_alternative : Keeps SpellsAlternative (gathered statement_names)
    in_alternative _ ts rest (an_alternative {s} {ss} {mid = mid} x y) h =
        both statement_names s ss rest (in_statement s ts mid x h).0 (in_statements ss mid rest y (in_statement s ts mid x h).1)

    in_statements : Keeps SpellsMoreStatements (gathered statement_names)
    in_statements _ ts _ no_more_statements h = (tt, h)
    in_statements _ _ rest (one_more_statement {s} {ss} {ts = ts} {mid = mid} i x y) h =
        both statement_names s ss rest (in_statement s ts mid x h.1).0 (in_statements ss mid rest y (in_statement s ts mid x h.1).1)

    in_statement : Keeps SpellsStatement statement_names
    in_statement _ _ rest (a_group {c = c} {b = b} {ts = ts} i s j) h =
        let a = in_body b ts (c ∷ rest) s h.1 in
        (subst (λ z. Each Q z) (sym (statement_names-roll (layer.Group b) (statement.Group b) (statement.rolls-Group b))) a.0, a.1.1)
    in_statement _ ts rest (a_call_statement {n} s) h =
        let a = in_call n ts rest s h in
        (subst (λ z. Each Q z) (sym (statement_names-roll (layer.Call n) (statement.Call n) (statement.rolls-Call n))) a.0, a.1)
    in_statement _ _ rest (a_binding {x} {e} {n} {ts = ts} i j s) h =
        let a = in_call n ts rest s h.1.1 in
        (subst (λ z. Each Q z) (sym (statement_names-roll (layer.Bind x.name n) (statement.Bind x.name n) (statement.rolls-Bind x.name n))) (h.0, a.0), a.1)
    in_statement _ ts rest (an_equation {r} {e} {v} {mid = mid} s i t) h =
        let a = in_ref r ts (e ∷ mid) s h in
        let b = in_side v mid rest t a.1.1 in
        (subst (λ z. Each Q z) (sym (statement_names-roll (layer.Equation r v) (statement.Equation r v) (statement.rolls-Equation r v))) (Each-append Q (ref_names r) (side_names v) a.0 b.0), b.1)
    in_statement _ ts rest (a_syn {items} s) h =
        let R = Separated _ SpellsSynItem in
        let a = in_dimension (Maybe R) (gathered syn_item_names) (in_maybe R syn_item_names (in_separated SpellsSynItem syn_item_names in_syn_item _)) _ items ts rest s h in
        (subst (λ z. Each Q z) (sym (statement_names-roll (layer.Syn items) (statement.Syn items) (statement.rolls-Syn items))) a.0, a.1)
    in_statement _ ts rest (a_sem {ls} s) h =
        let a = in_dimension SpellsLiterals (gathered literal_names) in_literals _ ls ts rest s h in
        (subst (λ z. Each Q z) (sym (statement_names-roll (layer.Sem ls) (statement.Sem ls) (statement.rolls-Sem ls))) a.0, a.1)
    in_statement _ ts rest (an_iface {b} s) h =
        let a = in_dimension SpellsBag bag_names in_bag _ b ts rest s h in
        (subst (λ z. Each Q z) (sym (statement_names-roll (layer.Iface b) (statement.Iface b) (statement.rolls-Iface b))) a.0, a.1)

  -- ITEMS

  each_one : (xs : List Sym) → Each Q (gathered one_name xs) → Each Q xs
  each_one [] h = tt
  each_one (x ∷ xs) h = (h.0, each_one xs h.1)

  in_variables : (c : Kinds) → Keeps (Row (Named c)) (gathered one_name)
  in_variables c = in_rows (Named c) one_name (in_named c)

  in_class : Keeps SpellsClass class_names
  in_class _ _ rest (a_class {n = n} {imports = imports} {exports = exports} {declares = declares} {body = body} {ts = ts} {behind_imports = t1} {behind_exports = t2} {behind_declares = t3} i j x y z b) h =
      let a1 = behind (Row SpellsCall) one_name (in_rows SpellsCall one_name in_call) _ imports ts t1 x h.1.1 in
      let a2 = behind (Row (Named _)) one_name (in_variables _) _ exports t1 t2 y a1.1 in
      let a3 = behind (Row (Named _)) one_name (in_variables _) _ declares t2 t3 z a2.1 in
      let a4 = in_enclosed SpellsBody body_names in_body _ _ body t3 rest b a3.1 in (
        (
          h.1.0,
          Each-append Q (imports ++ exports ++ declares) (body_names body)
              (Each-append Q (imports ++ exports) declares (Each-append Q imports exports (each_one imports a1.0) (each_one exports a2.0)) (each_one declares a3.0)) a4.0,
        ),
        a4.1,
      )

  in_domain : Keeps SpellsDomain (if_some (λ names. names))
  in_domain _ _ _ (any_value i) h = (tt, h.1)
  in_domain _ _ rest (these_values {names = names} {ts = ts} i s) h =
      let a = in_enclosed (Separated _ (Named _)) (gathered one_name) (in_separated (Named _) one_name (in_named _) _) _ _ names ts rest s h.1 in
      (each_one names a.0, a.1)

  in_argument : Keeps SpellsArgument argument_names
  in_argument _ _ _ (a_flag i) h = ((h.0, tt), h.1)
  in_argument _ _ _ (an_argument i j k) h = ((h.0, (h.1.1.0, tt)), h.1.1.1)

  in_header : Keeps SpellsHeader header_names
  in_header _ _ rest (a_domain {d = d} {ts = ts} i j s) h = let a = in_domain d ts rest s h.1.1 in ((h.1.0, a.0), a.1)
  in_header _ _ _ (a_property_type i j k l) h = ((h.1.0, (h.1.1.1.0, tt)), h.1.1.1.1)
  in_header _ _ _ (a_feature_type i j k l) h = ((h.1.0, (h.1.1.1.0, tt)), h.1.1.1.1)
  in_header _ _ rest (a_principle {d = d} {o = o} {dim = dim} {c = c} {args = args} {ts = ts} i j k s l m n q) h =
      let R = Separated _ SpellsArgument in
      let a = in_enclosed (Maybe R) (gathered argument_names) (in_maybe R argument_names (in_separated SpellsArgument argument_names in_argument _)) _ _ args ts (d ∷ o ∷ dim ∷ c ∷ rest) s h.1.1.1 in
      ((h.1.0, Each-append Q (gathered argument_names args) (dim.name ∷ []) a.0 (a.1.1.1.0, tt)), a.1.1.1.1.1)

  in_item : Keeps SpellsItem item_names
  in_item _ ts rest (a_class_item {c} s) h = in_class c ts rest s h
  in_item _ _ _ (a_value_item i j) h = ((h.1.0, tt), h.1.1)
  in_item _ ts rest (a_header_item {h = header} s) h = in_header header ts rest s h

  pub in_metagrammar : (m : List Item) (ts : List Lexeme) → Spells m ts → Have ts → Each Q (all_names m)
  in_metagrammar m ts s h = (in_maybe (Row SpellsItem) item_names (in_rows SpellsItem item_names in_item) m ts [] s h).0

module _ (texts later : List (List ℕ)) (first : Grows first_texts texts) (grows : Grows texts later) where
  longer : (n : ℕ) → n < length texts → n < length later
  longer n h = omega (arith, h, ap (λ z. length z) grows.1, length-append texts grows.0)

  started : (n : ℕ) → n < 10 → n < length later
  started n h = longer n (omega (arith, h, ap (λ z. length z) first.1, length-append first_texts first.0))

  abbrev Has : Sym → Type 0
  Has x = x.0 < length later

  lexeme_has : (cut : Cut) (text : List ℕ) (s : Sym) → HasName texts cut text s → Has s
  lexeme_has Word text s h = longer s.0 (Names-within texts s.0 text h)
  lexeme_has Str text s h = longer s.0 (Names-within texts s.0 text h)
  lexeme_has Var text s h = longer s.0 (Names-within texts s.0 text h)
  lexeme_has Punct text s h = subst (λ (z : Sym). Has z) (sym h) (started 9 (omega arith))

  lexemes_have : (bytes : List ℕ) (ts : List Token) (ls : List Lexeme) → EachIs bytes texts ts ls → Each (λ l. Has l.name) ls
  lexemes_have bytes [] [] e = tt
  lexemes_have bytes [] (l ∷ ls) e = absurd e
  lexemes_have bytes (t ∷ ts) [] e = absurd e
  lexemes_have bytes (t ∷ ts) (l ∷ ls) e = (lexeme_has t.kind e.0.text l.name e.0.named, lexemes_have bytes ts ls e.1)

  pub names_have_texts : (bytes : List ℕ) (m : List Item) → IsMetagrammar bytes texts m → HasTexts later m
  names_have_texts bytes m g = in_metagrammar Has (started 0 (omega arith)) m g.lexemes g.spelled (lexemes_have bytes g.are.tokens g.lexemes g.are.each)
