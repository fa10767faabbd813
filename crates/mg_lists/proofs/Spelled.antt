-- What lexemes spell can be written: pairs, literals, blocks and statements, and which lexemes spell the statements of a class.
use Rattle.std.specs.Prelude.{◌≡◌, ℕ, ◌<◌, ◌≤◌, List, [], ◌∷◌, ◌++◌, map, length, Option, Some, None, unwrap_or, ⊤}
use Rattle.std.proofs.Common.{ap, sym, ◌∙◌, subst, arith}
use Rattle.gr_base.specs.Lists.{Each}
use Rattle.gr_base.proofs.ListLemmas.{Each-append}
use Rattle.gr_terms.specs.declared.Sym.{Sym}
use Rattle.mg_syntax.specs.declared.body.Ref.{Ref}
use Rattle.mg_syntax.specs.declared.body.Side.{Side}
use Rattle.mg_syntax.specs.declared.body.Statement.{Statement, roll-Statement, out-Statement, out-roll-Statement}
use Rattle.mg_syntax.specs.declared.body.Statement.TheVariants as statement
use Rattle.mg_syntax.specs.declared.body.Statement.TheOpen as open_statement
use Rattle.mg_syntax.specs.declared.body.Statement.TheOpen.{Statement-F}
use Rattle.mg_syntax.specs.declared.block.Relate.{Relate}
use Rattle.mg_syntax.specs.declared.block.NodeBlock.{NodeBlock, NodeBlock-F, fold-roll-NodeBlock}
use Rattle.mg_syntax.specs.declared.block.Kid.{Kid, Kid-F, fold-Kid, fold-roll-Kid}
use Rattle.mg_syntax.specs.declared.item.Class.{Class}
use Rattle.mg_syntax.specs.declared.item.Header.{Header}
use Rattle.mg_syntax.specs.declared.item.Item.{Item}
use Rattle.mg_syntax.specs.declared.item.Item.TheVariants as item
use Rattle.mg_reader.specs.declared.lexeme.Class.{Class as Kinds}
use Rattle.mg_reader.specs.declared.lexeme.Class.TheVariants as of
use Rattle.mg_reader.specs.declared.lexeme.Kind.{Kind}
use Rattle.mg_reader.specs.declared.lexeme.Kind.TheVariants as kind
use Rattle.mg_reader.specs.declared.lexeme.Lexeme.{Lexeme}
use Rattle.mg_reader.specs.declared.found.Property.{Property}
use Rattle.mg_reader.specs.declared.found.Properties.{Properties}
use Rattle.mg_reader.specs.declared.found.Given.{Given}
use Rattle.mg_reader.specs.declared.found.Given.TheVariants as given
use Rattle.mg_reader.specs.declared.found.Feature.{Feature}
use Rattle.mg_reader.specs.declared.found.Feature.TheVariants as feature
use Rattle.mg_reader.specs.declared.found.Features.{Features}
use Rattle.mg_reader.specs.Kinds.{kind_number}
use Rattle.mg_reader.specs.Values.{or_else, with_property, with_properties, no_properties, with_feature, with_features, no_features, category_pairs, node_with}
use Rattle.mg_reader.specs.Spelling.{Rule, Separated, last_separated, separated, LooselySeparated, last_loosely, loosely, side_by_side, Row, last_in_row, in_row, Maybe, nothing, something, Enclosed, within, MaybeEnclosed, not_enclosed, enclosed, Behind, no_word, behind_word, Named, a_name, SpellsRef, a_ref, a_dotted_ref, SpellsMaybeRef, unnamed, named, SpellsSide, a_side_name, a_variable, SpellsPair, a_pair, SpellsBag, a_bag, SpellsArgs, SpellsLiteral, without_handle, with_handle, SpellsLiterals, SpellsProperty, a_colour, a_mark, a_property, SpellsFeature, a_category, a_top, a_bottom, SpellsDescent, a_child, a_descent, SpellsLoose, not_loose, is_loose, SpellsNode, a_node, SpellsKids, no_kid_list, empty_kid_list, a_kid_list, SpellsMoreKids, no_more_kids, one_more_kid, SpellsKid, a_kid, SpellsSynItem, a_block, a_relation, Dimension, a_dimension, SpellsCall, a_call, SpellsBody, empty_body, a_body, SpellsMoreAlternatives, no_more_alternatives, one_more_alternative, SpellsAlternative, an_alternative, SpellsMoreStatements, no_more_statements, one_more_statement, SpellsStatement, a_group, a_call_statement, a_binding, an_equation, a_syn, a_sem, an_iface, SpellsClass, a_class, SpellsDomain, any_value, these_values, SpellsArgument, a_flag, an_argument, SpellsHeader, a_domain, a_property_type, a_feature_type, a_principle, SpellsItem, a_class_item, a_value_item, a_header_item}
use Rattle.mg_reader.proofs.Real.{IsReal}
use Rattle.mg_reader.proofs.KindLists.{in_range}
use Rattle.mg_deeds.specs.Blocks.{KidBlock, Block, kids_of, kid_step, block_step, block_of}
use Rattle.mg_expand.specs.Walks.{Task, a_call as calls, a_choice, a_deed, task_in, task_of}
use Rattle.td_canon.specs.CanonicalTexts.{text_in}
use Rattle.tg_reader.specs.Writable.{IsTable, IsWord}
use Rattle.mg_lists.proofs.Names.{category_is_word, category_uncoloured, marker_is_mark, mark_uncoloured, property_no_mark, property_uncoloured, real_is_name, real_is_word, real_within}
use Rattle.mg_lists.proofs.Sayings.{IsFineSide, IsFinePair, IsFineOwn, IsFineHandle, IsFineLiteral, AreFineKids, IsFineBlock, IsFineItem, IsFineDeed}

module _ (texts : List (List ℕ)) where
  abbrev AreReal : List Lexeme → Type 0
  AreReal ts = Each (IsReal texts) ts

  -- what is spelled by lexemes that were read has the property, and what is left was read too
  abbrev Gives : {A : Type 0} → Rule A → (A → Type 0) → Type 0
  Gives {A} R Q = (x : A) (ts rest : List Lexeme) → AreReal ts → R x ts rest → Q x × AreReal rest

  -- lexemes that were read spell it
  abbrev pub IsSpelled : {A : Type 0} → Rule A → A → Type 0
  IsSpelled R x = (ts rest : List Lexeme) × R x ts rest × AreReal ts

  abbrev pub IsSpelledStatement : Statement → Type 0
  IsSpelledStatement s = IsSpelled SpellsStatement s

  -- what is before a walk: a body that is spelled, or a deed that can be written
  abbrev pub IsFineTask : Task → Type 0
  IsFineTask (calls how c) = ⊤
  IsFineTask (a_choice b) = IsSpelled SpellsBody b
  IsFineTask (a_deed d) = IsFineDeed texts d

  -- the class is named by a word, and its body is spelled
  pub record IsFineClass (k : Class) : Type 0 where
    pub named : k.name.0 < length texts
    pub word : IsWord (text_in texts k.name.0)
    pub body : IsSpelled SpellsBody k.body

  abbrev pub IsKnownItem : Item → Type 0
  IsKnownItem (item.Class k) = IsFineClass k
  IsKnownItem (item.Value v) = ⊤
  IsKnownItem (item.Header h) = ⊤

  -- ---- rows and brackets

  separated_gives : {A : Type 0} (k : Kind) (P : Rule A) (Q : A → Type 0) → Gives P Q → Gives (Separated k P) (Each Q)
  separated_gives k P Q one _ ts rest real (last_separated {x} p) = let r = one x ts rest real p in ((r.0, tt), r.1)
  separated_gives k P Q one _ ts rest real (separated {x} {xs} {mid} {s} p i more) =
      let r = one x ts (s ∷ mid) real p in
      let q = separated_gives k P Q one xs mid rest r.1.1 more in ((r.0, q.0), q.1)

  loosely_gives : {A : Type 0} (k : Kind) (P : Rule A) (Q : A → Type 0) → Gives P Q → Gives (LooselySeparated k P) (Each Q)
  loosely_gives k P Q one _ ts rest real (last_loosely {x} p) = let r = one x ts rest real p in ((r.0, tt), r.1)
  loosely_gives k P Q one _ ts rest real (loosely {x} {xs} {mid} {s} p i more) =
      let r = one x ts (s ∷ mid) real p in
      let q = loosely_gives k P Q one xs mid rest r.1.1 more in ((r.0, q.0), q.1)
  loosely_gives k P Q one _ ts rest real (side_by_side {x} {xs} {mid} p more) =
      let r = one x ts mid real p in
      let q = loosely_gives k P Q one xs mid rest r.1 more in ((r.0, q.0), q.1)

  row_gives : {A : Type 0} (P : Rule A) (Q : A → Type 0) → Gives P Q → Gives (Row P) (Each Q)
  row_gives P Q one _ ts rest real (last_in_row {x} p) = let r = one x ts rest real p in ((r.0, tt), r.1)
  row_gives P Q one _ ts rest real (in_row {x} {xs} {mid} p more) =
      let r = one x ts mid real p in
      let q = row_gives P Q one xs mid rest r.1 more in ((r.0, q.0), q.1)

  maybe_gives : {A : Type 0} (R : Rule (List A)) (Q : A → Type 0) → Gives R (Each Q) → Gives (Maybe R) (Each Q)
  maybe_gives R Q one _ ts _ real nothing = (tt, real)
  maybe_gives R Q one xs ts rest real (something p) = one xs ts rest real p

  enclosed_gives : {A : Type 0} (opening closing : Kind) (R : Rule A) (Q : A → Type 0) → Gives R Q → Gives (Enclosed opening closing R) Q
  enclosed_gives opening closing R Q one x _ rest real (within {o} {c} {ts} i p j) = let r = one x ts (c ∷ rest) real.1 p in (r.0, r.1.1)

  maybe_enclosed_gives : {A : Type 0} (opening closing : Kind) (R : Rule (List A)) (Q : A → Type 0) → Gives R (Each Q) → Gives (MaybeEnclosed opening closing R) (Each Q)
  maybe_enclosed_gives opening closing R Q one _ ts _ real not_enclosed = (tt, real)
  maybe_enclosed_gives opening closing R Q one xs ts rest real (enclosed p) = enclosed_gives opening closing (Maybe R) (Each Q) (maybe_gives R Q one) xs ts rest real p

  behind_gives : {A : Type 0} (k : Kind) (R : Rule (List A)) (Q : A → Type 0) → Gives R (Each Q) → Gives (Behind k R) (Each Q)
  behind_gives k R Q one _ ts _ real no_word = (tt, real)
  behind_gives k R Q one xs _ rest real (behind_word {w} {ts} i p) = one xs ts rest real.1 p

  dimension_gives : {A : Type 0} (k : Kind) (R : Rule A) (Q : A → Type 0) → Gives R Q → Gives (Dimension k R) Q
  dimension_gives k R Q one x _ rest real (a_dimension {l} {w} {g} {ts} i j h p) = enclosed_gives kind.LeftBrace kind.RightBrace R Q one x ts rest real.1.1.1 p

  -- ---- values

  ref_left : (r : Ref) (ts rest : List Lexeme) → AreReal ts → SpellsRef r ts rest → AreReal rest
  ref_left _ _ _ real (a_ref i) = real.1
  ref_left _ _ _ real (a_dotted_ref i j k) = real.1.1.1

  maybe_ref_left : (r : Option Ref) (ts rest : List Lexeme) → AreReal ts → SpellsMaybeRef r ts rest → AreReal rest
  maybe_ref_left _ _ _ real unnamed = real
  maybe_ref_left _ ts rest real (named {r} p) = ref_left r ts rest real p

  side_gives : Gives SpellsSide (IsFineSide texts)
  side_gives _ _ _ real (a_side_name {t} i) = (real_is_name texts t real.0 (in_range of.Name t i).0, real.1)
  side_gives _ ts rest real (a_variable {r} p) = (tt, ref_left r ts rest real p)

  pair_gives : Gives SpellsPair (IsFinePair texts)
  pair_gives _ _ rest real (a_pair {a} {e} {v} {ts} i j p) =
      let r = side_gives v ts rest real.1.1 p in
      (record { attribute = real_is_word texts a real.0 (in_range of.Word a i).0; value = r.0 }, r.1)

  bag_gives : Gives SpellsBag (Each (IsFinePair texts))
  bag_gives ps ts rest real (a_bag once p) =
      enclosed_gives kind.LeftBracket kind.RightBracket (Maybe (Separated kind.Comma SpellsPair)) (Each (IsFinePair texts))
      (maybe_gives (Separated kind.Comma SpellsPair) (IsFinePair texts) (separated_gives kind.Comma SpellsPair (IsFinePair texts) pair_gives)) ps ts rest real p

  args_gives : Gives SpellsArgs (Each (IsFineSide texts))
  args_gives args ts rest real p =
      enclosed_gives kind.LeftParen kind.RightParen (Maybe (LooselySeparated kind.Comma SpellsSide)) (Each (IsFineSide texts))
      (maybe_gives (LooselySeparated kind.Comma SpellsSide) (IsFineSide texts) (loosely_gives kind.Comma SpellsSide (IsFineSide texts) side_gives)) args ts rest real p

  literal_gives : Gives SpellsLiteral (IsFineLiteral texts)
  literal_gives _ ts rest real (without_handle {p} {args} {mid} s a) =
      let r = side_gives p ts mid real s in
      let q = args_gives args mid rest r.1 a in
      (record { handle = tt; pred = r.0; args = q.0 }, q.1)
  literal_gives _ ts rest real (with_handle {h} {p} {args} {c} {mid} {behind} s i t a) =
      let o = side_gives h ts (c ∷ mid) real s in
      let r = side_gives p mid behind o.1.1 t in
      let q = args_gives args behind rest r.1 a in
      (record { handle = o.0; pred = r.0; args = q.0 }, q.1)

  literals_gives : Gives SpellsLiterals (Each (IsFineLiteral texts))
  literals_gives = maybe_gives (LooselySeparated kind.Semicolon SpellsLiteral) (IsFineLiteral texts) (loosely_gives kind.Semicolon SpellsLiteral (IsFineLiteral texts) literal_gives)

  -- ---- blocks

  module _ (table : IsTable texts) where
    -- a value that is given stands beside its attribute
    abbrev IsFineGiven : Sym → Given → Type 0
    IsFineGiven k (given.Paint c) = ⊤
    IsFineGiven k (given.Value v) = IsFineOwn texts (k, v)

    abbrev IsFineProperty : Property → Type 0
    IsFineProperty p = IsFineGiven p.key.name p.given

    property_gives : Gives SpellsProperty IsFineProperty
    property_gives _ _ _ real (a_colour i j k) = (tt, real.1.1.1)
    property_gives _ _ _ real (a_mark {k} {e} {m} i j h) = (
      record {
        pair = record { attribute = real_is_word texts k real.0 (omega (arith, (in_range (of.Is kind.Mark) k i).0)); value = real_is_name texts m real.1.1.0 (omega (arith, (in_range of.Marker m h).0)) };
        uncoloured = mark_uncoloured texts table k real.0 i;
        mark = λ e. marker_is_mark texts table m real.1.1.0 h;
      },
      real.1.1.1,
    )
    property_gives _ _ rest real (a_property {k} {e} {v} {ts} i j p) =
        let r = side_gives v ts rest real.1.1 p in (
          record {
            pair = record { attribute = real_is_word texts k real.0 (in_range of.Property k i).0; value = r.0 };
            uncoloured = property_uncoloured texts table k real.0 i;
            mark = λ e. absurd (property_no_mark texts table k real.0 i e);
          },
          r.1,
        )

    one_property : (r : Properties) (k : Lexeme) (g : Given) → Each (IsFineOwn texts) r.own → IsFineGiven k.name g → Each (IsFineOwn texts) (with_property r (record { key = k; given = g })).own
    one_property r k (given.Paint c) own h = own
    one_property r k (given.Value v) own h = Each-append (IsFineOwn texts) r.own ((k.name, v) ∷ []) own (h, tt)

    all_properties : (r : Properties) (ps : List Property) → Each (IsFineOwn texts) r.own → Each IsFineProperty ps → Each (IsFineOwn texts) (with_properties r ps).own
    all_properties r [] own h = own
    all_properties r (p ∷ ps) own h = all_properties (with_property r p) ps (one_property r p.key p.given own h.0) h.1

    abbrev IsFineFeature : Feature → Type 0
    IsFineFeature (feature.Category v) = IsFineSide texts v
    IsFineFeature (feature.Top b) = Each (IsFinePair texts) b
    IsFineFeature (feature.Bottom b) = Each (IsFinePair texts) b

    feature_gives : Gives SpellsFeature IsFineFeature
    feature_gives _ _ rest real (a_category {k} {e} {v} {ts} i j p) = side_gives v ts rest real.1.1 p
    feature_gives _ _ rest real (a_top {k} {e} {b} {ts} i j p) = bag_gives b ts rest real.1.1 p
    feature_gives _ _ rest real (a_bottom {k} {e} {b} {ts} i j p) = bag_gives b ts rest real.1.1 p

    abbrev IsFineMaybe : Option (List (Sym × Side)) → Type 0
    IsFineMaybe None = ⊤
    IsFineMaybe (Some b) = Each (IsFinePair texts) b

    record AreFineFeatures (fs : Features) : Type 0 where
      pub category : IsFineHandle texts fs.category
      pub top : IsFineMaybe fs.top
      pub bottom : IsFineMaybe fs.bottom

    first_side : (a : Option Side) (v : Side) → IsFineHandle texts a → IsFineSide texts v → IsFineHandle texts (or_else a (Some v))
    first_side None v a h = h
    first_side (Some w) v a h = a

    first_bag : (a : Option (List (Sym × Side))) (b : List (Sym × Side)) → IsFineMaybe a → Each (IsFinePair texts) b → IsFineMaybe (or_else a (Some b))
    first_bag None b a h = h
    first_bag (Some c) b a h = a

    one_feature : (fs : Features) (f : Feature) → AreFineFeatures fs → IsFineFeature f → AreFineFeatures (with_feature fs f)
    one_feature fs (feature.Category v) a h = record { category = first_side fs.category v a.category h; top = a.top; bottom = a.bottom }
    one_feature fs (feature.Top b) a h = record { category = a.category; top = first_bag fs.top b a.top h; bottom = a.bottom }
    one_feature fs (feature.Bottom b) a h = record { category = a.category; top = a.top; bottom = first_bag fs.bottom b a.bottom h }

    all_features : (fs : Features) (gs : List Feature) → AreFineFeatures fs → Each IsFineFeature gs → AreFineFeatures (with_features fs gs)
    all_features fs [] a h = a
    all_features fs (g ∷ gs) a h = all_features (with_feature fs g) gs (one_feature fs g a h.0) h.1

    category_fine : (c : Option Side) → IsFineHandle texts c → Each (IsFineOwn texts) (category_pairs c)
    category_fine None h = tt
    category_fine (Some v) h = (
      record { pair = record { attribute = category_is_word texts table; value = h }; uncoloured = category_uncoloured texts table; mark = λ e. absurd (omega (arith, e)) },
      tt,
    )

    maybe_fine : (o : Option (List (Sym × Side))) → IsFineMaybe o → Each (IsFinePair texts) (unwrap_or o [])
    maybe_fine None h = tt
    maybe_fine (Some b) h = h

    abbrev kid_block : Kid → KidBlock
    kid_block = fold-Kid KidBlock Block kid_step block_step

    abbrev IsFineKid : Kid → Type 0
    IsFineKid k = IsFineBlock texts (kid_block k).block

    kids_fine : (ks : List Kid) → Each IsFineKid ks → AreFineKids texts (kids_of (map kid_block ks))
    kids_fine [] h = tt
    kids_fine (k ∷ ks) h = (h.0.0, h.0.1, kids_fine ks h.1)

    block_fine : (name : Option Ref) (r : Properties) (fs : Features) (ks : List Kid) → Each (IsFineOwn texts) r.own → AreFineFeatures fs → Each IsFineKid ks → IsFineBlock texts (block_of (node_with name r fs ks))
    block_fine name r fs ks own features kids =
        let x : NodeBlock-F Kid NodeBlock = record { name = name; colour = r.colour; own = r.own ++ category_pairs fs.category; top = unwrap_or fs.top []; bot = unwrap_or fs.bottom []; kids = ks } in
        subst (λ (b : Block). IsFineBlock texts b) (sym (fold-roll-NodeBlock KidBlock Block kid_step block_step x)) (
          record {
            own = Each-append (IsFineOwn texts) r.own (category_pairs fs.category) own (category_fine fs.category features.category);
            top = maybe_fine fs.top features.top;
            bottom = maybe_fine fs.bottom features.bottom;
          },
          kids_fine ks kids,
        )

    descent_left : (d : Relate) (ts rest : List Lexeme) → AreReal ts → SpellsDescent d ts rest → AreReal rest
    descent_left _ _ _ real a_child = real
    descent_left _ _ _ real (a_descent i) = real.1

    loose_left : (b : _) (ts rest : List Lexeme) → AreReal ts → SpellsLoose b ts rest → AreReal rest
    loose_left _ _ _ real not_loose = real
    loose_left _ _ _ real (is_loose i) = real.1

    mutual
      node_gives : (n : NodeBlock) (ts rest : List Lexeme) → AreReal ts → SpellsNode n ts rest → IsFineBlock texts (block_of n) × AreReal rest
      node_gives _ _ rest real (a_node {w} {name} {ps} {fs} {kids} {ts} {behind_name} {behind_properties} {behind_features} i n once p again f k) =
          let r0 = maybe_ref_left name ts behind_name real.1 n in
          let r1 = maybe_enclosed_gives kind.LeftParen kind.RightParen (Separated kind.Comma SpellsProperty) IsFineProperty (separated_gives kind.Comma SpellsProperty IsFineProperty property_gives) ps behind_name behind_properties r0 p in
          let r2 = maybe_enclosed_gives kind.LeftBracket kind.RightBracket (Separated kind.Comma SpellsFeature) IsFineFeature (separated_gives kind.Comma SpellsFeature IsFineFeature feature_gives) fs behind_properties behind_features r1.1 f in
          let r3 = kids_gives kids behind_features rest r2.1 k in (
            block_fine name (with_properties no_properties ps) (with_features no_features fs) kids
                (all_properties no_properties ps tt r1.0) (all_features no_features fs (record { category = tt; top = tt; bottom = tt }) r2.0) r3.0,
            r3.1,
          )

      kids_gives : (ks : List Kid) (ts rest : List Lexeme) → AreReal ts → SpellsKids ks ts rest → Each IsFineKid ks × AreReal rest
      kids_gives _ _ _ real no_kid_list = (tt, real)
      kids_gives _ _ _ real (empty_kid_list i j) = (tt, real.1.1)
      kids_gives _ _ rest real (a_kid_list {o} {c} {k} {ks} {ts} {mid} i p q j) =
          let r = kid_gives _ k ts mid real.1 p in
          let s = more_kids_gives ks mid (c ∷ rest) r.1 q in ((r.0, s.0), s.1.1)

      more_kids_gives : (ks : List Kid) (ts rest : List Lexeme) → AreReal ts → SpellsMoreKids ks ts rest → Each IsFineKid ks × AreReal rest
      more_kids_gives _ _ _ real no_more_kids = (tt, real)
      more_kids_gives _ ts rest real (one_more_kid {loose} {k} {ks} {behind_loose} {mid} l p q) =
          let r0 = loose_left loose ts behind_loose real l in
          let r = kid_gives loose k behind_loose mid r0 p in
          let s = more_kids_gives ks mid rest r.1 q in ((r.0, s.0), s.1)

      kid_gives : (loose : _) (k : Kid) (ts rest : List Lexeme) → AreReal ts → SpellsKid loose k ts rest → IsFineKid k × AreReal rest
      kid_gives _ _ ts rest real (a_kid {loose} {down} {n} {mid} d p) =
          let r0 = descent_left down ts mid real d in
          let r = node_gives n mid rest r0 p in
          let x : Kid-F Kid NodeBlock = record { down = down; loose = loose; node = n } in
          (subst (λ (k : KidBlock). IsFineBlock texts k.block) (sym (fold-roll-Kid KidBlock Block kid_step block_step x)) r.0, r.1)

    item_gives : Gives SpellsSynItem (IsFineItem texts)
    item_gives _ ts rest real (a_block {n} p) = node_gives n ts rest real p
    item_gives _ ts rest real (a_relation {a} {b} {o} {mid} p i q) = (tt, ref_left b mid rest (ref_left a ts (o ∷ mid) real p).1 q)

    -- ---- statements

    call_left : (c : Sym) (ts rest : List Lexeme) → AreReal ts → SpellsCall c ts rest → AreReal rest
    call_left _ _ _ real (a_call i j k) = real.1.1.1

    syn_gives : Gives (Dimension kind.Syn (Maybe (Separated kind.Semicolon SpellsSynItem))) (Each (IsFineItem texts))
    syn_gives = dimension_gives kind.Syn (Maybe (Separated kind.Semicolon SpellsSynItem)) (Each (IsFineItem texts))
        (maybe_gives (Separated kind.Semicolon SpellsSynItem) (IsFineItem texts) (separated_gives kind.Semicolon SpellsSynItem (IsFineItem texts) item_gives))

    sem_gives : Gives (Dimension kind.Sem SpellsLiterals) (Each (IsFineLiteral texts))
    sem_gives = dimension_gives kind.Sem SpellsLiterals (Each (IsFineLiteral texts)) literals_gives

    iface_gives : Gives (Dimension kind.Iface SpellsBag) (Each (IsFinePair texts))
    iface_gives = dimension_gives kind.Iface SpellsBag (Each (IsFinePair texts)) bag_gives

    mutual
      body_gives : (b : List (List Statement)) (ts rest : List Lexeme) → AreReal ts → SpellsBody b ts rest → Each (Each IsSpelledStatement) b × AreReal rest
      body_gives _ _ _ real empty_body = (tt, real)
      body_gives _ ts rest real (a_body {a} {as_rest} {mid} p q) =
          let r = alternative_gives a ts mid real p in
          let s = more_alternatives_give as_rest mid rest r.1 q in ((r.0, s.0), s.1)

      more_alternatives_give : (b : List (List Statement)) (ts rest : List Lexeme) → AreReal ts → SpellsMoreAlternatives b ts rest → Each (Each IsSpelledStatement) b × AreReal rest
      more_alternatives_give _ _ _ real no_more_alternatives = (tt, real)
      more_alternatives_give _ _ rest real (one_more_alternative {b} {a} {as_rest} {ts} {mid} i p q) =
          let r = alternative_gives a ts mid real.1 p in
          let s = more_alternatives_give as_rest mid rest r.1 q in ((r.0, s.0), s.1)

      alternative_gives : (a : List Statement) (ts rest : List Lexeme) → AreReal ts → SpellsAlternative a ts rest → Each IsSpelledStatement a × AreReal rest
      alternative_gives _ ts rest real (an_alternative {s} {ss} {mid} p q) =
          let r = more_statements_give ss mid rest (statement_left s ts mid real p) q in (((ts, mid, p, real), r.0), r.1)

      more_statements_give : (ss : List Statement) (ts rest : List Lexeme) → AreReal ts → SpellsMoreStatements ss ts rest → Each IsSpelledStatement ss × AreReal rest
      more_statements_give _ _ _ real no_more_statements = (tt, real)
      more_statements_give _ _ rest real (one_more_statement {b} {s} {ss} {ts} {mid} i p q) =
          let r = more_statements_give ss mid rest (statement_left s ts mid real.1 p) q in (((ts, mid, p, real.1), r.0), r.1)

      statement_left : (s : Statement) (ts rest : List Lexeme) → AreReal ts → SpellsStatement s ts rest → AreReal rest
      statement_left _ _ rest real (a_group {o} {c} {b} {ts} i p j) = (body_gives b ts (c ∷ rest) real.1 p).1.1
      statement_left _ ts rest real (a_call_statement {n} p) = call_left n ts rest real p
      statement_left _ _ rest real (a_binding {x} {e} {n} {ts} i j p) = call_left n ts rest real.1.1 p
      statement_left _ ts rest real (an_equation {r} {e} {v} {mid} p i q) = (side_gives v mid rest (ref_left r ts (e ∷ mid) real p).1 q).1
      statement_left _ ts rest real (a_syn {items} p) = (syn_gives items ts rest real p).1
      statement_left _ ts rest real (a_sem {ls} p) = (sem_gives ls ts rest real p).1
      statement_left _ ts rest real (an_iface {b} p) = (iface_gives b ts rest real p).1

    -- the task of a statement is that of its layer
    layer : (s : Statement) (f : Statement-F Statement) → s ≡ roll-Statement f → IsFineTask (task_in f) → IsFineTask (task_of s)
    layer s f e h = subst IsFineTask (sym (ap task_in (ap out-Statement e ∙ out-roll-Statement f))) h

    pub statement_task : (s : Statement) → IsSpelledStatement s → IsFineTask (task_of s)
    statement_task s (ts, rest, p, real) = by s ts rest p real
      where
        by : (s : Statement) (ts rest : List Lexeme) → SpellsStatement s ts rest → AreReal ts → IsFineTask (task_of s)
        by _ _ rest (a_group {o} {c} {b} {ts} i p j) real = layer (statement.Group b) (open_statement.Group b) (sym (statement.rolls-Group b)) (ts, c ∷ rest, p, real.1)
        by _ ts rest (a_call_statement {n} p) real = layer (statement.Call n) (open_statement.Call n) (sym (statement.rolls-Call n)) tt
        by _ _ rest (a_binding {x} {e} {n} {ts} i j p) real = layer (statement.Bind x.name n) (open_statement.Bind x.name n) (sym (statement.rolls-Bind x.name n)) tt
        by _ ts rest (an_equation {r} {e} {v} {mid} p i q) real =
            layer (statement.Equation r v) (open_statement.Equation r v) (sym (statement.rolls-Equation r v)) (side_gives v mid rest (ref_left r ts (e ∷ mid) real p).1 q).0
        by _ ts rest (a_syn {items} p) real = layer (statement.Syn items) (open_statement.Syn items) (sym (statement.rolls-Syn items)) (syn_gives items ts rest real p).0
        by _ ts rest (a_sem {ls} p) real = layer (statement.Sem ls) (open_statement.Sem ls) (sym (statement.rolls-Sem ls)) (sem_gives ls ts rest real p).0
        by _ ts rest (an_iface {b} p) real = layer (statement.Iface b) (open_statement.Iface b) (sym (statement.rolls-Iface b)) (iface_gives b ts rest real p).0

    -- the statements of a body that is spelled are spelled
    pub body_statements : (b : List (List Statement)) → IsSpelled SpellsBody b → Each (Each IsSpelledStatement) b
    body_statements b (ts, rest, p, real) = (body_gives b ts rest real p).0

    -- ---- classes and items

    abbrev Anything : {A : Type 0} → A → Type 0
    Anything x = ⊤

    call_gives : Gives SpellsCall Anything
    call_gives c ts rest real p = (tt, call_left c ts rest real p)

    named_gives : (c : Kinds) → Gives (Named c) Anything
    named_gives c _ _ _ real (a_name i) = (tt, real.1)

    class_gives : Gives SpellsClass IsFineClass
    class_gives _ _ rest real (a_class {w} {n} {imports} {exports} {declares} {body} {ts} {behind_imports} {behind_exports} {behind_declares} i j im ex de (within {o} {c} {ts = inside} f p g)) =
        let r0 = behind_gives kind.Import (Row SpellsCall) Anything (row_gives SpellsCall Anything call_gives) imports ts behind_imports real.1.1 im in
        let vars = Named (of.Is kind.Var) in
        let r1 = behind_gives kind.Export (Row vars) Anything (row_gives vars Anything (named_gives (of.Is kind.Var))) exports behind_imports behind_exports r0.1 ex in
        let r2 = behind_gives kind.Declare (Row vars) Anything (row_gives vars Anything (named_gives (of.Is kind.Var))) declares behind_exports behind_declares r1.1 de in
        let top : 26 ≤ kind_number n.kind = omega (arith, (in_range of.Plain n j).0) in (
          record { named = real_within texts n real.1.0 top; word = real_is_word texts n real.1.0 top; body = (inside, c ∷ rest, p, r2.1.1) },
          (body_gives body inside (c ∷ rest) r2.1.1 p).1.1,
        )

    domain_left : (d : Option (List Sym)) (ts rest : List Lexeme) → AreReal ts → SpellsDomain d ts rest → AreReal rest
    domain_left _ _ _ real (any_value i) = real.1
    domain_left _ _ rest real (these_values {e} {names} {ts} i p) =
        let one = Named of.Name in
        (enclosed_gives kind.LeftBrace kind.RightBrace (Separated kind.Comma one) (Each Anything) (separated_gives kind.Comma one Anything (named_gives of.Name)) names ts rest real.1 p).1

    argument_gives : Gives SpellsArgument Anything
    argument_gives _ _ _ real (a_flag i) = (tt, real.1)
    argument_gives _ _ _ real (an_argument i j k) = (tt, real.1.1.1)

    header_left : (h : Header) (ts rest : List Lexeme) → AreReal ts → SpellsHeader h ts rest → AreReal rest
    header_left _ _ rest real (a_domain {w} {n} {d} {ts} i j p) = domain_left d ts rest real.1.1 p
    header_left _ _ _ real (a_property_type i j k l) = real.1.1.1.1
    header_left _ _ _ real (a_feature_type i j k l) = real.1.1.1.1
    header_left _ _ rest real (a_principle {d} {o} {dim} {c} {args} {ts} i j k p q r s t) =
        (enclosed_gives kind.LeftParen kind.RightParen (Maybe (Separated kind.Comma SpellsArgument)) (Each Anything)
        (maybe_gives (Separated kind.Comma SpellsArgument) Anything (separated_gives kind.Comma SpellsArgument Anything argument_gives)) args ts (d ∷ o ∷ dim ∷ c ∷ rest) real.1.1.1 p).1.1.1.1.1

    entry_gives : Gives SpellsItem IsKnownItem
    entry_gives _ ts rest real (a_class_item {c} p) = class_gives c ts rest real p
    entry_gives _ _ _ real (a_value_item i j) = (tt, real.1.1)
    entry_gives _ ts rest real (a_header_item {h} p) = (tt, header_left h ts rest real p)

    -- the classes of a metagrammar that was read are named by words, and their bodies are spelled
    pub items_known : (m : List Item) (ts rest : List Lexeme) → AreReal ts → Maybe (Row SpellsItem) m ts rest → Each IsKnownItem m
    items_known m ts rest real p = (maybe_gives (Row SpellsItem) IsKnownItem (row_gives SpellsItem IsKnownItem entry_gives) m ts rest real p).0
