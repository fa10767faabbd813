-- Which lexemes spell which metagrammar: a rule for each form that a text can have. A rule says which lexemes a form begins with, and the last list is what is left behind it. No list of properties or features and no bag has an attribute twice.
use Rattle.std.specs.Prelude.{◌≡◌, ℕ, List, [], ◌∷◌, map, Option, Some, None, Bool, true, false}
use Rattle.gr_base.specs.Lists.{NoneTwice}
use Rattle.gr_terms.specs.declared.Sym.{Sym}
use Rattle.mg_syntax.specs.declared.body.Ref.{Ref}
use Rattle.mg_syntax.specs.declared.body.Side.{Side}
use Rattle.mg_syntax.specs.declared.body.Side.TheVariants as side
use Rattle.mg_syntax.specs.declared.body.Literal.{Literal}
use Rattle.mg_syntax.specs.declared.body.Statement.{Statement}
use Rattle.mg_syntax.specs.declared.body.Statement.TheVariants as statement
use Rattle.mg_syntax.specs.declared.block.Relate.{Relate}
use Rattle.mg_syntax.specs.declared.block.Relate.TheVariants as relate
use Rattle.mg_syntax.specs.declared.block.NodeBlock.{NodeBlock}
use Rattle.mg_syntax.specs.declared.block.Kid.{Kid, roll-Kid}
use Rattle.mg_syntax.specs.declared.block.SynItem.{SynItem}
use Rattle.mg_syntax.specs.declared.block.SynItem.TheVariants as syn_item
use Rattle.mg_syntax.specs.declared.item.Class.{Class}
use Rattle.mg_syntax.specs.declared.item.Header.{Header}
use Rattle.mg_syntax.specs.declared.item.Header.TheVariants as header
use Rattle.mg_syntax.specs.declared.item.Item.{Item}
use Rattle.mg_syntax.specs.declared.item.Item.TheVariants as item
use Rattle.mg_reader.specs.declared.lexeme.Kind.{Kind}
use Rattle.mg_reader.specs.declared.lexeme.Kind.TheVariants as kind
use Rattle.mg_reader.specs.declared.lexeme.Class.{Class as Kinds}
use Rattle.mg_reader.specs.declared.lexeme.Class.TheVariants as of
use Rattle.mg_reader.specs.declared.lexeme.Lexeme.{Lexeme}
use Rattle.mg_reader.specs.declared.found.Property.{Property}
use Rattle.mg_reader.specs.declared.found.Given.TheVariants as given
use Rattle.mg_reader.specs.declared.found.Feature.{Feature}
use Rattle.mg_reader.specs.declared.found.Feature.TheVariants as feature
use Rattle.mg_reader.specs.Kinds.{test}
use Rattle.mg_reader.specs.Values.{paint_of, descent_of, relate_of, with_properties, no_properties, with_features, no_features, node_with}

-- the lexeme is of the class; it is of the kind
abbrev pub Is : Kinds → Lexeme → Type 0
Is c t = test c t ≡ true

abbrev pub IsA : Kind → Lexeme → Type 0
IsA k t = test (of.Is k) t ≡ true

-- what spells a value: lexemes, and those that are left behind them
abbrev pub Rule : Type 0 → Type 1
Rule A = A → List Lexeme → List Lexeme → Type 0

-- a row of one or more, with a lexeme of a kind between each two; with one that may be left out; with none
pub data Separated {A : Type 0} (k : Kind) (P : Rule A) : List A → List Lexeme → List Lexeme → Type 0 where
  last_separated : {x : A} {ts rest : List Lexeme} → P x ts rest → Separated k P (x ∷ []) ts rest
  separated : {x : A} {xs : List A} {ts mid rest : List Lexeme} {s : Lexeme} → P x ts (s ∷ mid) → IsA k s → Separated k P xs mid rest → Separated k P (x ∷ xs) ts rest

pub data LooselySeparated {A : Type 0} (k : Kind) (P : Rule A) : List A → List Lexeme → List Lexeme → Type 0 where
  last_loosely : {x : A} {ts rest : List Lexeme} → P x ts rest → LooselySeparated k P (x ∷ []) ts rest
  loosely : {x : A} {xs : List A} {ts mid rest : List Lexeme} {s : Lexeme} → P x ts (s ∷ mid) → IsA k s → LooselySeparated k P xs mid rest → LooselySeparated k P (x ∷ xs) ts rest
  side_by_side : {x : A} {xs : List A} {ts mid rest : List Lexeme} → P x ts mid → LooselySeparated k P xs mid rest → LooselySeparated k P (x ∷ xs) ts rest

pub data Row {A : Type 0} (P : Rule A) : List A → List Lexeme → List Lexeme → Type 0 where
  last_in_row : {x : A} {ts rest : List Lexeme} → P x ts rest → Row P (x ∷ []) ts rest
  in_row : {x : A} {xs : List A} {ts mid rest : List Lexeme} → P x ts mid → Row P xs mid rest → Row P (x ∷ xs) ts rest

-- nothing for the empty list, or a row
pub data Maybe {A : Type 0} (R : Rule (List A)) : List A → List Lexeme → List Lexeme → Type 0 where
  nothing : {ts : List Lexeme} → Maybe R [] ts ts
  something : {xs : List A} {ts rest : List Lexeme} → R xs ts rest → Maybe R xs ts rest

-- between two lexemes of these kinds; and nothing for the empty list, or so
pub data Enclosed {A : Type 0} (opening closing : Kind) (R : Rule A) : A → List Lexeme → List Lexeme → Type 0 where
  within : {x : A} {o c : Lexeme} {ts rest : List Lexeme} → IsA opening o → R x ts (c ∷ rest) → IsA closing c → Enclosed opening closing R x (o ∷ ts) rest

pub data MaybeEnclosed {A : Type 0} (opening closing : Kind) (R : Rule (List A)) : List A → List Lexeme → List Lexeme → Type 0 where
  not_enclosed : {ts : List Lexeme} → MaybeEnclosed opening closing R [] ts ts
  enclosed : {xs : List A} {ts rest : List Lexeme} → Enclosed opening closing (Maybe R) xs ts rest → MaybeEnclosed opening closing R xs ts rest

-- nothing for the empty list, or a row behind a word
pub data Behind {A : Type 0} (k : Kind) (R : Rule (List A)) : List A → List Lexeme → List Lexeme → Type 0 where
  no_word : {ts : List Lexeme} → Behind k R [] ts ts
  behind_word : {xs : List A} {w : Lexeme} {ts rest : List Lexeme} → IsA k w → R xs ts rest → Behind k R xs (w ∷ ts) rest

-- one lexeme of a class, for its name
pub data Named (c : Kinds) : Sym → List Lexeme → List Lexeme → Type 0 where
  a_name : {t : Lexeme} {ts : List Lexeme} → Is c t → Named c t.name (t ∷ ts) ts

-- ref = VAR [ "." VAR ]
pub data SpellsRef : Ref → List Lexeme → List Lexeme → Type 0 where
  a_ref : {x : Lexeme} {ts : List Lexeme} → IsA kind.Var x → SpellsRef (record { of = None; name = x.name }) (x ∷ ts) ts
  a_dotted_ref : {x d y : Lexeme} {ts : List Lexeme} → IsA kind.Var x → IsA kind.Dot d → IsA kind.Var y → SpellsRef (record { of = Some x.name; name = y.name }) (x ∷ d ∷ y ∷ ts) ts

pub data SpellsMaybeRef : Option Ref → List Lexeme → List Lexeme → Type 0 where
  unnamed : {ts : List Lexeme} → SpellsMaybeRef None ts ts
  named : {r : Ref} {ts rest : List Lexeme} → SpellsRef r ts rest → SpellsMaybeRef (Some r) ts rest

-- term = NAME | ref
pub data SpellsSide : Side → List Lexeme → List Lexeme → Type 0 where
  a_side_name : {t : Lexeme} {ts : List Lexeme} → Is of.Name t → SpellsSide (side.Name t.name) (t ∷ ts) ts
  a_variable : {r : Ref} {ts rest : List Lexeme} → SpellsRef r ts rest → SpellsSide (side.Ref r) ts rest

-- WORD "=" term
pub data SpellsPair : (Sym × Side) → List Lexeme → List Lexeme → Type 0 where
  a_pair : {a e : Lexeme} {v : Side} {ts rest : List Lexeme} → Is of.Word a → IsA kind.Equals e → SpellsSide v ts rest → SpellsPair (a.name, v) (a ∷ e ∷ ts) rest

-- bag = "[" [ pair ( "," pair )* ] "]"
pub data SpellsBag : List (Sym × Side) → List Lexeme → List Lexeme → Type 0 where
  a_bag : {ps : List (Sym × Side)} {ts rest : List Lexeme} → NoneTwice (map (λ (p : Sym × Side). p.0.0) ps) → Enclosed kind.LeftBracket kind.RightBracket (Maybe (Separated kind.Comma SpellsPair)) ps ts rest → SpellsBag ps ts rest

-- lit = [ term ":" ] term "(" [ term ( [ "," ] term )* ] ")"
abbrev pub SpellsArgs : Rule (List Side)
SpellsArgs args ts rest = Enclosed kind.LeftParen kind.RightParen (Maybe (LooselySeparated kind.Comma SpellsSide)) args ts rest

pub data SpellsLiteral : Literal → List Lexeme → List Lexeme → Type 0 where
  without_handle : {p : Side} {args : List Side} {ts mid rest : List Lexeme} → SpellsSide p ts mid → SpellsArgs args mid rest → SpellsLiteral (record { handle = None; pred = p; args = args }) ts rest
  with_handle : {h p : Side} {args : List Side} {c : Lexeme} {ts mid behind rest : List Lexeme} → SpellsSide h ts (c ∷ mid) → IsA kind.Colon c → SpellsSide p mid behind → SpellsArgs args behind rest →
      SpellsLiteral (record { handle = Some h; pred = p; args = args }) ts rest

abbrev pub SpellsLiterals : Rule (List Literal)
SpellsLiterals ls ts rest = Maybe (LooselySeparated kind.Semicolon SpellsLiteral) ls ts rest

-- prop = "color" "=" COLOUR | "mark" "=" MARK | PNAME "=" term
pub data SpellsProperty : Property → List Lexeme → List Lexeme → Type 0 where
  a_colour : {k e c : Lexeme} {ts : List Lexeme} → IsA kind.Color k → IsA kind.Equals e → Is of.Paint c → SpellsProperty (record { key = k; given = given.Paint (paint_of c.kind) }) (k ∷ e ∷ c ∷ ts) ts
  a_mark : {k e m : Lexeme} {ts : List Lexeme} → IsA kind.Mark k → IsA kind.Equals e → Is of.Marker m → SpellsProperty (record { key = k; given = given.Value (side.Name m.name) }) (k ∷ e ∷ m ∷ ts) ts
  a_property : {k e : Lexeme} {v : Side} {ts rest : List Lexeme} → Is of.Property k → IsA kind.Equals e → SpellsSide v ts rest → SpellsProperty (record { key = k; given = given.Value v }) (k ∷ e ∷ ts) rest

-- feat = "cat" "=" term | "top" "=" bag | "bot" "=" bag
pub data SpellsFeature : Feature → List Lexeme → List Lexeme → Type 0 where
  a_category : {k e : Lexeme} {v : Side} {ts rest : List Lexeme} → IsA kind.Cat k → IsA kind.Equals e → SpellsSide v ts rest → SpellsFeature (feature.Category v) (k ∷ e ∷ ts) rest
  a_top : {k e : Lexeme} {b : List (Sym × Side)} {ts rest : List Lexeme} → IsA kind.Top k → IsA kind.Equals e → SpellsBag b ts rest → SpellsFeature (feature.Top b) (k ∷ e ∷ ts) rest
  a_bottom : {k e : Lexeme} {b : List (Sym × Side)} {ts rest : List Lexeme} → IsA kind.Bot k → IsA kind.Equals e → SpellsBag b ts rest → SpellsFeature (feature.Bottom b) (k ∷ e ∷ ts) rest

abbrev pub feature_number : Feature → ℕ
feature_number (feature.Category v) = 0
feature_number (feature.Top b) = 1
feature_number (feature.Bottom b) = 2

-- [ "..." | "...+" ], and [ ",,," ]
pub data SpellsDescent : Relate → List Lexeme → List Lexeme → Type 0 where
  a_child : {ts : List Lexeme} → SpellsDescent relate.Parent ts ts
  a_descent : {t : Lexeme} {ts : List Lexeme} → Is of.Descent t → SpellsDescent (descent_of t.kind) (t ∷ ts) ts

pub data SpellsLoose : Bool → List Lexeme → List Lexeme → Type 0 where
  not_loose : {ts : List Lexeme} → SpellsLoose false ts ts
  is_loose : {t : Lexeme} {ts : List Lexeme} → IsA kind.Commas t → SpellsLoose true (t ∷ ts) ts

-- node = "node" [ ref ] [ "(" .. ")" ] [ "[" .. "]" ] [ "{" [ kids ] "}" ], and kids = kid ( [ ",,," ] kid )*
mutual
  pub data SpellsNode : NodeBlock → List Lexeme → List Lexeme → Type 0 where
    a_node : {w : Lexeme} {name : Option Ref} {ps : List Property} {fs : List Feature} {kids : List Kid} {ts behind_name behind_properties behind_features rest : List Lexeme} →
        IsA kind.Node w → SpellsMaybeRef name ts behind_name →
        NoneTwice (map (λ (p : Property). p.key.name.0) ps) → MaybeEnclosed kind.LeftParen kind.RightParen (Separated kind.Comma SpellsProperty) ps behind_name behind_properties →
        NoneTwice (map feature_number fs) → MaybeEnclosed kind.LeftBracket kind.RightBracket (Separated kind.Comma SpellsFeature) fs behind_properties behind_features →
        SpellsKids kids behind_features rest →
        SpellsNode (node_with name (with_properties no_properties ps) (with_features no_features fs) kids) (w ∷ ts) rest

  pub data SpellsKids : List Kid → List Lexeme → List Lexeme → Type 0 where
    no_kid_list : {ts : List Lexeme} → SpellsKids [] ts ts
    empty_kid_list : {o c : Lexeme} {ts : List Lexeme} → IsA kind.LeftBrace o → IsA kind.RightBrace c → SpellsKids [] (o ∷ c ∷ ts) ts
    a_kid_list : {o c : Lexeme} {k : Kid} {ks : List Kid} {ts mid rest : List Lexeme} → IsA kind.LeftBrace o → SpellsKid false k ts mid → SpellsMoreKids ks mid (c ∷ rest) → IsA kind.RightBrace c → SpellsKids (k ∷ ks) (o ∷ ts) rest

  pub data SpellsMoreKids : List Kid → List Lexeme → List Lexeme → Type 0 where
    no_more_kids : {ts : List Lexeme} → SpellsMoreKids [] ts ts
    one_more_kid : {loose : Bool} {k : Kid} {ks : List Kid} {ts behind_loose mid rest : List Lexeme} → SpellsLoose loose ts behind_loose → SpellsKid loose k behind_loose mid → SpellsMoreKids ks mid rest → SpellsMoreKids (k ∷ ks) ts rest

  pub data SpellsKid : Bool → Kid → List Lexeme → List Lexeme → Type 0 where
    a_kid : {loose : Bool} {down : Relate} {n : NodeBlock} {ts mid rest : List Lexeme} → SpellsDescent down ts mid → SpellsNode n mid rest → SpellsKid loose (roll-Kid (record { down = down; loose = loose; node = n })) ts rest

-- sitem = node | ref op ref
pub data SpellsSynItem : SynItem → List Lexeme → List Lexeme → Type 0 where
  a_block : {n : NodeBlock} {ts rest : List Lexeme} → SpellsNode n ts rest → SpellsSynItem (syn_item.Node n) ts rest
  a_relation : {a b : Ref} {o : Lexeme} {ts mid rest : List Lexeme} → SpellsRef a ts (o ∷ mid) → Is of.Operator o → SpellsRef b mid rest → SpellsSynItem (syn_item.Relation a (relate_of o.kind) b) ts rest

-- "<" word ">" "{" .. "}"
pub data Dimension {A : Type 0} (k : Kind) (R : Rule A) : A → List Lexeme → List Lexeme → Type 0 where
  a_dimension : {x : A} {l w g : Lexeme} {ts rest : List Lexeme} → IsA kind.Less l → IsA k w → IsA kind.Greater g → Enclosed kind.LeftBrace kind.RightBrace R x ts rest → Dimension k R x (l ∷ w ∷ g ∷ ts) rest

-- call = CNAME "[" "]"
pub data SpellsCall : Sym → List Lexeme → List Lexeme → Type 0 where
  a_call : {n o c : Lexeme} {ts : List Lexeme} → Is of.Plain n → IsA kind.LeftBracket o → IsA kind.RightBracket c → SpellsCall n.name (n ∷ o ∷ c ∷ ts) ts

-- body = [ alt ( "|" alt )* ], alt = stmt ( ";" stmt )*
mutual
  pub data SpellsBody : List (List Statement) → List Lexeme → List Lexeme → Type 0 where
    empty_body : {ts : List Lexeme} → SpellsBody [] ts ts
    a_body : {a : List Statement} {as_rest : List (List Statement)} {ts mid rest : List Lexeme} → SpellsAlternative a ts mid → SpellsMoreAlternatives as_rest mid rest → SpellsBody (a ∷ as_rest) ts rest

  pub data SpellsMoreAlternatives : List (List Statement) → List Lexeme → List Lexeme → Type 0 where
    no_more_alternatives : {ts : List Lexeme} → SpellsMoreAlternatives [] ts ts
    one_more_alternative : {b : Lexeme} {a : List Statement} {as_rest : List (List Statement)} {ts mid rest : List Lexeme} → IsA kind.Bar b → SpellsAlternative a ts mid → SpellsMoreAlternatives as_rest mid rest → SpellsMoreAlternatives (a ∷ as_rest) (b ∷ ts) rest

  pub data SpellsAlternative : List Statement → List Lexeme → List Lexeme → Type 0 where
    an_alternative : {s : Statement} {ss : List Statement} {ts mid rest : List Lexeme} → SpellsStatement s ts mid → SpellsMoreStatements ss mid rest → SpellsAlternative (s ∷ ss) ts rest

  pub data SpellsMoreStatements : List Statement → List Lexeme → List Lexeme → Type 0 where
    no_more_statements : {ts : List Lexeme} → SpellsMoreStatements [] ts ts
    one_more_statement : {b : Lexeme} {s : Statement} {ss : List Statement} {ts mid rest : List Lexeme} → IsA kind.Semicolon b → SpellsStatement s ts mid → SpellsMoreStatements ss mid rest → SpellsMoreStatements (s ∷ ss) (b ∷ ts) rest

  -- stmt = "{" body "}" | call | VAR "=" call | ref "=" ref | ref "=" NAME | "<" "syn" ">" .. | "<" "sem" ">" .. | "<" "iface" ">" ..
  pub data SpellsStatement : Statement → List Lexeme → List Lexeme → Type 0 where
    a_group : {o c : Lexeme} {b : List (List Statement)} {ts rest : List Lexeme} → IsA kind.LeftBrace o → SpellsBody b ts (c ∷ rest) → IsA kind.RightBrace c → SpellsStatement (statement.Group b) (o ∷ ts) rest
    a_call_statement : {n : Sym} {ts rest : List Lexeme} → SpellsCall n ts rest → SpellsStatement (statement.Call n) ts rest
    a_binding : {x e : Lexeme} {n : Sym} {ts rest : List Lexeme} → IsA kind.Var x → IsA kind.Equals e → SpellsCall n ts rest → SpellsStatement (statement.Bind x.name n) (x ∷ e ∷ ts) rest
    an_equation : {r : Ref} {e : Lexeme} {v : Side} {ts mid rest : List Lexeme} → SpellsRef r ts (e ∷ mid) → IsA kind.Equals e → SpellsSide v mid rest → SpellsStatement (statement.Equation r v) ts rest
    a_syn : {items : List SynItem} {ts rest : List Lexeme} → Dimension kind.Syn (Maybe (Separated kind.Semicolon SpellsSynItem)) items ts rest → SpellsStatement (statement.Syn items) ts rest
    a_sem : {ls : List Literal} {ts rest : List Lexeme} → Dimension kind.Sem SpellsLiterals ls ts rest → SpellsStatement (statement.Sem ls) ts rest
    an_iface : {b : List (Sym × Side)} {ts rest : List Lexeme} → Dimension kind.Iface SpellsBag b ts rest → SpellsStatement (statement.Iface b) ts rest

-- class = "class" CNAME [ "import" call+ ] [ "export" VAR+ ] [ "declare" VAR+ ] "{" body "}"
pub data SpellsClass : Class → List Lexeme → List Lexeme → Type 0 where
  a_class : {w n : Lexeme} {imports exports declares : List Sym} {body : List (List Statement)} {ts behind_imports behind_exports behind_declares rest : List Lexeme} →
      IsA kind.Class w → Is of.Plain n → Behind kind.Import (Row SpellsCall) imports ts behind_imports →
      Behind kind.Export (Row (Named (of.Is kind.Var))) exports behind_imports behind_exports →
      Behind kind.Declare (Row (Named (of.Is kind.Var))) declares behind_exports behind_declares →
      Enclosed kind.LeftBrace kind.RightBrace SpellsBody body behind_declares rest →
      SpellsClass (record { name = n.name; imports = imports; exports = exports; declares = declares; body = body }) (w ∷ n ∷ ts) rest

-- "!" | "=" "{" NAME ( "," NAME )* "}"
pub data SpellsDomain : Option (List Sym) → List Lexeme → List Lexeme → Type 0 where
  any_value : {t : Lexeme} {ts : List Lexeme} → IsA kind.Bang t → SpellsDomain None (t ∷ ts) ts
  these_values : {e : Lexeme} {names : List Sym} {ts rest : List Lexeme} → IsA kind.Equals e → Enclosed kind.LeftBrace kind.RightBrace (Separated kind.Comma (Named of.Name)) names ts rest → SpellsDomain (Some names) (e ∷ ts) rest

-- arg = WORD [ "=" NAME ]
pub data SpellsArgument : (Sym × Option Sym) → List Lexeme → List Lexeme → Type 0 where
  a_flag : {n : Lexeme} {ts : List Lexeme} → Is of.Word n → SpellsArgument (n.name, None) (n ∷ ts) ts
  an_argument : {n e v : Lexeme} {ts : List Lexeme} → Is of.Word n → IsA kind.Equals e → Is of.Name v → SpellsArgument (n.name, Some v.name) (n ∷ e ∷ v ∷ ts) ts

pub data SpellsHeader : Header → List Lexeme → List Lexeme → Type 0 where
  a_domain : {w n : Lexeme} {d : Option (List Sym)} {ts rest : List Lexeme} → IsA kind.Domain w → Is of.Word n → SpellsDomain d ts rest → SpellsHeader (header.Domain n.name d) (w ∷ n ∷ ts) rest
  a_property_type : {w n c t : Lexeme} {ts : List Lexeme} → IsA kind.Property w → Is of.Word n → IsA kind.Colon c → Is of.Word t → SpellsHeader (header.Property n.name t.name) (w ∷ n ∷ c ∷ t ∷ ts) ts
  a_feature_type : {w n c t : Lexeme} {ts : List Lexeme} → IsA kind.Feature w → Is of.Word n → IsA kind.Colon c → Is of.Word t → SpellsHeader (header.Feature n.name t.name) (w ∷ n ∷ c ∷ t ∷ ts) ts
  a_principle : {w n h d o dim c : Lexeme} {args : List (Sym × Option Sym)} {ts rest : List Lexeme} → IsA kind.Use w → Is of.Word n → IsA kind.With h →
      Enclosed kind.LeftParen kind.RightParen (Maybe (Separated kind.Comma SpellsArgument)) args ts (d ∷ o ∷ dim ∷ c ∷ rest) → IsA kind.Dims d → IsA kind.LeftParen o → Is of.Word dim → IsA kind.RightParen c →
      SpellsHeader (header.Principle n.name args dim.name) (w ∷ n ∷ h ∷ ts) rest

-- item = class | "value" CNAME | header
pub data SpellsItem : Item → List Lexeme → List Lexeme → Type 0 where
  a_class_item : {c : Class} {ts rest : List Lexeme} → SpellsClass c ts rest → SpellsItem (item.Class c) ts rest
  a_value_item : {w n : Lexeme} {ts : List Lexeme} → IsA kind.Value w → Is of.Plain n → SpellsItem (item.Value n.name) (w ∷ n ∷ ts) ts
  a_header_item : {h : Header} {ts rest : List Lexeme} → SpellsHeader h ts rest → SpellsItem (item.Header h) ts rest

-- file = item*, and the lexemes spell the metagrammar
abbrev pub Spells : List Item → List Lexeme → Type 0
Spells m ts = Maybe (Row SpellsItem) m ts []
