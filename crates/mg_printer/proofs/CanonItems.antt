-- Items are spelled again by their pieces.
use Rattle.std.specs.Prelude.{◌≡◌, ℕ, List, [], ◌∷◌, Option, Some, None, codes, refl}
use Rattle.std.proofs.Common.{sym, ap, ◌∙◌, subst, arith}
use Rattle.gr_base.specs.Lists.{Each, NoneTwice, gathered}
use Rattle.gr_base.proofs.ListLemmas.{IsAmong-slice_get}
use Rattle.gr_symbols.specs.Numbers.{Names}
use Rattle.gr_terms.specs.Constants.{CAT}
use Rattle.gr_terms.specs.declared.Sym.{Sym}
use Rattle.gr_tokens.specs.Tokens.{signs}
use Rattle.mg_syntax.specs.declared.body.Statement.{Statement}
use Rattle.mg_syntax.specs.declared.item.Class.{Class}
use Rattle.mg_syntax.specs.declared.item.Header.{Header}
use Rattle.mg_syntax.specs.declared.item.Header.TheVariants as header
use Rattle.mg_syntax.specs.declared.item.Item.{Item}
use Rattle.mg_syntax.specs.declared.item.Item.TheVariants as item
use Rattle.mg_reader.specs.declared.lexeme.Kind.{Kind}
use Rattle.mg_reader.specs.declared.lexeme.Kind.TheVariants as kind
use Rattle.mg_reader.specs.declared.lexeme.Class.TheVariants as of
use Rattle.mg_reader.specs.declared.lexeme.Lexeme.{Lexeme}
use Rattle.mg_reader.specs.Spelling.{Is, IsA, Rule, Separated, Row, last_in_row, in_row, Maybe, Enclosed, within, Behind, no_word, behind_word, Named, a_name, SpellsCall, SpellsBody, SpellsClass, a_class, SpellsDomain, any_value, these_values, SpellsArgument, a_flag, an_argument, SpellsHeader, a_domain, a_property_type, a_feature_type, a_principle, SpellsItem, a_class_item, a_value_item, a_header_item}
use Rattle.mg_printer.specs.Pieces.{Piece, a_sign, a_key, separated}
use Rattle.mg_printer.specs.Bodies.{call_pieces}
use Rattle.mg_printer.specs.Items.{listed, variable_pieces, class_behind, name_pieces, domain_pieces, argument_pieces, typed_pieces, header_key, header_behind, item_pieces}
use Rattle.mg_reader.proofs.Real.{IsReal}
use Rattle.mg_printer.proofs.Canons.{Canon, Then, One, Same, rest_real, canon_map, canon_pieces, canon_none, canon_then, canon_word, canon_variable, canon_name, canon_enclosed, braces, parens}
use Rattle.mg_printer.proofs.CanonLists.{IsPlainSign, AreCanon, canon_separated, canon_row, canon_maybe}
use Rattle.mg_printer.proofs.CanonValues.{plain, equals, comma, colon}
use Rattle.mg_printer.proofs.CanonBodies.{IsKeyword, keyword, canon_call, canon_body}

bang : IsPlainSign kind.Bang (codes "!")
bang = record { is = refl; flat = refl; sign = IsAmong-slice_get signs 17 (codes "!") refl }

module _ (texts : List (List ℕ)) where
  class_word : IsKeyword kind.Class (codes "class")
  class_word = record { is = refl; one = refl; other = λ n. omega arith; high = omega arith; small = omega arith }

  import_word : IsKeyword kind.Import (codes "import")
  import_word = record { is = refl; one = refl; other = λ n. omega arith; high = omega arith; small = omega arith }

  export_word : IsKeyword kind.Export (codes "export")
  export_word = record { is = refl; one = refl; other = λ n. omega arith; high = omega arith; small = omega arith }

  declare_word : IsKeyword kind.Declare (codes "declare")
  declare_word = record { is = refl; one = refl; other = λ n. omega arith; high = omega arith; small = omega arith }

  value_word : IsKeyword kind.Value (codes "value")
  value_word = record { is = refl; one = refl; other = λ n. omega arith; high = omega arith; small = omega arith }

  type_word : IsKeyword kind.Domain (codes "type")
  type_word = record { is = refl; one = refl; other = λ n. omega arith; high = omega arith; small = omega arith }

  property_word : IsKeyword kind.Property (codes "property")
  property_word = record { is = refl; one = refl; other = λ n. omega arith; high = omega arith; small = omega arith }

  feature_word : IsKeyword kind.Feature (codes "feature")
  feature_word = record { is = refl; one = refl; other = λ n. omega arith; high = omega arith; small = omega arith }

  use_word : IsKeyword kind.Use (codes "use")
  use_word = record { is = refl; one = refl; other = λ n. omega arith; high = omega arith; small = omega arith }

  with_word : IsKeyword kind.With (codes "with")
  with_word = record { is = refl; one = refl; other = λ n. omega arith; high = omega arith; small = omega arith }

  dims_word : IsKeyword kind.Dims (codes "dims")
  dims_word = record { is = refl; one = refl; other = λ n. omega arith; high = omega arith; small = omega arith }

  calls : AreCanon texts SpellsCall call_pieces
  calls = record { canon = canon_call texts }

  join_variable : (n : Sym) (a b : List Lexeme) → One (λ j. IsA kind.Var j × (j.name ≡ n)) a b → Named (of.Is kind.Var) n a b
  join_variable n a b (j, e, q) = subst (λ z. Named (of.Is kind.Var) n z b) (sym e) (subst (λ z. Named (of.Is kind.Var) z (j ∷ b) b) q.1 (a_name q.0))

  canon_named : (n : Sym) (ts rest : List Lexeme) → Each (IsReal texts) ts → Named (of.Is kind.Var) n ts rest → Canon texts (Named (of.Is kind.Var) n) (variable_pieces n) ts rest
  canon_named _ _ rest real (a_name {t} i) = canon_map texts (λ a b q. join_variable t.name a b q) (canon_variable texts t real.0 i)

  variables : AreCanon texts (Named (of.Is kind.Var)) variable_pieces
  variables = record { canon = canon_named }

  join_name : (n : Sym) (a b : List Lexeme) → One (λ j. Is of.Name j × (j.name ≡ n)) a b → Named of.Name n a b
  join_name n a b (j, e, q) = subst (λ z. Named of.Name n z b) (sym e) (subst (λ z. Named of.Name z (j ∷ b) b) q.1 (a_name q.0))

  canon_name_of : (n : Sym) (ts rest : List Lexeme) → Each (IsReal texts) ts → Named of.Name n ts rest → Canon texts (Named of.Name n) (name_pieces n) ts rest
  canon_name_of _ _ rest real (a_name {t} i) = canon_map texts (λ a b q. join_name t.name a b q) (canon_name texts t real.0 i)

  names : AreCanon texts (Named of.Name) name_pieces
  names = record { canon = canon_name_of }

  join_behind : {A : Type 0} (k : Kind) (s : List ℕ) (R : Rule (List A)) (xs : List A) (a b : List Lexeme) → Then (One (λ j. IsA k j × Names texts j.name.0 s)) (R xs) a b → Behind k R xs a b
  join_behind k s R xs a b (m, (j, e, q), r) = subst (λ z. Behind k R xs z b) (sym e) (behind_word q.0 r)

  join_no_word : {A : Type 0} (k : Kind) (R : Rule (List A)) (a b : List Lexeme) → Same a b → Behind k R [] a b
  join_no_word k R a b e = subst (λ z. Behind k R [] a z) e no_word

  some_row : {A : Type 0} {P : Rule A} {xs : List A} {ts rest : List Lexeme} → Row P xs ts rest → xs ≡ [] → ⊥
  some_row (last_in_row p) e = absurd cc
  some_row (in_row p r) e = absurd cc

  listed_some : (s : List ℕ) (f : Sym → List Piece) (xs : List Sym) → (xs ≡ [] → ⊥) → a_key s ∷ gathered f xs ≡ listed s f xs
  listed_some s f [] n = absurd (n refl)
  listed_some s f (x ∷ xs) n = refl

  canon_behind : (k : Kind) (s : List ℕ) → IsKeyword k s → (P : Rule Sym) (f : Sym → List Piece) → AreCanon texts P f → (xs : List Sym) (ts rest : List Lexeme) → Each (IsReal texts) ts → Behind k (Row P) xs ts rest → Canon texts (Behind k (Row P) xs) (listed s f xs) ts rest
  canon_behind k s word P f each _ _ rest real no_word = canon_map texts (λ a b q. join_no_word k (Row P) a b q) (canon_none texts)
  canon_behind k s word P f each _ _ rest real (behind_word {xs} {w} {ts} i r) =
      canon_pieces texts (listed_some s f xs (some_row r)) (canon_map texts (λ a b q. join_behind k s (Row P) xs a b q) (canon_then texts (keyword texts word w real.0 i) (canon_row texts P f each real.1 r)))

  join_class : (n : Sym) (imports exports declares : List Sym) (body : List (List Statement)) (a b : List Lexeme)
      → Then (Then (Then (Then (Then (One (λ j. IsA kind.Class j × Names texts j.name.0 (codes "class"))) (One (λ j. Is of.Plain j × (j.name ≡ n)))) (Behind kind.Import (Row SpellsCall) imports)) (Behind kind.Export (Row (Named (of.Is kind.Var))) exports))
      (Behind kind.Declare (Row (Named (of.Is kind.Var))) declares)) (Enclosed kind.LeftBrace kind.RightBrace SpellsBody body) a b
      → SpellsClass (record { name = n; imports = imports; exports = exports; declares = declares; body = body }) a b
  join_class n imports exports declares body a b (m5, (m4, (m3, (m2, (m1, (w, e, q), (j, f, r)), i), x), d), g) =
      subst (λ z. SpellsClass (record { name = n; imports = imports; exports = exports; declares = declares; body = body }) z b) (sym (e ∙ ap (λ z. w ∷ z) f))
      (subst (λ z. SpellsClass (record { name = z; imports = imports; exports = exports; declares = declares; body = body }) (w ∷ j ∷ m2) b) r.1 (a_class q.0 r.0 i x d g))

  canon_class : NoneTwice texts → Names texts CAT (codes "cat") → (c : Class) (ts rest : List Lexeme) → Each (IsReal texts) ts → SpellsClass c ts rest → Canon texts (SpellsClass c) (a_key (codes "class") ∷ class_behind c) ts rest
  canon_class distinct cat _ _ rest real (a_class {w} {n} {imports} {exports} {declares} {body} {ts} {behind_imports = m1} {behind_exports = m2} {behind_declares = m3} i j im ex de (within {o} {c} {ts = inside} p s q)) =
      let one = canon_behind kind.Import (codes "import") import_word SpellsCall call_pieces calls imports ts m1 real.1.1 im in
      let real1 = rest_real texts one real.1.1 in
      let two = canon_behind kind.Export (codes "export") export_word (Named (of.Is kind.Var)) variable_pieces variables exports m1 m2 real1 ex in
      let real2 = rest_real texts two real1 in
      let three = canon_behind kind.Declare (codes "declare") declare_word (Named (of.Is kind.Var)) variable_pieces variables declares m2 m3 real2 de in
      let real3 = rest_real texts three real2 in
      let four = canon_enclosed texts {R = SpellsBody} {x = body} braces p (canon_body texts distinct cat body inside (c ∷ rest) real3.1 s) q in
      canon_map texts (λ a b x. join_class n.name imports exports declares body a b x)
      (canon_then texts (canon_then texts (canon_then texts (canon_then texts (canon_then texts (keyword texts class_word w real.0 i) (canon_word texts of.Plain (omega arith) (omega arith) n real.1.0 j)) one) two) three) four)

  join_any : (a b : List Lexeme) → One (IsA kind.Bang) a b → SpellsDomain None a b
  join_any a b (j, e, i) = subst (λ z. SpellsDomain None z b) (sym e) (any_value i)

  join_these : (ns : List Sym) (a b : List Lexeme) → Then (One (IsA kind.Equals)) (Enclosed kind.LeftBrace kind.RightBrace (Separated kind.Comma (Named of.Name)) ns) a b → SpellsDomain (Some ns) a b
  join_these ns a b (m, (j, e, i), r) = subst (λ z. SpellsDomain (Some ns) z b) (sym e) (these_values i r)

  canon_domain : (d : Option (List Sym)) (ts rest : List Lexeme) → Each (IsReal texts) ts → SpellsDomain d ts rest → Canon texts (SpellsDomain d) (domain_pieces d) ts rest
  canon_domain _ _ rest real (any_value {t} i) = canon_map texts join_any (plain texts bang t i)
  canon_domain _ _ rest real (these_values {e} {names = ns} i (within p s q)) =
      canon_map texts (λ a b x. join_these ns a b x)
      (canon_then texts (plain texts equals e i) (canon_enclosed texts {R = Separated kind.Comma (Named of.Name)} {x = ns} braces p (canon_separated texts (Named of.Name) name_pieces names kind.Comma (codes ",") comma real.1.1 s) q))

  join_flag : (n : Sym) (a b : List Lexeme) → One (λ j. Is of.Word j × (j.name ≡ n)) a b → SpellsArgument (n, None) a b
  join_flag n a b (j, e, q) = subst (λ z. SpellsArgument (n, None) z b) (sym e) (subst (λ z. SpellsArgument (z, None) (j ∷ b) b) q.1 (a_flag q.0))

  join_argument : (n v : Sym) (a b : List Lexeme) → Then (One (λ j. Is of.Word j × (j.name ≡ n))) (Then (One (IsA kind.Equals)) (One (λ j. Is of.Name j × (j.name ≡ v)))) a b → SpellsArgument (n, Some v) a b
  join_argument n v a b (m, (j, e, q), (o, (d, f, i), (k, g, r))) =
      subst (λ z. SpellsArgument (n, Some v) z b) (sym (e ∙ ap (λ z. j ∷ z) (f ∙ ap (λ z. d ∷ z) g)))
      (subst (λ z. SpellsArgument (z, Some v) (j ∷ d ∷ k ∷ b) b) q.1 (subst (λ z. SpellsArgument (j.name, Some z) (j ∷ d ∷ k ∷ b) b) r.1 (an_argument q.0 i r.0)))

  canon_argument : (p : Sym × Option Sym) (ts rest : List Lexeme) → Each (IsReal texts) ts → SpellsArgument p ts rest → Canon texts (SpellsArgument p) (argument_pieces p) ts rest
  canon_argument _ _ rest real (a_flag {n} i) = canon_map texts (λ a b q. join_flag n.name a b q) (canon_word texts of.Word (omega arith) (omega arith) n real.0 i)
  canon_argument _ _ rest real (an_argument {n} {e} {v} i j k) =
      canon_map texts (λ a b q. join_argument n.name v.name a b q)
      (canon_then texts (canon_word texts of.Word (omega arith) (omega arith) n real.0 i) (canon_then texts (plain texts equals e j) (canon_name texts v real.1.1.0 k)))

  arguments : AreCanon texts SpellsArgument argument_pieces
  arguments = record { canon = canon_argument }

  join_domain : (n : Sym) (d : Option (List Sym)) (a b : List Lexeme) → Then (One (λ j. IsA kind.Domain j × Names texts j.name.0 (codes "type"))) (Then (One (λ j. Is of.Word j × (j.name ≡ n))) (SpellsDomain d)) a b → SpellsHeader (header.Domain n d) a b
  join_domain n d a b (m, (w, e, q), (o, (j, f, r), s)) =
      subst (λ z. SpellsHeader (header.Domain n d) z b) (sym (e ∙ ap (λ z. w ∷ z) f)) (subst (λ z. SpellsHeader (header.Domain z d) (w ∷ j ∷ o) b) r.1 (a_domain q.0 r.0 s))

  abbrev Typed : Kind → List ℕ → Sym → Sym → List Lexeme → List Lexeme → Type 0
  Typed k s n t = Then (One (λ j. IsA k j × Names texts j.name.0 s)) (Then (One (λ j. Is of.Word j × (j.name ≡ n))) (Then (One (IsA kind.Colon)) (One (λ j. Is of.Word j × (j.name ≡ t)))))

  join_property : (n t : Sym) (a b : List Lexeme) → Typed kind.Property (codes "property") n t a b → SpellsHeader (header.Property n t) a b
  join_property n t a b (m1, (w, e, q), (m2, (j, f, r), (m3, (c, g, i), (k, h, s)))) =
      subst (λ z. SpellsHeader (header.Property n t) z b) (sym (e ∙ ap (λ z. w ∷ z) (f ∙ ap (λ z. j ∷ z) (g ∙ ap (λ z. c ∷ z) h))))
      (subst (λ z. SpellsHeader (header.Property z t) (w ∷ j ∷ c ∷ k ∷ b) b) r.1 (subst (λ z. SpellsHeader (header.Property j.name z) (w ∷ j ∷ c ∷ k ∷ b) b) s.1 (a_property_type q.0 r.0 i s.0)))

  join_feature : (n t : Sym) (a b : List Lexeme) → Typed kind.Feature (codes "feature") n t a b → SpellsHeader (header.Feature n t) a b
  join_feature n t a b (m1, (w, e, q), (m2, (j, f, r), (m3, (c, g, i), (k, h, s)))) =
      subst (λ z. SpellsHeader (header.Feature n t) z b) (sym (e ∙ ap (λ z. w ∷ z) (f ∙ ap (λ z. j ∷ z) (g ∙ ap (λ z. c ∷ z) h))))
      (subst (λ z. SpellsHeader (header.Feature z t) (w ∷ j ∷ c ∷ k ∷ b) b) r.1 (subst (λ z. SpellsHeader (header.Feature j.name z) (w ∷ j ∷ c ∷ k ∷ b) b) s.1 (a_feature_type q.0 r.0 i s.0)))

  canon_typed : (k : Kind) (s : List ℕ) → IsKeyword k s → (w n c t : Lexeme) (rest : List Lexeme) → Each (IsReal texts) (w ∷ n ∷ c ∷ t ∷ rest) → IsA k w → Is of.Word n → IsA kind.Colon c → Is of.Word t
      → Canon texts (Typed k s n.name t.name) (a_key s ∷ typed_pieces n.name t.name) (w ∷ n ∷ c ∷ t ∷ rest) rest
  canon_typed k s word w n c t rest real i j p q =
      canon_then texts (keyword texts word w real.0 i) (canon_then texts (canon_word texts of.Word (omega arith) (omega arith) n real.1.0 j) (canon_then texts (plain texts colon c p) (canon_word texts of.Word (omega arith) (omega arith) t real.1.1.1.0 q)))

  -- the words that a principle begins and ends with
  abbrev Dims : Sym → List Lexeme → List Lexeme → Type 0
  Dims d = Then (One (λ j. IsA kind.Dims j × Names texts j.name.0 (codes "dims"))) (Enclosed kind.LeftParen kind.RightParen (Named of.Word) d)

  join_dim : (n : Sym) (a b : List Lexeme) → One (λ j. Is of.Word j × (j.name ≡ n)) a b → Named of.Word n a b
  join_dim n a b (j, e, q) = subst (λ z. Named of.Word n z b) (sym e) (subst (λ z. Named of.Word z (j ∷ b) b) q.1 (a_name q.0))

  join_principle : (n : Sym) (args : List (Sym × Option Sym)) (d : Sym) (a b : List Lexeme)
      → Then (One (λ j. IsA kind.Use j × Names texts j.name.0 (codes "use"))) (Then (One (λ j. Is of.Word j × (j.name ≡ n))) (Then (One (λ j. IsA kind.With j × Names texts j.name.0 (codes "with")))
      (Then (Enclosed kind.LeftParen kind.RightParen (Maybe (Separated kind.Comma SpellsArgument)) args) (Dims d)))) a b
      → SpellsHeader (header.Principle n args d) a b
  join_principle n args d a b (m1, (w, e, q), (m2, (j, f, r), (m3, (h, g, s), (m4, x, (m5, (l, k, t), within {o} {c} {ts} p (a_name {t = dim} y) z))))) =
      let args_are : Enclosed kind.LeftParen kind.RightParen (Maybe (Separated kind.Comma SpellsArgument)) args m3 (l ∷ o ∷ dim ∷ c ∷ b) = subst (λ v. Enclosed kind.LeftParen kind.RightParen (Maybe (Separated kind.Comma SpellsArgument)) args m3 v) k x in
      subst (λ v. SpellsHeader (header.Principle n args dim.name) v b) (sym (e ∙ ap (λ v. w ∷ v) (f ∙ ap (λ v. j ∷ v) g)))
      (subst (λ v. SpellsHeader (header.Principle v args dim.name) (w ∷ j ∷ h ∷ m3) b) r.1 (a_principle q.0 r.0 s.0 args_are t.0 p y z))

  canon_header : (h : Header) (ts rest : List Lexeme) → Each (IsReal texts) ts → SpellsHeader h ts rest → Canon texts (SpellsHeader h) (a_key (header_key h) ∷ header_behind h) ts rest
  canon_header _ _ rest real (a_domain {w} {n} {d} {ts} i j s) =
      canon_map texts (λ a b q. join_domain n.name d a b q)
      (canon_then texts (keyword texts type_word w real.0 i) (canon_then texts (canon_word texts of.Word (omega arith) (omega arith) n real.1.0 j) (canon_domain d ts rest real.1.1 s)))
  canon_header _ _ rest real (a_property_type {w} {n} {c} {t} i j p q) = canon_map texts (λ a b x. join_property n.name t.name a b x) (canon_typed kind.Property (codes "property") property_word w n c t rest real i j p q)
  canon_header _ _ rest real (a_feature_type {w} {n} {c} {t} i j p q) = canon_map texts (λ a b x. join_feature n.name t.name a b x) (canon_typed kind.Feature (codes "feature") feature_word w n c t rest real i j p q)
  canon_header _ _ rest real (a_principle {w} {n} {h} {d} {o} {dim} {c} {args} {ts} i j k (within {ts = inside} x s y) l p m q) =
      let inner = canon_maybe texts (Separated kind.Comma SpellsArgument) (λ xs. separated (a_sign (codes ",")) argument_pieces xs) refl (λ xs us vs r t. canon_separated texts SpellsArgument argument_pieces arguments kind.Comma (codes ",") comma r t) real.1.1.1.1 s in
      let args_canon = canon_enclosed texts {R = Maybe (Separated kind.Comma SpellsArgument)} {x = args} parens x inner y in
      let after = rest_real texts args_canon real.1.1.1 in
      let dim_canon = canon_enclosed texts {R = Named of.Word} {x = dim.name} parens p (canon_map texts (λ a b z. join_dim dim.name a b z) (canon_word texts of.Word (omega arith) (omega arith) dim after.1.1.0 m)) q in
      canon_map texts (λ a b z. join_principle n.name args dim.name a b z)
      (canon_then texts (keyword texts use_word w real.0 i) (canon_then texts (canon_word texts of.Word (omega arith) (omega arith) n real.1.0 j) (canon_then texts (keyword texts with_word h real.1.1.0 k) (canon_then texts args_canon (canon_then texts (keyword texts dims_word d after.0 l) dim_canon)))))

  join_value : (n : Sym) (a b : List Lexeme) → Then (One (λ j. IsA kind.Value j × Names texts j.name.0 (codes "value"))) (One (λ j. Is of.Plain j × (j.name ≡ n))) a b → SpellsItem (item.Value n) a b
  join_value n a b (m, (w, e, q), (j, f, r)) = subst (λ z. SpellsItem (item.Value n) z b) (sym (e ∙ ap (λ z. w ∷ z) f)) (subst (λ z. SpellsItem (item.Value z) (w ∷ j ∷ b) b) r.1 (a_value_item q.0 r.0))

  canon_item : NoneTwice texts → Names texts CAT (codes "cat") → (i : Item) (ts rest : List Lexeme) → Each (IsReal texts) ts → SpellsItem i ts rest → Canon texts (SpellsItem i) (item_pieces i) ts rest
  canon_item distinct cat _ ts rest real (a_class_item {c} s) = canon_map texts (λ a b q. a_class_item q) (canon_class distinct cat c ts rest real s)
  canon_item distinct cat _ _ rest real (a_value_item {w} {n} i j) = canon_map texts (λ a b q. join_value n.name a b q) (canon_then texts (keyword texts value_word w real.0 i) (canon_word texts of.Plain (omega arith) (omega arith) n real.1.0 j))
  canon_item distinct cat _ ts rest real (a_header_item {h} s) = canon_map texts (λ a b q. a_header_item q) (canon_header h ts rest real s)

  items : NoneTwice texts → Names texts CAT (codes "cat") → AreCanon texts SpellsItem item_pieces
  items distinct cat = record { canon = canon_item distinct cat }

  -- all of a metagrammar
  pub canon_items : NoneTwice texts → Names texts CAT (codes "cat") → (m : List Item) (ts rest : List Lexeme) → Each (IsReal texts) ts → Maybe (Row SpellsItem) m ts rest → Canon texts (Maybe (Row SpellsItem) m) (gathered item_pieces m) ts rest
  canon_items distinct cat m ts rest real s = canon_maybe texts (Row SpellsItem) (λ xs. gathered item_pieces xs) refl (λ xs us vs r t. canon_row texts SpellsItem item_pieces (items distinct cat) r t) real s
