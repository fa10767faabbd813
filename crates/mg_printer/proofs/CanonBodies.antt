-- Bodies of classes are spelled again by their pieces.
use Rattle.std.specs.Prelude.{◌≡◌, ℕ, ◌≤◌, ◌<◌, List, [], ◌∷◌, ◌++◌, codes, refl}
use Rattle.std.proofs.Common.{sym, ap, ◌∙◌, subst, arith}
use Rattle.gr_base.specs.Lists.{Each, NoneTwice, gathered}
use Rattle.gr_base.proofs.ListLemmas.{IsAmong-slice_get}
use Rattle.gr_symbols.specs.Numbers.{Names}
use Rattle.gr_terms.specs.Constants.{CAT}
use Rattle.gr_terms.specs.declared.Sym.{Sym}
use Rattle.gr_tokens.specs.Tokens.{signs}
use Rattle.mg_syntax.specs.declared.body.Ref.{Ref}
use Rattle.mg_syntax.specs.declared.body.Side.{Side}
use Rattle.mg_syntax.specs.declared.body.Literal.{Literal}
use Rattle.mg_syntax.specs.declared.body.Statement.{Statement}
use Rattle.mg_syntax.specs.declared.body.Statement.TheVariants as statement
use Rattle.mg_syntax.specs.declared.block.SynItem.{SynItem}
use Rattle.mg_reader.specs.declared.lexeme.Kind.{Kind}
use Rattle.mg_reader.specs.declared.lexeme.Kind.TheVariants as kind
use Rattle.mg_reader.specs.declared.lexeme.Class.TheVariants as of
use Rattle.mg_reader.specs.declared.lexeme.Lexeme.{Lexeme}
use Rattle.mg_reader.specs.Kinds.{kind_number, words, word_kind}
use Rattle.mg_reader.specs.Spelling.{Is, IsA, Rule, Separated, Maybe, Enclosed, within, Dimension, a_dimension, SpellsRef, SpellsSide, SpellsBag, SpellsLiterals, SpellsSynItem, SpellsCall, a_call, SpellsBody, empty_body, a_body, SpellsMoreAlternatives, no_more_alternatives, one_more_alternative, SpellsAlternative, an_alternative, SpellsMoreStatements, no_more_statements, one_more_statement, SpellsStatement, a_group, a_call_statement, a_binding, an_equation, a_syn, a_sem, an_iface}
use Rattle.mg_printer.specs.Pieces.{Piece, a_sign, a_key, separated}
use Rattle.mg_printer.specs.Values.{bag_pieces, literal_pieces}
use Rattle.mg_printer.specs.Blocks.{syn_item_pieces}
use Rattle.mg_printer.specs.Bodies.{call_pieces, dimension_pieces, alternative_by, statement_pieces, body_pieces}
use Rattle.mg_printer.proofs.Statements.{pieces-Group, pieces-Call, pieces-Bind, pieces-Equation, pieces-Syn, pieces-Sem, pieces-Iface}
use Rattle.mg_reader.proofs.KindLists.{texts_of}
use Rattle.mg_reader.proofs.Real.{IsReal}
use Rattle.mg_printer.proofs.Canons.{Canon, Then, One, Same, rest_real, canon_map, canon_pieces, canon_none, canon_then, canon_key, canon_word, canon_variable, canon_enclosed, braces, square}
use Rattle.mg_printer.proofs.CanonLists.{IsPlainSign, canon_separated, canon_maybe}
use Rattle.mg_printer.proofs.CanonValues.{plain, equals, canon_ref, canon_side, canon_bag, canon_literals}
use Rattle.mg_printer.proofs.CanonBlocks.{syn_items}

pub semicolon : IsPlainSign kind.Semicolon (codes ";")
semicolon = record { is = refl; flat = refl; sign = IsAmong-slice_get signs 13 (codes ";") refl }

pub bar : IsPlainSign kind.Bar (codes "|")
bar = record { is = refl; flat = refl; sign = IsAmong-slice_get signs 16 (codes "|") refl }

less : IsPlainSign kind.Less (codes "<")
less = record { is = refl; flat = refl; sign = IsAmong-slice_get signs 7 (codes "<") refl }

greater : IsPlainSign kind.Greater (codes ">")
greater = record { is = refl; flat = refl; sign = IsAmong-slice_get signs 6 (codes ">") refl }

-- a keyword of the grammar with its text
pub record IsKeyword (k : Kind) (s : List ℕ) : Type 0 where
  pub is : word_kind s ≡ k
  pub one : texts_of (kind_number k) words ≡ s ∷ []
  pub other : kind_number k ≡ 52 → ⊥
  pub high : 26 ≤ kind_number k
  pub small : kind_number k < 56

-- nothing stands between the brackets of a call
abbrev SpellsNothing : Rule Sym
SpellsNothing n ts rest = ts ≡ rest

module _ (texts : List (List ℕ)) where
  pub keyword : {k : Kind} {s : List ℕ} {ts : List Lexeme} → IsKeyword k s → (l : Lexeme) → IsReal texts l → IsA k l → Canon texts (One (λ j. IsA k j × Names texts j.name.0 s)) (a_key s ∷ []) (l ∷ ts) ts
  keyword {k} {s} w l real i = canon_key texts k s w.is w.one w.other w.high w.small l real i

  join_call : (n : Sym) (a b : List Lexeme) → Then (One (λ j. Is of.Plain j × (j.name ≡ n))) (Enclosed kind.LeftBracket kind.RightBracket SpellsNothing n) a b → SpellsCall n a b
  join_call n a b (m, (j, e, q), within {o} {c} i f k) =
      subst (λ z. SpellsCall n z b) (sym (e ∙ ap (λ z. j ∷ o ∷ z) f)) (subst (λ z. SpellsCall z (j ∷ o ∷ c ∷ b) b) q.1 (a_call q.0 i k))

  pub canon_call : (n : Sym) (ts rest : List Lexeme) → Each (IsReal texts) ts → SpellsCall n ts rest → Canon texts (SpellsCall n) (call_pieces n) ts rest
  canon_call _ _ rest real (a_call {n} {o} {c} i j k) =
      canon_map texts (λ a b q. join_call n.name a b q) (canon_then texts (canon_word texts of.Plain (omega arith) (omega arith) n real.0 i) (canon_enclosed texts {R = SpellsNothing} {x = n.name} square j (canon_none texts) k))

  join_dimension : {A : Type 0} (k : Kind) (s : List ℕ) (R : Rule A) (x : A) (a b : List Lexeme)
      → Then (One (IsA kind.Less)) (Then (One (λ j. IsA k j × Names texts j.name.0 s)) (Then (One (IsA kind.Greater)) (Enclosed kind.LeftBrace kind.RightBrace R x))) a b → Dimension k R x a b
  join_dimension k s R x a b (m1, (l, e, i), (m2, (w, f, q), (m3, (g, h, j), r))) =
      subst (λ z. Dimension k R x z b) (sym (e ∙ ap (λ z. l ∷ z) (f ∙ ap (λ z. w ∷ z) h))) (a_dimension i q.0 j r)

  dimension : {A : Type 0} (k : Kind) (s : List ℕ) → IsKeyword k s → (R : Rule A) (x : A) (ps : List Piece) {l w g : Lexeme} {ts rest : List Lexeme} → Each (IsReal texts) (l ∷ w ∷ g ∷ ts) → IsA kind.Less l → IsA k w → IsA kind.Greater g
      → Canon texts (Enclosed kind.LeftBrace kind.RightBrace R x) (a_sign (codes "{") ∷ ps ++ a_sign (codes "}") ∷ []) ts rest → Canon texts (Dimension k R x) (dimension_pieces s ps) (l ∷ w ∷ g ∷ ts) rest
  dimension k s word R x ps {l} {w} {g} real i j h c =
      canon_map texts (λ a b q. join_dimension k s R x a b q) (canon_then texts (plain texts less l i) (canon_then texts (keyword word w real.1.0 j) (canon_then texts (plain texts greater g h) c)))

  syn : IsKeyword kind.Syn (codes "syn")
  syn = record { is = refl; one = refl; other = λ n. omega arith; high = omega arith; small = omega arith }

  sem : IsKeyword kind.Sem (codes "sem")
  sem = record { is = refl; one = refl; other = λ n. omega arith; high = omega arith; small = omega arith }

  iface : IsKeyword kind.Iface (codes "iface")
  iface = record { is = refl; one = refl; other = λ n. omega arith; high = omega arith; small = omega arith }

  canon_syn : NoneTwice texts → Names texts CAT (codes "cat") → (is : List SynItem) (ts rest : List Lexeme) → Each (IsReal texts) ts → Dimension kind.Syn (Maybe (Separated kind.Semicolon SpellsSynItem)) is ts rest → Canon texts (SpellsStatement (statement.Syn is)) (statement_pieces (statement.Syn is)) ts rest
  canon_syn distinct cat is _ rest real (a_dimension i j h (within o r c)) =
      let R = Separated kind.Semicolon SpellsSynItem in
      let g = λ (xs : List SynItem). separated (a_sign (codes ";")) syn_item_pieces xs in
      let inner = canon_maybe texts R g refl (λ xs us vs real s. canon_separated texts SpellsSynItem syn_item_pieces (syn_items texts distinct cat) kind.Semicolon (codes ";") semicolon real s) real.1.1.1.1 r in
      canon_pieces texts (sym (pieces-Syn is)) (canon_map texts (λ a b q. a_syn q) (dimension kind.Syn (codes "syn") syn (Maybe R) is (g is) real i j h (canon_enclosed texts {R = Maybe R} {x = is} braces o inner c)))

  canon_sem : (ls : List Literal) (ts rest : List Lexeme) → Each (IsReal texts) ts → Dimension kind.Sem SpellsLiterals ls ts rest → Canon texts (SpellsStatement (statement.Sem ls)) (statement_pieces (statement.Sem ls)) ts rest
  canon_sem ls _ rest real (a_dimension {ts = ts} i j h (within {c = close} {ts = inside} o r c)) =
      canon_pieces texts (sym (pieces-Sem ls)) (canon_map texts (λ a b q. a_sem q)
      (dimension kind.Sem (codes "sem") sem SpellsLiterals ls (gathered literal_pieces ls) real i j h (canon_enclosed texts {R = SpellsLiterals} {x = ls} braces o (canon_literals texts ls inside (close ∷ rest) real.1.1.1.1 r) c)))

  canon_iface : (b : List (Sym × Side)) (ts rest : List Lexeme) → Each (IsReal texts) ts → Dimension kind.Iface SpellsBag b ts rest → Canon texts (SpellsStatement (statement.Iface b)) (statement_pieces (statement.Iface b)) ts rest
  canon_iface b _ rest real (a_dimension {ts = ts} i j h (within {c = close} {ts = inside} o r c)) =
      canon_pieces texts (sym (pieces-Iface b)) (canon_map texts (λ x y q. an_iface q)
      (dimension kind.Iface (codes "iface") iface SpellsBag b (bag_pieces b) real i j h (canon_enclosed texts {R = SpellsBag} {x = b} braces o (canon_bag texts b inside (close ∷ rest) real.1.1.1.1 r) c)))

  join_binding : (x n : Sym) (a b : List Lexeme) → Then (One (λ j. IsA kind.Var j × (j.name ≡ x))) (Then (One (IsA kind.Equals)) (SpellsCall n)) a b → SpellsStatement (statement.Bind x n) a b
  join_binding x n a b (m, (j, e, q), (o, (d, f, i), s)) =
      subst (λ z. SpellsStatement (statement.Bind x n) z b) (sym (e ∙ ap (λ z. j ∷ z) f)) (subst (λ z. SpellsStatement (statement.Bind z n) (j ∷ d ∷ o) b) q.1 (a_binding q.0 i s))

  join_equation : (r : Ref) (v : Side) (a b : List Lexeme) → Then (SpellsRef r) (Then (One (IsA kind.Equals)) (SpellsSide v)) a b → SpellsStatement (statement.Equation r v) a b
  join_equation r v a b (m, s, (o, (d, f, i), t)) = an_equation (subst (λ z. SpellsRef r a z) f s) i t

  join_group : (body : List (List Statement)) (a b : List Lexeme) → Enclosed kind.LeftBrace kind.RightBrace SpellsBody body a b → SpellsStatement (statement.Group body) a b
  join_group body a b (within i s j) = a_group i s j

  group : (body : List (List Statement)) {o c : Lexeme} {ts rest : List Lexeme} → IsA kind.LeftBrace o → Canon texts (SpellsBody body) (body_pieces body) ts (c ∷ rest) → IsA kind.RightBrace c → Canon texts (SpellsStatement (statement.Group body)) (statement_pieces (statement.Group body)) (o ∷ ts) rest
  group body i inner j = canon_pieces texts (sym (pieces-Group body)) (canon_map texts (λ a b q. join_group body a b q) (canon_enclosed texts {R = SpellsBody} {x = body} braces i inner j))

  call : (n : Sym) (ts rest : List Lexeme) → Each (IsReal texts) ts → SpellsCall n ts rest → Canon texts (SpellsStatement (statement.Call n)) (statement_pieces (statement.Call n)) ts rest
  call n ts rest real s = canon_pieces texts (sym (pieces-Call n)) (canon_map texts (λ a b q. a_call_statement q) (canon_call n ts rest real s))

  binding : (n : Sym) (x e : Lexeme) (ts rest : List Lexeme) → Each (IsReal texts) (x ∷ e ∷ ts) → IsA kind.Var x → IsA kind.Equals e → SpellsCall n ts rest → Canon texts (SpellsStatement (statement.Bind x.name n)) (statement_pieces (statement.Bind x.name n)) (x ∷ e ∷ ts) rest
  binding n x e ts rest real i j s =
      canon_pieces texts (sym (pieces-Bind x.name n)) (canon_map texts (λ a b q. join_binding x.name n a b q) (canon_then texts (canon_variable texts x real.0 i) (canon_then texts (plain texts equals e j) (canon_call n ts rest real.1.1 s))))

  equation : (r : Ref) (v : Side) (e : Lexeme) (ts mid rest : List Lexeme) → Each (IsReal texts) ts → SpellsRef r ts (e ∷ mid) → IsA kind.Equals e → SpellsSide v mid rest → Canon texts (SpellsStatement (statement.Equation r v)) (statement_pieces (statement.Equation r v)) ts rest
  equation r v e ts mid rest real s i t =
      let first = canon_ref texts r ts (e ∷ mid) real s in
      canon_pieces texts (sym (pieces-Equation r v)) (canon_map texts (λ a b q. join_equation r v a b q) (canon_then texts first (canon_then texts (plain texts equals e i) (canon_side texts v mid rest (rest_real texts first real).1 t))))

  join_empty : (a b : List Lexeme) → Same a b → SpellsBody [] a b
  join_empty a b e = subst (λ z. SpellsBody [] a z) e empty_body

  join_body : (s : List Statement) (ss : List (List Statement)) (a b : List Lexeme) → Then (SpellsAlternative s) (SpellsMoreAlternatives ss) a b → SpellsBody (s ∷ ss) a b
  join_body s ss a b (m, x, y) = a_body x y

  join_no_alternatives : (a b : List Lexeme) → Same a b → SpellsMoreAlternatives [] a b
  join_no_alternatives a b e = subst (λ z. SpellsMoreAlternatives [] a z) e no_more_alternatives

  join_alternatives : (s : List Statement) (ss : List (List Statement)) (a b : List Lexeme) → Then (Then (One (IsA kind.Bar)) (SpellsAlternative s)) (SpellsMoreAlternatives ss) a b → SpellsMoreAlternatives (s ∷ ss) a b
  join_alternatives s ss a b (m, (n, (j, e, i), x), y) = subst (λ z. SpellsMoreAlternatives (s ∷ ss) z b) (sym e) (one_more_alternative i x y)

  join_alternative : (s : Statement) (ss : List Statement) (a b : List Lexeme) → Then (SpellsStatement s) (SpellsMoreStatements ss) a b → SpellsAlternative (s ∷ ss) a b
  join_alternative s ss a b (m, x, y) = an_alternative x y

  join_no_statements : (a b : List Lexeme) → Same a b → SpellsMoreStatements [] a b
  join_no_statements a b e = subst (λ z. SpellsMoreStatements [] a z) e no_more_statements

  join_statements : (s : Statement) (ss : List Statement) (a b : List Lexeme) → Then (Then (One (IsA kind.Semicolon)) (SpellsStatement s)) (SpellsMoreStatements ss) a b → SpellsMoreStatements (s ∷ ss) a b
  join_statements s ss a b (m, (n, (j, e, i), x), y) = subst (λ z. SpellsMoreStatements (s ∷ ss) z b) (sym e) (one_more_statement i x y)

  mutual
    pub canon_body : NoneTwice texts → Names texts CAT (codes "cat") → (body : List (List Statement)) (ts rest : List Lexeme) → Each (IsReal texts) ts → SpellsBody body ts rest → Canon texts (SpellsBody body) (body_pieces body) ts rest
    canon_body distinct cat _ _ rest real empty_body = canon_map texts join_empty (canon_none texts)
    canon_body distinct cat _ ts rest real (a_body {a = s} {as_rest = ss} {mid = mid} x y) =
        let first = canon_alternative distinct cat s ts mid real x in
        canon_map texts (λ a b q. join_body s ss a b q) (canon_then texts first (canon_alternatives distinct cat ss mid rest (rest_real texts first real) y))

    canon_alternatives : NoneTwice texts → Names texts CAT (codes "cat") → (ss : List (List Statement)) (ts rest : List Lexeme) → Each (IsReal texts) ts → SpellsMoreAlternatives ss ts rest
        → Canon texts (SpellsMoreAlternatives ss) (gathered (λ s. a_sign (codes "|") ∷ alternative_by statement_pieces s) ss) ts rest
    canon_alternatives distinct cat _ _ rest real no_more_alternatives = canon_map texts join_no_alternatives (canon_none texts)
    canon_alternatives distinct cat _ _ rest real (one_more_alternative {b = l} {a = s} {as_rest = ss} {ts = ts} {mid = mid} i x y) =
        let first = canon_alternative distinct cat s ts mid real.1 x in
        canon_map texts (λ a b q. join_alternatives s ss a b q) (canon_then texts (canon_then texts (plain texts bar l i) first) (canon_alternatives distinct cat ss mid rest (rest_real texts first real.1) y))

    canon_alternative : NoneTwice texts → Names texts CAT (codes "cat") → (s : List Statement) (ts rest : List Lexeme) → Each (IsReal texts) ts → SpellsAlternative s ts rest → Canon texts (SpellsAlternative s) (alternative_by statement_pieces s) ts rest
    canon_alternative distinct cat _ ts rest real (an_alternative {s} {ss} {mid = mid} x y) =
        let first = canon_statement distinct cat s ts mid real x in
        canon_map texts (λ a b q. join_alternative s ss a b q) (canon_then texts first (canon_statements distinct cat ss mid rest (rest_real texts first real) y))

    canon_statements : NoneTwice texts → Names texts CAT (codes "cat") → (ss : List Statement) (ts rest : List Lexeme) → Each (IsReal texts) ts → SpellsMoreStatements ss ts rest
        → Canon texts (SpellsMoreStatements ss) (gathered (λ s. a_sign (codes ";") ∷ statement_pieces s) ss) ts rest
    canon_statements distinct cat _ _ rest real no_more_statements = canon_map texts join_no_statements (canon_none texts)
    canon_statements distinct cat _ _ rest real (one_more_statement {b = l} {s} {ss} {ts = ts} {mid = mid} i x y) =
        let first = canon_statement distinct cat s ts mid real.1 x in
        canon_map texts (λ a b q. join_statements s ss a b q) (canon_then texts (canon_then texts (plain texts semicolon l i) first) (canon_statements distinct cat ss mid rest (rest_real texts first real.1) y))

    canon_statement : NoneTwice texts → Names texts CAT (codes "cat") → (s : Statement) (ts rest : List Lexeme) → Each (IsReal texts) ts → SpellsStatement s ts rest → Canon texts (SpellsStatement s) (statement_pieces s) ts rest
    canon_statement distinct cat _ _ rest real (a_group {o} {c} {b} {ts = ts} i s j) = group b i (canon_body distinct cat b ts (c ∷ rest) real.1 s) j
    canon_statement distinct cat _ ts rest real (a_call_statement {n} s) = call n ts rest real s
    canon_statement distinct cat _ _ rest real (a_binding {x} {e} {n} {ts = ts} i j s) = binding n x e ts rest real i j s
    canon_statement distinct cat _ ts rest real (an_equation {r} {e} {v} {mid = mid} s i t) = equation r v e ts mid rest real s i t
    canon_statement distinct cat _ ts rest real (a_syn {items} s) = canon_syn distinct cat items ts rest real s
    canon_statement distinct cat _ ts rest real (a_sem {ls} s) = canon_sem ls ts rest real s
    canon_statement distinct cat _ ts rest real (an_iface {b} s) = canon_iface b ts rest real s
