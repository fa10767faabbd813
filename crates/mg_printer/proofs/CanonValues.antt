-- Values, bags and literals are spelled again by their pieces.
use Rattle.std.specs.Prelude.{◌≡◌, ℕ, List, [], ◌∷◌, Option, Some, None, codes, refl}
use Rattle.std.proofs.Common.{sym, ap, ◌∙◌, subst, arith}
use Rattle.gr_base.specs.Lists.{Each, gathered}
use Rattle.gr_base.proofs.ListLemmas.{IsAmong-slice_get}
use Rattle.gr_terms.specs.declared.Sym.{Sym}
use Rattle.gr_tokens.specs.Tokens.{signs}
use Rattle.mg_syntax.specs.declared.body.Ref.{Ref}
use Rattle.mg_syntax.specs.declared.body.Side.{Side}
use Rattle.mg_syntax.specs.declared.body.Side.TheVariants as side
use Rattle.mg_syntax.specs.declared.body.Literal.{Literal}
use Rattle.mg_reader.specs.declared.lexeme.Kind.TheVariants as kind
use Rattle.mg_reader.specs.declared.lexeme.Class.TheVariants as of
use Rattle.mg_reader.specs.declared.lexeme.Lexeme.{Lexeme}
use Rattle.mg_reader.specs.Spelling.{Is, IsA, Separated, LooselySeparated, SpellsRef, a_ref, a_dotted_ref, SpellsMaybeRef, unnamed, named, SpellsSide, a_side_name, a_variable, SpellsPair, a_pair, within, SpellsBag, a_bag, SpellsArgs, SpellsLiteral, without_handle, with_handle, SpellsLiterals}
use Rattle.mg_printer.specs.Pieces.{a_sign, separated}
use Rattle.mg_printer.specs.Values.{ref_pieces, side_pieces, pair_pieces, bag_pieces, arguments_pieces, literal_pieces}
use Rattle.mg_printer.specs.Blocks.{name_pieces}
use Rattle.mg_reader.proofs.Real.{IsReal}
use Rattle.mg_printer.proofs.Canons.{Canon, Then, One, Same, rest_real, canon_map, canon_none, canon_then, canon_enclosed, canon_sign, canon_word, canon_variable, canon_name, parens, square}
use Rattle.mg_printer.proofs.CanonLists.{IsPlainSign, AreCanon, canon_separated, canon_loosely, canon_maybe}

pub dot : IsPlainSign kind.Dot (codes ".")
dot = record { is = refl; flat = refl; sign = IsAmong-slice_get signs 10 (codes ".") refl }

pub equals : IsPlainSign kind.Equals (codes "=")
equals = record { is = refl; flat = refl; sign = IsAmong-slice_get signs 15 (codes "=") refl }

pub comma : IsPlainSign kind.Comma (codes ",")
comma = record { is = refl; flat = refl; sign = IsAmong-slice_get signs 12 (codes ",") refl }

pub colon : IsPlainSign kind.Colon (codes ":")
colon = record { is = refl; flat = refl; sign = IsAmong-slice_get signs 14 (codes ":") refl }

module _ (texts : List (List ℕ)) where
  pub plain : {k : _} {s : List ℕ} {ts : List Lexeme} → IsPlainSign k s → (l : Lexeme) → IsA k l → Canon texts (One (IsA k)) (a_sign s ∷ []) (l ∷ ts) ts
  plain {k} {s} p l i = canon_sign texts k s p.is p.flat p.sign l i

  join_ref : (s : Sym) (a b : List Lexeme) → One (λ j. IsA kind.Var j × (j.name ≡ s)) a b → SpellsRef (record { of = None; name = s }) a b
  join_ref s a b (j, e, q) = subst (λ z. SpellsRef (record { of = None; name = s }) z b) (sym e) (subst (λ n. SpellsRef (record { of = None; name = n }) (j ∷ b) b) q.1 (a_ref q.0))

  join_dotted : (x y : Sym) (a b : List Lexeme) → Then (One (λ j. IsA kind.Var j × (j.name ≡ x))) (Then (One (IsA kind.Dot)) (One (λ j. IsA kind.Var j × (j.name ≡ y)))) a b → SpellsRef (record { of = Some x; name = y }) a b
  join_dotted x y a b (m, (j, e, q), (n, (d, f, i), (k, g, r))) =
      subst (λ z. SpellsRef (record { of = Some x; name = y }) z b) (sym (e ∙ ap (λ z. j ∷ z) (f ∙ ap (λ z. d ∷ z) g)))
      (subst (λ u. SpellsRef (record { of = Some u; name = y }) (j ∷ d ∷ k ∷ b) b) q.1 (subst (λ v. SpellsRef (record { of = Some j.name; name = v }) (j ∷ d ∷ k ∷ b) b) r.1 (a_dotted_ref q.0 i r.0)))

  pub canon_ref : (r : Ref) (ts rest : List Lexeme) → Each (IsReal texts) ts → SpellsRef r ts rest → Canon texts (SpellsRef r) (ref_pieces r) ts rest
  canon_ref _ _ rest real (a_ref {x} i) = canon_map texts (λ a b q. join_ref x.name a b q) (canon_variable texts x real.0 i)
  canon_ref _ _ rest real (a_dotted_ref {x} {d} {y} i j k) =
      canon_map texts (λ a b q. join_dotted x.name y.name a b q) (canon_then texts (canon_variable texts x real.0 i) (canon_then texts (plain dot d j) (canon_variable texts y real.1.1.0 k)))

  join_unnamed : (a b : List Lexeme) → Same a b → SpellsMaybeRef None a b
  join_unnamed a b e = subst (λ z. SpellsMaybeRef None a z) e unnamed

  pub canon_maybe_ref : (n : Option Ref) (ts rest : List Lexeme) → Each (IsReal texts) ts → SpellsMaybeRef n ts rest → Canon texts (SpellsMaybeRef n) (name_pieces n) ts rest
  canon_maybe_ref _ _ rest real unnamed = canon_map texts join_unnamed (canon_none texts)
  canon_maybe_ref _ ts rest real (named {r} s) = canon_map texts (λ a b q. named q) (canon_ref r ts rest real s)

  join_side_name : (s : Sym) (a b : List Lexeme) → One (λ j. Is of.Name j × (j.name ≡ s)) a b → SpellsSide (side.Name s) a b
  join_side_name s a b (j, e, q) = subst (λ z. SpellsSide (side.Name s) z b) (sym e) (subst (λ n. SpellsSide (side.Name n) (j ∷ b) b) q.1 (a_side_name q.0))

  pub canon_side : (s : Side) (ts rest : List Lexeme) → Each (IsReal texts) ts → SpellsSide s ts rest → Canon texts (SpellsSide s) (side_pieces s) ts rest
  canon_side _ _ rest real (a_side_name {t} i) = canon_map texts (λ a b q. join_side_name t.name a b q) (canon_name texts t real.0 i)
  canon_side _ ts rest real (a_variable {r} s) = canon_map texts (λ a b q. a_variable q) (canon_ref r ts rest real s)

  pub sides : AreCanon texts SpellsSide side_pieces
  sides = record { canon = canon_side }

  join_pair : (n : Sym) (v : Side) (a b : List Lexeme) → Then (One (λ j. Is of.Word j × (j.name ≡ n))) (Then (One (IsA kind.Equals)) (SpellsSide v)) a b → SpellsPair (n, v) a b
  join_pair n v a b (m, (j, e, q), (o, (d, f, i), s)) =
      subst (λ z. SpellsPair (n, v) z b) (sym (e ∙ ap (λ z. j ∷ z) f)) (subst (λ u. SpellsPair (u, v) (j ∷ d ∷ o) b) q.1 (a_pair q.0 i s))

  pub canon_pair : (p : Sym × Side) (ts rest : List Lexeme) → Each (IsReal texts) ts → SpellsPair p ts rest → Canon texts (SpellsPair p) (pair_pieces p) ts rest
  canon_pair _ _ rest real (a_pair {a = k} {e} {v} {ts} i j s) =
      canon_map texts (λ a b q. join_pair k.name v a b q) (canon_then texts (canon_word texts of.Word (omega arith) (omega arith) k real.0 i) (canon_then texts (plain equals e j) (canon_side v ts rest real.1.1 s)))

  pub pairs : AreCanon texts SpellsPair pair_pieces
  pairs = record { canon = canon_pair }

  pub canon_bag : (ps : List (Sym × Side)) (ts rest : List Lexeme) → Each (IsReal texts) ts → SpellsBag ps ts rest → Canon texts (SpellsBag ps) (bag_pieces ps) ts rest
  canon_bag ps ts rest real (a_bag once (within i r j)) =
      canon_map texts (λ a b q. a_bag once q) (canon_enclosed texts square i (canon_maybe texts (Separated kind.Comma SpellsPair) (λ ps. separated (a_sign (codes ",")) pair_pieces ps) refl (λ xs us vs h s. canon_separated texts SpellsPair pair_pieces pairs kind.Comma (codes ",") comma h s) real.1 r) j)

  pub canon_args : (args : List Side) (ts rest : List Lexeme) → Each (IsReal texts) ts → SpellsArgs args ts rest → Canon texts (SpellsArgs args) (arguments_pieces args) ts rest
  canon_args args ts rest real (within i r j) =
      canon_enclosed texts parens i (canon_maybe texts (LooselySeparated kind.Comma SpellsSide) (λ xs. gathered side_pieces xs) refl (λ xs us vs h s. canon_loosely texts SpellsSide side_pieces sides kind.Comma refl h s) real.1 r) j

  join_without : (p : Side) (args : List Side) (a b : List Lexeme) → Then (SpellsSide p) (SpellsArgs args) a b → SpellsLiteral (record { handle = None; pred = p; args = args }) a b
  join_without p args a b (m, s, r) = without_handle s r

  join_with : (h p : Side) (args : List Side) (a b : List Lexeme) → Then (Then (Then (SpellsSide h) (One (IsA kind.Colon))) (SpellsSide p)) (SpellsArgs args) a b → SpellsLiteral (record { handle = Some h; pred = p; args = args }) a b
  join_with h p args a b (m, (n, (o, s, (c, e, i)), t), r) = with_handle (subst (λ z. SpellsSide h a z) e s) i t r

  pub canon_literal : (l : Literal) (ts rest : List Lexeme) → Each (IsReal texts) ts → SpellsLiteral l ts rest → Canon texts (SpellsLiteral l) (literal_pieces l) ts rest
  unfolding literal_pieces
  canon_literal _ _ rest real (without_handle {p} {args} {ts} {mid} s r) =
      let first = canon_side p ts mid real s in
      canon_map texts (λ a b q. join_without p args a b q) (canon_then texts first (canon_args args mid rest (rest_real texts first real) r))
  canon_literal _ _ rest real (with_handle {h} {p} {args} {c} {ts} {mid} {behind} s i t r) =
      let first = canon_side h ts (c ∷ mid) real s in
      let real1 = (rest_real texts first real).1 in
      let second = canon_side p mid behind real1 t in
      canon_map texts (λ a b q. join_with h p args a b q)
      (canon_then texts (canon_then texts (canon_then texts first (plain colon c i)) second) (canon_args args behind rest (rest_real texts second real1) r))

  pub literals : AreCanon texts SpellsLiteral literal_pieces
  literals = record { canon = canon_literal }

  pub canon_literals : (ls : List Literal) (ts rest : List Lexeme) → Each (IsReal texts) ts → SpellsLiterals ls ts rest → Canon texts (SpellsLiterals ls) (gathered literal_pieces ls) ts rest
  canon_literals ls ts rest real s =
      canon_maybe texts (LooselySeparated kind.Semicolon SpellsLiteral) (λ xs. gathered literal_pieces xs) refl (λ xs us vs h r. canon_loosely texts SpellsLiteral literal_pieces literals kind.Semicolon refl h r) real s
