-- Lists are spelled again by their pieces.
use Rattle.std.specs.Prelude.{◌≡◌, ℕ, List, [], ◌∷◌, ◌++◌, refl}
use Rattle.std.proofs.Common.{sym, ap, ◌∙◌, subst}
use Rattle.std.proofs.lemmas.List.{append-nil}
use Rattle.gr_base.specs.Lists.{Each, IsAmong, gathered}
use Rattle.gr_tokens.specs.Tokens.{signs}
use Rattle.gr_grammar.specs.declared.brackets.Turn.TheVariants.{Neither}
use Rattle.mg_reader.specs.declared.lexeme.Kind.{Kind}
use Rattle.mg_reader.specs.declared.lexeme.Lexeme.{Lexeme}
use Rattle.mg_reader.specs.Kinds.{sign_kind, turn_of}
use Rattle.mg_reader.specs.Spelling.{IsA, Rule, Separated, last_separated, separated, LooselySeparated, last_loosely, loosely, side_by_side, Row, last_in_row, in_row, Maybe, nothing, something}
use Rattle.mg_printer.specs.Pieces.{Piece, a_sign, separated as written_separated}
use Rattle.mg_reader.proofs.KindLists.{one_kind}
use Rattle.mg_reader.proofs.Real.{IsReal}
use Rattle.mg_printer.proofs.Canons.{Canon, Then, One, rest_real, canon_map, canon_pieces, canon_none, canon_then, canon_sign, canon_skip}

-- the sign is one of the kind, and no bracket
pub record IsPlainSign (k : Kind) (s : List ℕ) : Type 0 where
  pub is : sign_kind s ≡ k
  pub flat : turn_of k ≡ Neither
  pub sign : IsAmong signs s

-- each value that the rule spells is spelled again by its pieces
pub record AreCanon (texts : List (List ℕ)) {A : Type 0} (P : Rule A) (f : A → List Piece) : Type 1 where
  pub canon : (x : A) (ts rest : List Lexeme) → Each (IsReal texts) ts → P x ts rest → Canon texts (P x) (f x) ts rest

module _ (texts : List (List ℕ)) {A : Type 0} (P : Rule A) (f : A → List Piece) (each : AreCanon texts P f) where
  pub canon_plain_sign : {ts : List Lexeme} (k : Kind) (s : List ℕ) → IsPlainSign k s → (l : Lexeme) → IsA k l → Canon texts (One (IsA k)) (a_sign s ∷ []) (l ∷ ts) ts
  canon_plain_sign k s p l i = canon_sign texts k s p.is p.flat p.sign l i

  some : {k : Kind} {xs : List A} {ts rest : List Lexeme} → Separated k P xs ts rest → xs ≡ [] → ⊥
  some (last_separated p) e = absurd cc
  some (separated p i r) e = absurd cc

  signs_between : (b : Piece) (xs : List A) → (xs ≡ [] → ⊥) → b ∷ written_separated b f xs ≡ gathered (λ y. b ∷ f y) xs
  signs_between b [] n = absurd (n refl)
  signs_between b (x ∷ xs) n = refl

  join_separated : (k : Kind) (x : A) (xs a b : List Lexeme) → (xs : List A) → Then (P x) (Then (One (IsA k)) (Separated k P xs)) a b → Separated k P (x ∷ xs) a b
  join_separated k x _ a b xs (m, p, (n, (j, e, i), r)) = separated (subst (λ z. P x a z) e p) i r

  pub canon_separated : (k : Kind) (s : List ℕ) → IsPlainSign k s → {xs : List A} {ts rest : List Lexeme} → Each (IsReal texts) ts → Separated k P xs ts rest → Canon texts (Separated k P xs) (written_separated (a_sign s) f xs) ts rest
  canon_separated k s plain {ts = ts} {rest = rest} real (last_separated {x} p) =
      canon_pieces texts (sym (append-nil (f x))) (canon_map texts (λ a b q. last_separated q) (each.canon x ts rest real p))
  canon_separated k s plain {ts = ts} {rest = rest} real (separated {x} {xs} {mid} {s = l} p i r) =
      let first = each.canon x ts (l ∷ mid) real p in
      let more = canon_separated k s plain (rest_real texts first real).1 r in
      canon_pieces texts (ap (λ z. f x ++ z) (signs_between (a_sign s) xs (some r)))
      (canon_map texts (λ a b q. join_separated k x [] a b xs q) (canon_then texts first (canon_then texts (canon_plain_sign k s plain l i) more)))

  join_row : (x : A) (xs : List A) (a b : List Lexeme) → Then (P x) (Row P xs) a b → Row P (x ∷ xs) a b
  join_row x xs a b (m, p, r) = in_row p r

  pub canon_row : {xs : List A} {ts rest : List Lexeme} → Each (IsReal texts) ts → Row P xs ts rest → Canon texts (Row P xs) (gathered f xs) ts rest
  canon_row {ts = ts} {rest = rest} real (last_in_row {x} p) = canon_pieces texts (sym (append-nil (f x))) (canon_map texts (λ a b q. last_in_row q) (each.canon x ts rest real p))
  canon_row {ts = ts} {rest = rest} real (in_row {x} {xs} {mid} p r) =
      let first = each.canon x ts mid real p in
      canon_map texts (λ a b q. join_row x xs a b q) (canon_then texts first (canon_row (rest_real texts first real) r))

  join_loosely : (k : Kind) (x : A) (xs : List A) (a b : List Lexeme) → Then (P x) (LooselySeparated k P xs) a b → LooselySeparated k P (x ∷ xs) a b
  join_loosely k x xs a b (m, p, r) = side_by_side p r

  pub canon_loosely : (k : Kind) → turn_of k ≡ Neither → {xs : List A} {ts rest : List Lexeme} → Each (IsReal texts) ts → LooselySeparated k P xs ts rest → Canon texts (LooselySeparated k P xs) (gathered f xs) ts rest
  canon_loosely k flat {ts = ts} {rest = rest} real (last_loosely {x} p) = canon_pieces texts (sym (append-nil (f x))) (canon_map texts (λ a b q. last_loosely q) (each.canon x ts rest real p))
  canon_loosely k flat {ts = ts} {rest = rest} real (loosely {x} {xs} {mid} {s = l} p i r) =
      let first = each.canon x ts (l ∷ mid) real p in
      let more = canon_loosely k flat (rest_real texts first real).1 r in
      canon_map texts (λ a b q. join_loosely k x xs a b q) (canon_then texts first (canon_skip texts l (ap turn_of (one_kind k l i) ∙ flat) more))
  canon_loosely k flat {ts = ts} {rest = rest} real (side_by_side {x} {xs} {mid} p r) =
      let first = each.canon x ts mid real p in
      canon_map texts (λ a b q. join_loosely k x xs a b q) (canon_then texts first (canon_loosely k flat (rest_real texts first real) r))

-- a list that may be empty
pub canon_maybe : (texts : List (List ℕ)) {A : Type 0} (R : Rule (List A)) (g : List A → List Piece) → g [] ≡ [] → ((xs : List A) (ts rest : List Lexeme) → Each (IsReal texts) ts → R xs ts rest → Canon texts (R xs) (g xs) ts rest)
    → {xs : List A} {ts rest : List Lexeme} → Each (IsReal texts) ts → Maybe R xs ts rest → Canon texts (Maybe R xs) (g xs) ts rest
canon_maybe texts {A} R g e f real nothing = canon_pieces texts (sym e) (canon_map texts (λ a b same. subst (λ z. Maybe R [] a z) same nothing) (canon_none texts))
canon_maybe texts R g e f {xs} {ts} {rest} real (something r) = canon_map texts (λ a b q. something q) (f xs ts rest real r)
