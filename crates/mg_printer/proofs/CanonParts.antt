-- Parts of a list in brackets, of which some may be written in another order.
use Rattle.std.specs.Prelude.{◌≡◌, ℕ, List, [], ◌∷◌, ◌++◌, map, codes, refl, ◌⊎◌}
use Rattle.std.proofs.Common.{sym, ap, ◌∙◌, subst, inl, inr, arith, append_assoc}
use Rattle.std.proofs.lemmas.List.{append-nil, map-append}
use Rattle.gr_base.specs.Lists.{Each, gathered}
use Rattle.gr_base.proofs.ListLemmas.{Each-append}
use Rattle.gr_grammar.specs.declared.brackets.Turn.{Turn}
use Rattle.gr_grammar.specs.declared.brackets.Turn.TheVariants.{Opens, Closes, Neither}
use Rattle.gr_grammar.specs.Depths.{depth}
use Rattle.mg_reader.specs.declared.lexeme.Kind.{Kind}
use Rattle.mg_reader.specs.declared.lexeme.Kind.TheVariants as kind
use Rattle.mg_reader.specs.declared.lexeme.Lexeme.{Lexeme}
use Rattle.mg_reader.specs.Kinds.{turn, turn_of}
use Rattle.mg_reader.specs.Spelling.{Rule, Separated, last_separated, separated, nothing, something, within, MaybeEnclosed, not_enclosed, enclosed}
use Rattle.mg_printer.specs.Pieces.{Piece, a_sign, enclosed as written_enclosed}
use Rattle.mg_printer.proofs.Covering.{AreLevel, Covers, level-append, level-enclosed, covers-nil, covers-append, covers-left, covers-right, covers-enclosed, covers-flat}
use Rattle.mg_reader.proofs.KindLists.{one_kind, is_kind}
use Rattle.mg_reader.proofs.Real.{IsReal}
use Rattle.mg_printer.proofs.Fitting.{FitPieces, IsWritten}
use Rattle.mg_printer.proofs.Canons.{Canon, AreBrackets, turns, piece_turns, piece_turn, rest_real, fit_front, last_fit, bracketed, pieces_bracketed}
use Rattle.mg_printer.proofs.CanonLists.{AreCanon, IsPlainSign}

-- any lexemes that fit the pieces spell it
abbrev pub Again : List (List ℕ) → (List Lexeme → List Lexeme → Type 0) → List Piece → Type 0
Again texts S ps = (ls more : List Lexeme) → FitPieces texts ps ls → S (ls ++ more) more

-- x can be written by its pieces, within the brackets of some lexemes, and is spelled by them
pub record IsPart (texts : List (List ℕ)) {A : Type 0} (P : Rule A) (f : A → List Piece) (inner : List Turn) (x : A) : Type 0 where
  pub again : Again texts (P x) (f x)
  pub written : Each (IsWritten texts) (f x)
  pub covers : Covers inner (piece_turns (f x))

pub record Parts (texts : List (List ℕ)) {A : Type 0} (P : Rule A) (f : A → List Piece) (xs : List A) (ts rest : List Lexeme) : Type 0 where
  pub front : List Lexeme
  pub split : ts ≡ front ++ rest
  pub level : AreLevel (turns front)
  pub each : Each (IsPart texts P f (turns front)) xs

module _ (texts : List (List ℕ)) {A : Type 0} (P : Rule A) (f : A → List Piece) where
  part_left : (xs more : List Turn) (x : A) → IsPart texts P f xs x → IsPart texts P f (xs ++ more) x
  part_left xs more x p = record { again = p.again; written = p.written; covers = covers-left xs more (piece_turns (f x)) p.covers }

  part_right : (before xs : List Turn) → AreLevel before → (x : A) → IsPart texts P f xs x → IsPart texts P f (before ++ xs) x
  part_right before xs l x p = record { again = p.again; written = p.written; covers = covers-right before xs (piece_turns (f x)) l p.covers }

  each_of : (Q R : A → Type 0) (xs : List A) → ((x : A) → Q x → R x) → Each Q xs → Each R xs
  each_of Q R [] g h = tt
  each_of Q R (x ∷ xs) g h = (g x h.0, each_of Q R xs g h.1)

  one_part : (x : A) (ts rest : List Lexeme) → Canon texts (P x) (f x) ts rest → Parts texts P f (x ∷ []) ts rest
  one_part x ts rest c = record { front = c.front; split = c.split; level = c.level; each = (record { again = c.again; written = c.written; covers = c.covers }, tt) }

  more_parts : (x : A) (xs : List A) (ts mid rest : List Lexeme) (l : Lexeme) → turn l ≡ Neither → Canon texts (P x) (f x) ts (l ∷ mid) → Parts texts P f xs mid rest → Parts texts P f (x ∷ xs) ts rest
  more_parts x xs ts mid rest l flat c p =
      let sign : AreLevel (turns (l ∷ [])) = λ d. ap (depth d) flat in
      let whole : turns (c.front ++ l ∷ p.front) ≡ turns c.front ++ turns (l ∷ p.front) = map-append turn c.front (l ∷ p.front) in
      record {
        front = c.front ++ l ∷ p.front;
        split = c.split ∙ (ap (λ z. c.front ++ l ∷ z) p.split ∙ sym (append_assoc c.front (l ∷ p.front) rest));
        level = subst (λ z. AreLevel z) (sym whole) (level-append (turns c.front) (turns (l ∷ p.front)) c.level (level-append (turns (l ∷ [])) (turns p.front) sign p.level));
        each = subst (λ z. Each (IsPart texts P f z) (x ∷ xs)) (sym whole) (
          part_left (turns c.front) (turns (l ∷ p.front)) x (record { again = c.again; written = c.written; covers = c.covers }),
          each_of (IsPart texts P f (turns p.front)) (IsPart texts P f (turns c.front ++ turns (l ∷ p.front))) xs
              (λ y q. part_right (turns c.front) (turns (l ∷ p.front)) c.level y (part_right (turns (l ∷ [])) (turns p.front) sign y q)) p.each,
        );
      }

  pub parts_of : AreCanon texts P f → (k : Kind) → turn_of k ≡ Neither → {xs : List A} {ts rest : List Lexeme} → Each (IsReal texts) ts → Separated k P xs ts rest → Parts texts P f xs ts rest
  parts_of each k flat {ts = ts} {rest = rest} real (last_separated {x} p) = one_part x ts rest (each.canon x ts rest real p)
  parts_of each k flat {ts = ts} {rest = rest} real (separated {x} {xs} {mid} {s = l} p i r) =
      let first = each.canon x ts (l ∷ mid) real p in
      more_parts x xs ts mid rest l (ap turn_of (one_kind k l i) ∙ flat) first (parts_of each k flat (rest_real texts first real).1 r)

  -- parts with a sign between each two
  pub parts_again : (k : Kind) (s : List ℕ) → IsPlainSign k s → (inner : List Turn) (x : A) (xs : List A) → IsPart texts P f inner x → Each (IsPart texts P f inner) xs
      → Again texts (Separated k P (x ∷ xs)) (f x ++ gathered (λ y. a_sign s ∷ f y) xs)
  parts_again k s plain inner x [] p h ls more fits = last_separated (p.again ls more (subst (λ z. FitPieces texts z ls) (append-nil (f x)) fits))
  parts_again k s plain inner x (y ∷ ys) p h ls more fits =
      let r = fit_front texts (f x) (a_sign s ∷ (f y ++ gathered (λ z. a_sign s ∷ f z) ys)) ls fits in
      behind r.0 r.1 more r.2 r.3 r.4 (λ us fits2. parts_again k s plain inner y ys h.0 h.1 us more fits2)
    where
      behind : (us vs more : List Lexeme) → ls ≡ us ++ vs → FitPieces texts (f x) us → FitPieces texts (a_sign s ∷ (f y ++ gathered (λ z. a_sign s ∷ f z) ys)) vs
          → ((ws : List Lexeme) → FitPieces texts (f y ++ gathered (λ z. a_sign s ∷ f z) ys) ws → Separated k P (y ∷ ys) (ws ++ more) more) → Separated k P (x ∷ y ∷ ys) (ls ++ more) more
      behind us [] more e a b g = absurd b
      behind us (v ∷ vs) more e a b g =
          subst (λ z. Separated k P (x ∷ y ∷ ys) z more) (sym (append_assoc us (v ∷ vs) more) ∙ ap (λ z. z ++ more) (sym e))
          (separated (p.again us (v ∷ vs ++ more) a) (is_kind k v (b.0 ∙ plain.is)) (g vs b.1))

  parts_written : (s : List ℕ) (k : Kind) → IsPlainSign k s → (inner : List Turn) (xs : List A) → Each (IsPart texts P f inner) xs → Each (IsWritten texts) (gathered (λ y. a_sign s ∷ f y) xs)
  parts_written s k plain inner [] h = tt
  parts_written s k plain inner (x ∷ xs) h = (plain.sign, Each-append (IsWritten texts) (f x) (gathered (λ y. a_sign s ∷ f y) xs) h.0.written (parts_written s k plain inner xs h.1))

  parts_covered : (s : List ℕ) (k : Kind) → IsPlainSign k s → (inner : List Turn) (xs : List A) → Each (IsPart texts P f inner) xs → Covers inner (piece_turns (gathered (λ y. a_sign s ∷ f y) xs))
  parts_covered s k plain inner [] h = covers-nil inner
  parts_covered s k plain inner (x ∷ xs) h =
      covers-append inner (piece_turn (a_sign s) ∷ []) (piece_turns (f x ++ gathered (λ y. a_sign s ∷ f y) xs)) (covers-flat inner (piece_turn (a_sign s) ∷ []) (ap turn_of plain.is ∙ plain.flat, tt))
      (subst (λ z. Covers inner z) (sym (map-append piece_turn (f x) (gathered (λ y. a_sign s ∷ f y) xs))) (covers-append inner (piece_turns (f x)) (piece_turns (gathered (λ y. a_sign s ∷ f y) xs)) h.0.covers (parts_covered s k plain inner xs h.1)))

-- the lexemes are nothing, or a list in brackets; in both cases their parts are known
pub record InBrackets (texts : List (List ℕ)) {A : Type 0} (P : Rule A) (f : A → List Piece) (xs : List A) (ts rest : List Lexeme) : Type 0 where
  pub front : List Lexeme
  pub split : ts ≡ front ++ rest
  pub level : AreLevel (turns front)
  pub inner : List Turn
  pub is : (xs ≡ []) ⊎ (turns front ≡ Opens ∷ inner ++ Closes ∷ [])
  pub each : Each (IsPart texts P f inner) xs

module _ (texts : List (List ℕ)) {A : Type 0} (P : Rule A) (f : A → List Piece) where
  pub in_brackets : AreCanon texts P f → (k : Kind) → turn_of k ≡ Neither → {opening closing : Kind} {before after : List ℕ} → AreBrackets opening closing before after
      → {xs : List A} {ts rest : List Lexeme} → Each (IsReal texts) ts → MaybeEnclosed opening closing (Separated k P) xs ts rest → InBrackets texts P f xs ts rest
  in_brackets each k flat b real not_enclosed = record { front = []; split = refl; level = λ d. refl; inner = []; is = inl refl; each = tt }
  in_brackets each k flat {opening} {closing} b real (enclosed (within {o} {c} i nothing j)) = record {
    front = o ∷ c ∷ [];
    split = refl;
    level = λ d. ap (λ z. depth z (turn c)) (ap (depth d) (ap turn_of (one_kind opening o i) ∙ b.opens)) ∙ (ap (depth (depth d Opens)) (ap turn_of (one_kind closing c j) ∙ b.closes) ∙ one_less d);
    inner = [];
    is = inl refl;
    each = tt;
  }
    where
      one_less : (d : ℕ) → depth (depth d Opens) Closes ≡ d
      one_less d = omega arith
  in_brackets each k flat {opening} {closing} b {rest = rest} real (enclosed (within {o} {c} {ts} i (something r) j)) =
      let p = parts_of texts P f each k flat real.1 r in
      let whole = bracketed texts o c p.front opening closing b.opens b.closes (one_kind opening o i) (one_kind closing c j) in
      record {
        front = o ∷ p.front ++ c ∷ [];
        split = ap (λ z. o ∷ z) (p.split ∙ sym (append_assoc p.front (c ∷ []) rest));
        level = subst (λ z. AreLevel z) (sym whole) (level-enclosed (turns p.front) p.level);
        inner = turns p.front;
        is = inr whole;
        each = p.each;
      }

  gathered-map : (s : List ℕ) (xs : List A) → gathered (λ p. a_sign s ∷ p) (map f xs) ≡ gathered (λ y. a_sign s ∷ f y) xs
  gathered-map s [] = refl
  gathered-map s (x ∷ xs) = ap (λ z. (a_sign s ∷ f x) ++ z) (gathered-map s xs)

  -- a list in brackets of known parts
  pub canon_parts : {opening closing : Kind} {before after : List ℕ} → AreBrackets opening closing before after → IsPlainSign kind.Comma (codes ",") → {xs : List A} {ts rest : List Lexeme} (c : InBrackets texts P f xs ts rest) (ys : List A)
      → ((ys ≡ [] → ⊥) → xs ≡ [] → ⊥) → Each (IsPart texts P f c.inner) ys → Canon texts (MaybeEnclosed opening closing (Separated kind.Comma P) ys) (written_enclosed before (map f ys) after) ts rest
  canon_parts {opening} {closing} {before} {after} b comma c [] some each = record { front = c.front; split = c.split; level = c.level; written = tt; covers = covers-nil (turns c.front); again = none }
    where
      none : (ls more : List Lexeme) → FitPieces texts [] ls → MaybeEnclosed opening closing (Separated kind.Comma P) [] (ls ++ more) more
      none [] more h = not_enclosed
      none (l ∷ ls) more h = absurd h
  canon_parts {opening} {closing} {before} {after} b comma {ts = ts} {rest = rest} c (y ∷ ys) some each =
      let row = f y ++ gathered (λ z. a_sign (codes ",") ∷ f z) ys in
      let whole : written_enclosed before (map f (y ∷ ys)) after ≡ a_sign before ∷ row ++ a_sign after ∷ [] = ap (λ z. a_sign before ∷ (f y ++ z) ++ a_sign after ∷ []) (gathered-map (codes ",") ys) in
      let front : turns c.front ≡ Opens ∷ c.inner ++ Closes ∷ [] = elim c.is [ inl e ↦ absurd (some (λ n. cc) e) | inr e ↦ e ] in
      let row_covers : Covers c.inner (piece_turns row) =
      subst (λ z. Covers c.inner z) (sym (map-append piece_turn (f y) (gathered (λ z. a_sign (codes ",") ∷ f z) ys)))
      (covers-append c.inner (piece_turns (f y)) (piece_turns (gathered (λ z. a_sign (codes ",") ∷ f z) ys)) each.0.covers (parts_covered texts P f (codes ",") kind.Comma comma c.inner ys each.1))
      in
      let pieces = pieces_bracketed texts row before after (ap turn_of b.opening_is ∙ b.opens) (ap turn_of b.closing_is ∙ b.closes) in
      subst (λ z. Canon texts (MaybeEnclosed opening closing (Separated kind.Comma P) (y ∷ ys)) z ts rest) (sym whole) (record {
        front = c.front;
        split = c.split;
        level = c.level;
        written = (b.before_sign, Each-append (IsWritten texts) row (a_sign after ∷ []) (Each-append (IsWritten texts) (f y) (gathered (λ z. a_sign (codes ",") ∷ f z) ys) each.0.written (parts_written texts P f (codes ",") kind.Comma comma c.inner ys each.1)) (b.after_sign, tt));
        covers = subst (λ z. Covers z (piece_turns (a_sign before ∷ row ++ a_sign after ∷ []))) (sym front) (subst (λ z. Covers (Opens ∷ c.inner ++ Closes ∷ []) z) (sym pieces) (covers-enclosed c.inner (piece_turns row) row_covers));
        again = again;
      })
    where
      again : (ls more : List Lexeme) → FitPieces texts (a_sign before ∷ (f y ++ gathered (λ z. a_sign (codes ",") ∷ f z) ys) ++ a_sign after ∷ []) ls → MaybeEnclosed opening closing (Separated kind.Comma P) (y ∷ ys) (ls ++ more) more
      again [] more h = absurd h
      again (l ∷ ls) more h =
          let r = last_fit texts (f y ++ gathered (λ z. a_sign (codes ",") ∷ f z) ys) after ls h.1 in
          let is : r.0 ++ (r.1 ∷ more) ≡ ls ++ more = sym (append_assoc r.0 (r.1 ∷ []) more) ∙ ap (λ z. z ++ more) (sym r.2) in
          subst (λ z. MaybeEnclosed opening closing (Separated kind.Comma P) (y ∷ ys) (l ∷ z) more) is
          (enclosed (within (is_kind opening l (h.0 ∙ b.opening_is)) (something (parts_again texts P f kind.Comma (codes ",") comma c.inner y ys each.0 each.1 r.0 (r.1 ∷ more) r.3)) (is_kind closing r.1 (r.4 ∙ b.closing_is))))
