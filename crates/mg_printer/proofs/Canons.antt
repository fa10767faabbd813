-- How a part of a metagrammar, spelled in any way, is spelled again by its pieces.
use Rattle.std.specs.Prelude.{◌≡◌, ℕ, ◌≤◌, ◌<◌, List, [], ◌∷◌, ◌++◌, map, cond, Bool, true, false, ◌&&◌, nat_le, nat_lt, Some, slice_get, codes, refl}
use Rattle.std.proofs.Common.{sym, ap, ap₂, ◌∙◌, subst, arith, append_assoc, inl, inr}
use Rattle.std.proofs.lemmas.List.{map-append}
use Rattle.std.proofs.lemmas.Option.{get_or_from_slice_get}
use Rattle.gr_base.specs.Lists.{Each, IsAmong}
use Rattle.gr_base.proofs.ListLemmas.{Each-right, Each-append, IsAmong-slice_get}
use Rattle.gr_text.specs.Words.{is_word}
use Rattle.gr_symbols.specs.Numbers.{Names}
use Rattle.gr_terms.specs.declared.Sym.{Sym}
use Rattle.gr_tokens.specs.Tokens.{signs}
use Rattle.gr_grammar.specs.declared.brackets.Turn.{Turn}
use Rattle.gr_grammar.specs.declared.brackets.Turn.TheVariants.{Opens, Closes, Neither}
use Rattle.gr_grammar.specs.Depths.{depth}
use Rattle.mg_reader.specs.declared.lexeme.Kind.{Kind}
use Rattle.mg_reader.specs.declared.lexeme.Kind.TheVariants as kind
use Rattle.mg_reader.specs.declared.lexeme.Lexeme.{Lexeme}
use Rattle.mg_reader.specs.declared.lexeme.Class.{Class}
use Rattle.mg_reader.specs.declared.lexeme.Class.TheVariants as of
use Rattle.mg_reader.specs.Kinds.{kind_number, words, word_kind, sign_kind, low, high, turn, turn_of}
use Rattle.mg_reader.specs.Spelling.{Is, IsA, Rule, Enclosed, within}
use Rattle.mg_printer.specs.Pieces.{Piece, a_sign, a_key, a_word, a_name as name_piece, a_variable, text_of}
use Rattle.mg_printer.proofs.Covering.{AreLevel, Covers, level-append, level-enclosed, covers-nil, covers-both, covers-right, covers-enclosed, covers-flat}
use Rattle.mg_reader.proofs.KindLists.{one_kind, is_kind, flat_kind, in_range, same_class, texts_of, table_back}
use Rattle.mg_reader.proofs.Real.{IsWordText, IsReal, real_word, real_variable, real_name, word_class}
use Rattle.mg_printer.proofs.Fitting.{FitsPiece, FitPieces, IsWritten, name_kind_of}

-- what the lexemes and the pieces do to the brackets
abbrev pub turns : List Lexeme → List Turn
turns ls = map turn ls

abbrev pub piece_turn : Piece → Turn
piece_turn (a_sign t) = turn_of (sign_kind t)
piece_turn (a_key t) = Neither
piece_turn (a_word n) = Neither
piece_turn (name_piece n) = Neither
piece_turn (a_variable n) = Neither

abbrev pub piece_turns : List Piece → List Turn
piece_turns ps = map piece_turn ps

-- Lexemes in front of the rest spell something; the pieces can be written, keep within the same brackets, and any lexemes that fit them spell it again.
pub record Canon (texts : List (List ℕ)) (S : List Lexeme → List Lexeme → Type 0) (ps : List Piece) (ts rest : List Lexeme) : Type 0 where
  pub front : List Lexeme
  pub split : ts ≡ front ++ rest
  pub level : AreLevel (turns front)
  pub written : Each (IsWritten texts) ps
  pub covers : Covers (turns front) (piece_turns ps)
  pub again : (ls more : List Lexeme) → FitPieces texts ps ls → S (ls ++ more) more

abbrev pub Relation : Type 1
Relation = List Lexeme → List Lexeme → Type 0

-- lexemes of the first kind and then of the second
abbrev pub Then : Relation → Relation → List Lexeme → List Lexeme → Type 0
Then P Q ts rest = (mid : List Lexeme) × P ts mid × Q mid rest

-- one lexeme of which Q holds
abbrev pub One : (Lexeme → Type 0) → List Lexeme → List Lexeme → Type 0
One Q ts rest = (l : Lexeme) × (ts ≡ l ∷ rest) × Q l

-- none
abbrev pub Same : List Lexeme → List Lexeme → Type 0
Same ts rest = ts ≡ rest

module _ (texts : List (List ℕ)) where
  -- what is real of the whole is real of what is left
  pub rest_real : {S : List Lexeme → List Lexeme → Type 0} {ps : List Piece} {ts rest : List Lexeme} → Canon texts S ps ts rest → Each (IsReal texts) ts → Each (IsReal texts) rest
  rest_real {S} {ps} {ts} {rest} c real = Each-right (IsReal texts) c.front rest (subst (λ z. Each (IsReal texts) z) c.split real)

  pub canon_map : {S R : List Lexeme → List Lexeme → Type 0} {ps : List Piece} {ts rest : List Lexeme} → ((a b : List Lexeme) → S a b → R a b) → Canon texts S ps ts rest → Canon texts R ps ts rest
  canon_map f c = record { front = c.front; split = c.split; level = c.level; written = c.written; covers = c.covers; again = λ ls more h. f (ls ++ more) more (c.again ls more h) }

  pub canon_pieces : {S : List Lexeme → List Lexeme → Type 0} {ps qs : List Piece} {ts rest : List Lexeme} → ps ≡ qs → Canon texts S ps ts rest → Canon texts S qs ts rest
  canon_pieces {S} {ps} {qs} {ts} {rest} e c = subst (λ z. Canon texts S z ts rest) e c

  pub canon_none : {ts : List Lexeme} → Canon texts Same [] ts ts
  canon_none = record { front = []; split = refl; level = λ d. refl; written = tt; covers = covers-nil []; again = none }
    where
      none : (ls more : List Lexeme) → FitPieces texts [] ls → Same (ls ++ more) more
      none [] more h = refl
      none (l ∷ ls) more h = absurd h

  pub fit_front : (ps qs : List Piece) (ls : List Lexeme) → FitPieces texts (ps ++ qs) ls → (xs : List Lexeme) × (ys : List Lexeme) × (ls ≡ xs ++ ys) × FitPieces texts ps xs × FitPieces texts qs ys
  fit_front [] qs ls h = ([], ls, refl, tt, h)
  fit_front (p ∷ ps) qs [] h = absurd h
  fit_front (p ∷ ps) qs (l ∷ ls) h =
      let r = fit_front ps qs ls h.1 in
      (l ∷ r.0, r.1, ap (λ z. l ∷ z) r.2, (h.0, r.3), r.4)

  pub canon_then : {P Q : List Lexeme → List Lexeme → Type 0} {ps qs : List Piece} {ts mid rest : List Lexeme} → Canon texts P ps ts mid → Canon texts Q qs mid rest → Canon texts (Then P Q) (ps ++ qs) ts rest
  canon_then {P} {Q} {ps} {qs} {ts} {mid} {rest} a b = record {
    front = a.front ++ b.front;
    split = a.split ∙ (ap (λ z. a.front ++ z) b.split ∙ sym (append_assoc a.front b.front rest));
    level = subst (λ z. AreLevel z) (sym (map-append turn a.front b.front)) (level-append (turns a.front) (turns b.front) a.level b.level);
    written = Each-append (IsWritten texts) ps qs a.written b.written;
    covers = subst (λ z. Covers z (piece_turns (ps ++ qs))) (sym (map-append turn a.front b.front))
        (subst (λ z. Covers (turns a.front ++ turns b.front) z) (sym (map-append piece_turn ps qs)) (covers-both (turns a.front) (turns b.front) (piece_turns ps) (piece_turns qs) a.level a.covers b.covers));
    again = λ ls more h.
        let r = fit_front ps qs ls h in
        let is : r.0 ++ (r.1 ++ more) ≡ ls ++ more = sym (append_assoc r.0 r.1 more) ∙ ap (λ z. z ++ more) (sym r.2) in
        (r.1 ++ more, subst (λ z. P z (r.1 ++ more)) is (a.again r.0 (r.1 ++ more) r.3), b.again r.1 more r.4);
  }

  -- one lexeme that is no bracket, and a piece for it
  pub canon_one : {Q : Lexeme → Type 0} {ts : List Lexeme} (p : Piece) (l : Lexeme) → turn l ≡ Neither → piece_turn p ≡ Neither → IsWritten texts p → ((k : Lexeme) → FitsPiece texts p k → Q k) → Canon texts (One Q) (p ∷ []) (l ∷ ts) ts
  canon_one {Q} p l flat piece_flat w f = record {
    front = l ∷ [];
    split = refl;
    level = λ d. ap (depth d) flat;
    written = (w, tt);
    covers = covers-flat (turns (l ∷ [])) (piece_turns (p ∷ [])) (piece_flat, tt);
    again = λ ls more h. again ls more h;
  }
    where
      again : (ls more : List Lexeme) → FitPieces texts (p ∷ []) ls → One Q (ls ++ more) more
      again [] more h = absurd h
      again (k ∷ []) more h = (k, refl, f k h.0)
      again (k ∷ j ∷ ls) more h = absurd h.1

  -- a lexeme that is no bracket is left out
  pub canon_skip : {S : List Lexeme → List Lexeme → Type 0} {ps : List Piece} {ts rest : List Lexeme} (l : Lexeme) → turn l ≡ Neither → Canon texts S ps ts rest → Canon texts S ps (l ∷ ts) rest
  canon_skip {S} {ps} l flat c =
      let one : AreLevel (turns (l ∷ [])) = λ d. ap (depth d) flat in
      record {
        front = l ∷ c.front;
        split = ap (λ z. l ∷ z) c.split;
        level = level-append (turns (l ∷ [])) (turns c.front) one c.level;
        written = c.written;
        covers = covers-right (turns (l ∷ [])) (turns c.front) (piece_turns ps) one c.covers;
        again = c.again;
      }

-- two kinds of brackets and their signs
pub record AreBrackets (opening closing : Kind) (before after : List ℕ) : Type 0 where
  pub opening_is : sign_kind before ≡ opening
  pub closing_is : sign_kind after ≡ closing
  pub opens : turn_of opening ≡ Opens
  pub closes : turn_of closing ≡ Closes
  pub before_sign : IsAmong signs before
  pub after_sign : IsAmong signs after

among : (i : ℕ) (t : List ℕ) → slice_get signs i ≡ Some t → IsAmong signs t
among i t e = IsAmong-slice_get signs i t e

pub parens : AreBrackets kind.LeftParen kind.RightParen (codes "(") (codes ")")
parens = record { opening_is = refl; closing_is = refl; opens = refl; closes = refl; before_sign = among 18 (codes "(") refl; after_sign = among 19 (codes ")") refl }

pub square : AreBrackets kind.LeftBracket kind.RightBracket (codes "[") (codes "]")
square = record { opening_is = refl; closing_is = refl; opens = refl; closes = refl; before_sign = among 20 (codes "[") refl; after_sign = among 21 (codes "]") refl }

pub braces : AreBrackets kind.LeftBrace kind.RightBrace (codes "{") (codes "}")
braces = record { opening_is = refl; closing_is = refl; opens = refl; closes = refl; before_sign = among 22 (codes "{") refl; after_sign = among 23 (codes "}") refl }

module _ (texts : List (List ℕ)) where
  pub last_fit : (ps : List Piece) (t : List ℕ) (ls : List Lexeme) → FitPieces texts (ps ++ a_sign t ∷ []) ls → (xs : List Lexeme) × (c : Lexeme) × (ls ≡ xs ++ c ∷ []) × FitPieces texts ps xs × (c.kind ≡ sign_kind t)
  last_fit [] t [] h = absurd h
  last_fit [] t (c ∷ []) h = ([], c, refl, tt, h.0)
  last_fit [] t (c ∷ d ∷ ls) h = absurd h.1
  last_fit (p ∷ ps) t [] h = absurd h
  last_fit (p ∷ ps) t (l ∷ ls) h = let r = last_fit ps t ls h.1 in (l ∷ r.0, r.1, ap (λ z. l ∷ z) r.2, (h.0, r.3), r.4)

  pub bracketed : (o c : Lexeme) (xs : List Lexeme) (before after : Kind) → turn_of before ≡ Opens → turn_of after ≡ Closes → o.kind ≡ before → c.kind ≡ after → turns (o ∷ xs ++ c ∷ []) ≡ Opens ∷ turns xs ++ Closes ∷ []
  bracketed o c xs before after p q e f =
      ap₂ (λ x zs. x ∷ zs) (ap turn_of e ∙ p) (map-append turn xs (c ∷ []) ∙ ap (λ y. turns xs ++ y ∷ []) (ap turn_of f ∙ q))

  pub pieces_bracketed : (ps : List Piece) (before after : List ℕ) → turn_of (sign_kind before) ≡ Opens → turn_of (sign_kind after) ≡ Closes → piece_turns (a_sign before ∷ ps ++ a_sign after ∷ []) ≡ Opens ∷ piece_turns ps ++ Closes ∷ []
  pieces_bracketed ps before after p q = ap₂ (λ x zs. x ∷ zs) p (map-append piece_turn ps (a_sign after ∷ []) ∙ ap (λ y. piece_turns ps ++ y ∷ []) q)

  pub canon_enclosed : {A : Type 0} {R : Rule A} {x : A} {opening closing : Kind} {before after : List ℕ} {ps : List Piece} {ts rest : List Lexeme} {o c : Lexeme} → AreBrackets opening closing before after
      → IsA opening o → Canon texts (R x) ps ts (c ∷ rest) → IsA closing c → Canon texts (Enclosed opening closing R x) (a_sign before ∷ ps ++ a_sign after ∷ []) (o ∷ ts) rest
  canon_enclosed {A} {R} {x} {opening} {closing} {before} {after} {ps} {ts} {rest} {o} {c} b i inner j =
      let front = bracketed o c inner.front opening closing b.opens b.closes (one_kind opening o i) (one_kind closing c j) in
      let pieces = pieces_bracketed ps before after (ap turn_of b.opening_is ∙ b.opens) (ap turn_of b.closing_is ∙ b.closes) in
      record {
        front = o ∷ inner.front ++ c ∷ [];
        split = ap (λ z. o ∷ z) (inner.split ∙ sym (append_assoc inner.front (c ∷ []) rest));
        level = subst (λ z. AreLevel z) (sym front) (level-enclosed (turns inner.front) inner.level);
        written = (b.before_sign, Each-append (IsWritten texts) ps (a_sign after ∷ []) inner.written (b.after_sign, tt));
        covers = subst (λ z. Covers z (piece_turns (a_sign before ∷ ps ++ a_sign after ∷ []))) (sym front)
            (subst (λ z. Covers (Opens ∷ turns inner.front ++ Closes ∷ []) z) (sym pieces) (covers-enclosed (turns inner.front) (piece_turns ps) inner.covers));
        again = again;
      }
    where
      again : (ls more : List Lexeme) → FitPieces texts (a_sign before ∷ ps ++ a_sign after ∷ []) ls → Enclosed opening closing R x (ls ++ more) more
      again [] more h = absurd h
      again (l ∷ ls) more h =
          let r = last_fit ps after ls h.1 in
          let is : r.0 ++ (r.1 ∷ more) ≡ ls ++ more = sym (append_assoc r.0 (r.1 ∷ []) more) ∙ ap (λ z. z ++ more) (sym r.2) in
          subst (λ z. Enclosed opening closing R x (l ∷ z) more) is
          (within (is_kind opening l (h.0 ∙ b.opening_is)) (inner.again r.0 (r.1 ∷ more) r.3) (is_kind closing r.1 (r.4 ∙ b.closing_is)))

  -- brackets round nothing that is written are left out with what they have
  pub canon_no_brackets : {S : List Lexeme → List Lexeme → Type 0} {opening closing : Kind} {before after : List ℕ} {ps : List Piece} {ts rest : List Lexeme} {R : List Lexeme → List Lexeme → Type 0} {o c : Lexeme} → AreBrackets opening closing before after
      → IsA opening o → Canon texts R ps ts (c ∷ rest) → IsA closing c → ((more : List Lexeme) → S more more) → Canon texts S [] (o ∷ ts) rest
  canon_no_brackets {S} {opening} {closing} {before} {after} {ps} {ts} {rest} {R} {o} {c} b i inner j none =
      let front = bracketed o c inner.front opening closing b.opens b.closes (one_kind opening o i) (one_kind closing c j) in
      record {
        front = o ∷ inner.front ++ c ∷ [];
        split = ap (λ z. o ∷ z) (inner.split ∙ sym (append_assoc inner.front (c ∷ []) rest));
        level = subst (λ z. AreLevel z) (sym front) (level-enclosed (turns inner.front) inner.level);
        written = tt;
        covers = covers-nil (turns (o ∷ inner.front ++ c ∷ []));
        again = again;
      }
    where
      again : (ls more : List Lexeme) → FitPieces texts [] ls → S (ls ++ more) more
      again [] more h = none more
      again (l ∷ ls) more h = absurd h

  -- a sign that is no bracket
  pub canon_sign : {ts : List Lexeme} (k : Kind) (s : List ℕ) → sign_kind s ≡ k → turn_of k ≡ Neither → IsAmong signs s → (l : Lexeme) → IsA k l → Canon texts (One (IsA k)) (a_sign s ∷ []) (l ∷ ts) ts
  canon_sign k s is flat sign l i =
      canon_one texts (a_sign s) l (ap turn_of (one_kind k l i) ∙ flat) (ap turn_of is ∙ flat) sign (λ j f. is_kind k j (f ∙ is))

  -- the number of a keyword's name is that of its text
  pub key_name : (k : Kind) (s : List ℕ) → texts_of (kind_number k) words ≡ s ∷ [] → (kind_number k ≡ 52 → ⊥) → 26 ≤ kind_number k → (l : Lexeme) → IsReal texts l → IsA k l → Names texts l.name.0 s
  key_name k s one no_word high l real i =
      let kind_is = one_kind k l i in
      let w = real_word texts l real (subst (λ z. 26 ≤ kind_number z) (sym kind_is) high) in
      let back : IsAmong (texts_of (kind_number k) words) w.text = table_back words (kind_number k) w.text no_word (ap kind_number (sym w.kind_is ∙ kind_is)) in
      subst (λ z. Names texts l.name.0 z) (only s w.text (subst (λ z. IsAmong z w.text) one back)) w.names
    where
      only : (s text : List ℕ) → IsAmong (s ∷ []) text → text ≡ s
      only s text (inl e) = e
      only s text (inr n) = absurd n

  -- a keyword
  pub canon_key : {ts : List Lexeme} (k : Kind) (s : List ℕ) → word_kind s ≡ k → texts_of (kind_number k) words ≡ s ∷ [] → (kind_number k ≡ 52 → ⊥) → 26 ≤ kind_number k → kind_number k < 56 → (l : Lexeme) → IsReal texts l → IsA k l
      → Canon texts (One (λ j. IsA k j × Names texts j.name.0 s)) (a_key s ∷ []) (l ∷ ts) ts
  canon_key k s is one no_word high small l real i =
      let kind_is = one_kind k l i in
      let w = real_word texts l real (subst (λ z. 26 ≤ kind_number z) (sym kind_is) high) in
      let back : IsAmong (texts_of (kind_number k) words) w.text = table_back words (kind_number k) w.text no_word (ap kind_number (sym w.kind_is ∙ kind_is)) in
      let text_is : w.text ≡ s = only s w.text (subst (λ z. IsAmong z w.text) one back) in
      canon_one texts (a_key s) l (ap turn_of kind_is ∙ flat_kind k (omega (arith, high)) small) refl ((l.name.0, subst (λ z. Names texts l.name.0 z) text_is w.names), subst (λ z. IsWordText z) text_is w.is)
      (λ j f. (is_kind k j (f.0 ∙ is), f.1))
    where
      only : (s text : List ℕ) → IsAmong (s ∷ []) text → text ≡ s
      only s text (inl e) = e
      only s text (inr n) = absurd n

  pub same_sym : (a b : Sym) → a.0 ≡ b.0 → a ≡ b
  same_sym a b e = ap {B = Sym} (λ n. record { 0 = n }) e

  text_at : (n : ℕ) (t : List ℕ) → Names texts n t → text_of texts n ≡ t
  text_at n t e = get_or_from_slice_get texts n t [] e

  -- a word of a class, a variable and a name, each with its name's number
  pub canon_word : {ts : List Lexeme} (c : Class) → 26 ≤ low c → high c ≤ 56 → (l : Lexeme) → IsReal texts l → Is c l → Canon texts (One (λ j. Is c j × (j.name ≡ l.name))) (a_word l.name.0 ∷ []) (l ∷ ts) ts
  canon_word c most few l real i =
      let r = in_range c l i in
      let w = real_word texts l real (omega (arith, r.0, most)) in
      canon_one texts (a_word l.name.0) l (flat_kind l.kind (omega (arith, r.0, most)) (omega (arith, r.1, few))) refl (w.text, w.names, w.is)
      (λ j f. (same_class c l j (f.0 ∙ (ap word_kind (text_at l.name.0 w.text w.names) ∙ sym w.kind_is)) i, same_sym j.name l.name f.1))

  pub canon_variable : {ts : List Lexeme} (l : Lexeme) → IsReal texts l → IsA kind.Var l → Canon texts (One (λ j. IsA kind.Var j × (j.name ≡ l.name))) (a_variable l.name.0 ∷ []) (l ∷ ts) ts
  canon_variable l real i =
      let v = real_variable texts l real (one_kind kind.Var l i) in
      canon_one texts (a_variable l.name.0) l (ap turn_of (one_kind kind.Var l i)) refl (v.text, v.names, v.is) (λ j f. (is_kind kind.Var j f.0, same_sym j.name l.name f.1))

  pub canon_name : {ts : List Lexeme} (l : Lexeme) → IsReal texts l → Is of.Name l → Canon texts (One (λ j. Is of.Name j × (j.name ≡ l.name))) (name_piece l.name.0 ∷ []) (l ∷ ts) ts
  canon_name l real i =
      let r = in_range of.Name l i in
      let n = real_name texts l real r.0 in
      canon_one texts (name_piece l.name.0) l (flat_kind l.kind (omega (arith, r.0)) r.1) refl (n.text, n.names, record { inside = n.inside; short = n.short; utf8 = n.utf8 }) (λ j f. (name_class j (text_of texts l.name.0) f.0, same_sym j.name l.name f.1))
    where
      name_class : (j : Lexeme) (t : List ℕ) → j.kind ≡ name_kind_of t → Is of.Name j
      name_class j t e = ap (λ k. nat_le 25 (kind_number k) && nat_lt (kind_number k) 56) e ∙ by (is_word t)
        where
          by : (b : Bool) → (nat_le 25 (kind_number (cond b (word_kind t) kind.Str)) && nat_lt (kind_number (cond b (word_kind t) kind.Str)) 56) ≡ true
          by true = word_class t
          by false = refl

  -- a name that is a word of a class
  pub canon_name_of : {ts : List Lexeme} (c : Class) → 26 ≤ low c → high c ≤ 56 → (l : Lexeme) → IsReal texts l → Is c l → Canon texts (One (λ j. Is c j × (j.name ≡ l.name))) (name_piece l.name.0 ∷ []) (l ∷ ts) ts
  canon_name_of c most few l real i =
      let r = in_range c l i in
      let n = real_name texts l real (omega (arith, r.0, most)) in
      let w = real_word texts l real (omega (arith, r.0, most)) in
      let kind_is : name_kind_of (text_of texts l.name.0) ≡ l.kind = ap name_kind_of (text_at l.name.0 w.text w.names) ∙ (ap (λ b. cond b (word_kind w.text) kind.Str) w.is.word ∙ sym w.kind_is) in
      canon_one texts (name_piece l.name.0) l (flat_kind l.kind (omega (arith, r.0, most)) (omega (arith, r.1, few))) refl (n.text, n.names, record { inside = n.inside; short = n.short; utf8 = n.utf8 })
      (λ j f. (same_class c l j (f.0 ∙ kind_is) i, same_sym j.name l.name f.1))
