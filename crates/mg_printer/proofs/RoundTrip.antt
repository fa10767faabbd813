-- The canonical spelling spells the same metagrammar.
use Rattle.std.specs.Prelude.{◌≡◌, ℕ, ◌≤◌, ◌<◌, zero, suc, List, [], ◌∷◌, ◌++◌, length, map, cond, codes, Bool, true, false, ◌&&◌, nat_le, nat_lt, refl}
use Rattle.std.specs.Str.{IsUtf8, IsAscii}
use Rattle.std.proofs.Common.{sym, ap, ap₂, ◌∙◌, subst, arith, lit≤}
use Rattle.std.proofs.lemmas.Bool.{and_parts, leb-true, ltb-true}
use Rattle.std.proofs.lemmas.List.{append-nil, map-append}
use Rattle.std.proofs.lemmas.Option.{get_or_from_slice_get}
use Rattle.std.proofs.lemmas.Str.{IsUtf8-from_ascii}
use Rattle.gr_base.specs.Lists.{Each, IsAmong, NoneTwice, joined, gathered}
use Rattle.gr_base.proofs.ListLemmas.{Each-left, Each-right, Each-at, slice_get-append_left}
use Rattle.gr_text.specs.Words.{is_word}
use Rattle.gr_symbols.specs.Numbers.{Names, Grows, first_texts}
use Rattle.gr_terms.specs.Constants.{CAT}
use Rattle.gr_terms.specs.declared.Sym.{Sym}
use Rattle.gr_terms.specs.declared.TheConstants.{EMPTY}
use Rattle.gr_tokens.specs.declared.Kind.{Kind as Cut}
use Rattle.gr_tokens.specs.declared.Kind.TheVariants.{Word, Str, Var, Punct}
use Rattle.gr_tokens.specs.declared.Token.{Token}
use Rattle.gr_tokens.specs.Tokens.{Writes, signs}
use Rattle.gr_tokens.specs.Spans.{slice_of}
use Rattle.gr_tokens.proofs.SpanLemmas.{slices}
use Rattle.gr_reader.specs.declared.brackets.TheConstants.{BRACKET_LIMIT}
use Rattle.gr_reader.proofs.Texts.{all_have, all_written}
use Rattle.gr_grammar.specs.declared.brackets.Turn.TheVariants.{Neither}
use Rattle.gr_grammar.specs.Depths.{depth, IsShallow}
use Rattle.gr_texts.specs.Lexemes.{IsLexeme as CanBeWritten, Says, SayAll, name_kind}
use Rattle.gr_texts.proofs.Naming.{name_is_lexeme}
use Rattle.gr_texts.proofs.Printing.{printed-tokens}
use Rattle.mg_syntax.specs.declared.item.Item.{Item}
use Rattle.mg_reader.specs.declared.lexeme.Kind.TheVariants as kind
use Rattle.mg_reader.specs.declared.lexeme.Lexeme.{Lexeme}
use Rattle.mg_reader.specs.Kinds.{word_kind, kind_number, turn, turn_of}
use Rattle.mg_reader.specs.Lexemes.{kind_of, HasName, IsLexeme, EachIs}
use Rattle.mg_reader.specs.Spelling.{Maybe, Row, SpellsItem}
use Rattle.mg_reader.specs.Answers.{IsMetagrammar}
use Rattle.mg_printer.specs.Pieces.{Piece, a_sign, a_key, a_word, a_name, a_variable, text_of, lexeme_of}
use Rattle.mg_printer.specs.Items.{item_pieces}
use Rattle.mg_printer.specs.Printing.{canonical, spelling}
use Rattle.mg_printer.proofs.Covering.{Fits}
use Rattle.mg_reader.proofs.Real.{grown, Has, reals, word_class}
use Rattle.mg_printer.proofs.Fitting.{IsWritten, FitsPiece, FitPieces}
use Rattle.mg_reader.proofs.KindLists.{flat_kind}
use Rattle.mg_printer.proofs.Canons.{turns, piece_turn, piece_turns, Canon}
use Rattle.mg_printer.proofs.CanonItems.{canon_items}

-- brackets of lexemes are those of their turns
fits_turns : (limit d : ℕ) (ls : List Lexeme) → IsShallow turn limit d ls → Fits limit d (turns ls)
fits_turns limit d [] h = tt
fits_turns limit d (l ∷ ls) h = (h.0, fits_turns limit (depth d (turn l)) ls h.1)

turns_fit : (limit d : ℕ) (ls : List Lexeme) → Fits limit d (turns ls) → IsShallow turn limit d ls
turns_fit limit d [] h = tt
turns_fit limit d (l ∷ ls) h = (h.0, turns_fit limit (depth d (turn l)) ls h.1)

-- a text of bytes below 128 is UTF-8
all_low : List ℕ → Bool
all_low [] = true
all_low (b ∷ bs) = nat_lt b 128 && all_low bs

low_ascii : (bs : List ℕ) → all_low bs ≡ true → IsAscii bs
unfolding all_low
low_ascii [] h i = omega arith
low_ascii (b ∷ bs) h zero = ltb-true b 128 (and_parts (nat_lt b 128) (all_low bs) h).0
low_ascii (b ∷ bs) h (suc i) = low_ascii bs (and_parts (nat_lt b 128) (all_low bs) h).1 i

ascii-utf8 : (bs : List ℕ) → all_low bs ≡ true → IsUtf8 bs
ascii-utf8 bs h = IsUtf8-from_ascii bs (low_ascii bs h)

word_range : (t : List ℕ) → (24 ≤ kind_number (word_kind t)) × (kind_number (word_kind t) < 56)
word_range t =
    let p = and_parts (nat_le 25 (kind_number (word_kind t))) (nat_lt (kind_number (word_kind t)) 56) (word_class t) in
    (omega (arith, leb-true 25 (kind_number (word_kind t)) p.0), ltb-true (kind_number (word_kind t)) 56 p.1)

module _ (texts : List (List ℕ)) where
  text_at : (n : ℕ) (t : List ℕ) → Names texts n t → text_of texts n ≡ t
  text_at n t e = get_or_from_slice_get texts n t [] e

  -- what can be written is a lexeme
  sign_utf8 : (t : List ℕ) → IsAmong signs t → IsUtf8 t
  unfolding all_low
  sign_utf8 t i = Each-at IsUtf8 signs t (ascii-utf8 _ refl, (ascii-utf8 _ refl, (ascii-utf8 _ refl, (ascii-utf8 _ refl, (ascii-utf8 _ refl, (ascii-utf8 _ refl, (ascii-utf8 _ refl, (ascii-utf8 _ refl, (ascii-utf8 _ refl, (ascii-utf8 _ refl, (ascii-utf8 _ refl, (ascii-utf8 _ refl, (ascii-utf8 _ refl, (ascii-utf8 _ refl, (ascii-utf8 _ refl, (ascii-utf8 _ refl, (ascii-utf8 _ refl, (ascii-utf8 _ refl, (ascii-utf8 _ refl, (ascii-utf8 _ refl, (ascii-utf8 _ refl, (ascii-utf8 _ refl, (ascii-utf8 _ refl, (ascii-utf8 _ refl, tt)))))))))))))))))))))))) i

  sign_short : (t : List ℕ) → IsAmong signs t → length t ≤ 255
  sign_short t i = Each-at (λ z. length z ≤ 255) signs t (lit≤ tt, (lit≤ tt, (lit≤ tt, (lit≤ tt, (lit≤ tt, (lit≤ tt, (lit≤ tt, (lit≤ tt, (lit≤ tt, (lit≤ tt, (lit≤ tt, (lit≤ tt, (lit≤ tt, (lit≤ tt, (lit≤ tt, (lit≤ tt, (lit≤ tt, (lit≤ tt, (lit≤ tt, (lit≤ tt, (lit≤ tt, (lit≤ tt, (lit≤ tt, (lit≤ tt, tt)))))))))))))))))))))))) i

  can_be_written : (p : Piece) → IsWritten texts p → CanBeWritten (lexeme_of texts p)
  can_be_written (a_sign t) w = record { writes = (refl, w); short = sign_short t w; utf8 = sign_utf8 t w }
  can_be_written (a_key t) w = record { writes = (refl, w.1.word); short = w.1.short; utf8 = w.1.utf8 }
  can_be_written (a_word n) (t, e, w) = subst (λ z. CanBeWritten (record { kind = Word; text = z })) (sym (text_at n t e)) (record { writes = (refl, w.word); short = w.short; utf8 = w.utf8 })
  can_be_written (a_name n) (t, e, w) = subst (λ z. CanBeWritten (record { kind = name_kind z; text = z })) (sym (text_at n t e)) (name_is_lexeme t w)
  can_be_written (a_variable n) (t, e, w) = subst (λ z. CanBeWritten (record { kind = Var; text = z })) (sym (text_at n t e)) (record { writes = (refl, w.word); short = w.short; utf8 = w.utf8 })

  each_can : (ps : List Piece) → Each (IsWritten texts) ps → Each CanBeWritten (map (lexeme_of texts) ps)
  each_can [] h = tt
  each_can (p ∷ ps) h = (can_be_written p h.0, each_can ps h.1)

  all_can : (m : List Item) → Each (IsWritten texts) (gathered item_pieces m) → Each (Each CanBeWritten) (canonical texts m)
  all_can [] h = tt
  all_can (i ∷ m) h =
      (each_can (item_pieces i) (Each-left (IsWritten texts) (item_pieces i) (gathered item_pieces m) h), all_can m (Each-right (IsWritten texts) (item_pieces i) (gathered item_pieces m) h))

  in_a_row : (m : List Item) → joined (canonical texts m) ≡ map (lexeme_of texts) (gathered item_pieces m)
  in_a_row [] = refl
  in_a_row (i ∷ m) = ap (λ z. map (lexeme_of texts) (item_pieces i) ++ z) (in_a_row m) ∙ sym (map-append (lexeme_of texts) (item_pieces i) (gathered item_pieces m))

  -- the lexeme of a token that says what a piece says
  record Read (bytes : List ℕ) (t : Token) (p : Piece) : Type 0 where
    lexeme : Lexeme
    is : IsLexeme bytes texts t lexeme
    fits : FitsPiece texts p lexeme

  kind_said : (k j : Cut) (text own : List ℕ) → k ≡ j → Writes j text own → Writes k text own
  kind_said k j text own e w = subst (λ z. Writes z text own) (sym e) w

  made : (bytes : List ℕ) (t : Token) (p : Piece) (c : Cut) (text : List ℕ) (s : Sym) → t.kind ≡ c → Writes c text (slice_of bytes t) → HasName texts c text s → ((l : Lexeme) → l.kind ≡ kind_of c text → l.name ≡ s → FitsPiece texts p l) → Read bytes t p
  made bytes t p c text s e w n f =
      let l : Lexeme = record { kind = kind_of c text; name = s; place = t.place } in
      record {
        lexeme = l;
        is = record {
          text = text;
          writes = kind_said t.kind c text (slice_of bytes t) e w;
          is = ap (λ z. kind_of z text) (sym e);
          named = subst (λ z. HasName texts z text s) (sym e) n;
          stands = refl;
        };
        fits = f l refl refl;
      }

  name_read : (b : Bool) (text : List ℕ) → kind_of (cond b Word Str) text ≡ cond b (word_kind text) kind.Str
  name_read true text = refl
  name_read false text = refl

  name_named : (b : Bool) (text : List ℕ) (s : Sym) → Names texts s.0 text → HasName texts (cond b Word Str) text s
  name_named true text s n = n
  name_named false text s n = n

  sym_of : ℕ → Sym
  sym_of n = record { 0 = n }

  read_one : (bytes : List ℕ) (t : Token) (p : Piece) → IsWritten texts p → Says bytes t (lexeme_of texts p) → Read bytes t p
  unfolding sym_of
  read_one bytes t (a_sign s) w h = made bytes t (a_sign s) Punct s EMPTY h.kind h.writes refl (λ l e f. e)
  read_one bytes t (a_key s) w h = made bytes t (a_key s) Word s (sym_of w.0.0) h.kind h.writes w.0.1 (λ l e f. (e, subst (λ (z : Sym). Names texts z.0 s) (sym f) w.0.1))
  read_one bytes t (a_word n) (s, e, w) h =
      made bytes t (a_word n) Word (text_of texts n) (sym_of n) h.kind h.writes (subst (λ z. Names texts n z) (sym (text_at n s e)) e) (λ l k f. (k, ap (λ (z : Sym). z.0) f))
  read_one bytes t (a_name n) (s, e, w) h =
      made bytes t (a_name n) (name_kind (text_of texts n)) (text_of texts n) (sym_of n) h.kind h.writes
      (name_named (is_word (text_of texts n)) (text_of texts n) (sym_of n) (subst (λ z. Names texts n z) (sym (text_at n s e)) e))
      (λ l k f. (k ∙ name_read (is_word (text_of texts n)) (text_of texts n), ap (λ (z : Sym). z.0) f))
  read_one bytes t (a_variable n) (s, e, w) h =
      made bytes t (a_variable n) Var (text_of texts n) (sym_of n) h.kind h.writes (subst (λ z. Names texts n z) (sym (text_at n s e)) e) (λ l k f. (k, ap (λ (z : Sym). z.0) f))

  -- those of all tokens
  record ReadAll (bytes : List ℕ) (ts : List Token) (ps : List Piece) : Type 0 where
    lexemes : List Lexeme
    each : EachIs bytes texts ts lexemes
    fit : FitPieces texts ps lexemes

  read_all : (bytes : List ℕ) (ts : List Token) (ps : List Piece) → Each (IsWritten texts) ps → SayAll bytes ts (map (lexeme_of texts) ps) → ReadAll bytes ts ps
  read_all bytes [] [] w h = record { lexemes = []; each = tt; fit = tt }
  read_all bytes [] (p ∷ ps) w h = absurd h
  read_all bytes (t ∷ ts) [] w h = absurd h
  read_all bytes (t ∷ ts) (p ∷ ps) w h =
      let one = read_one bytes t p w.0 h.0 in
      let more = read_all bytes ts ps w.1 h.1 in
      record { lexemes = one.lexeme ∷ more.lexemes; each = (one.is, more.each); fit = (one.fits, more.fit) }

  -- which do to brackets what the pieces do
  flat_word : (t : List ℕ) → turn_of (word_kind t) ≡ Neither
  flat_word t = let p = word_range t in flat_kind (word_kind t) p.0 p.1

  flat_name : (b : Bool) (t : List ℕ) → turn_of (cond b (word_kind t) kind.Str) ≡ Neither
  flat_name true t = flat_word t
  flat_name false t = refl

  one_turn : (p : Piece) (l : Lexeme) → FitsPiece texts p l → turn l ≡ piece_turn p
  one_turn (a_sign t) l f = ap turn_of f
  one_turn (a_key t) l f = ap turn_of f.0 ∙ flat_word t
  one_turn (a_word n) l f = ap turn_of f.0 ∙ flat_word (text_of texts n)
  one_turn (a_name n) l f = ap turn_of f.0 ∙ flat_name (is_word (text_of texts n)) (text_of texts n)
  one_turn (a_variable n) l f = ap turn_of f.0

  same_turns : (ps : List Piece) (ls : List Lexeme) → FitPieces texts ps ls → turns ls ≡ piece_turns ps
  same_turns [] [] f = refl
  same_turns [] (l ∷ ls) f = absurd f
  same_turns (p ∷ ps) [] f = absurd f
  same_turns (p ∷ ps) (l ∷ ls) f = ap₂ (λ x xs. x ∷ xs) (one_turn p l f.0) (same_turns ps ls f.1)

-- the lexemes of a metagrammar are spelled again
canon_of : (bytes : List ℕ) (texts later : List (List ℕ)) (m : List Item) → Grows first_texts texts → Grows texts later → NoneTwice later → (g : IsMetagrammar bytes texts m) → Canon later (Maybe (Row SpellsItem) m) (gathered item_pieces m) g.lexemes []
canon_of bytes texts later m first grows distinct g =
    let has = grown texts later grows in
    let ts = g.are.tokens in
    let real = reals bytes texts later ts g.lexemes has (slices bytes [] bytes [] ts refl g.are.are.cut) (all_have bytes ts g.are.are) (all_written bytes ts g.are.are) g.are.each in
    canon_items later distinct (has CAT (codes "cat") (grown first_texts texts first CAT (codes "cat") refl)) m g.lexemes [] real g.spelled

pub read_again : (bytes : List ℕ) (texts later : List (List ℕ)) (m : List Item) → Grows first_texts texts → Grows texts later → NoneTwice later → IsMetagrammar bytes texts m → IsMetagrammar (spelling later m) later m
read_again bytes texts later m first grows distinct g =
    let c = canon_of bytes texts later m first grows distinct g in
    let ps = gathered item_pieces m in
    let p = printed-tokens (canonical later m) (all_can later m c.written) in
    let r = read_all later (spelling later m) p.0 ps c.written (subst (λ z. SayAll (spelling later m) p.0 z) (in_a_row later m) p.2) in
    let front : g.lexemes ≡ c.front = c.split ∙ append-nil c.front in
    record {
      lexemes = r.lexemes;
      are = record { tokens = p.0; are = p.1; each = r.each };
      spelled = subst (λ z. Maybe (Row SpellsItem) m z []) (append-nil r.lexemes) (c.again r.lexemes [] r.fit);
      shallow = turns_fit BRACKET_LIMIT 0 r.lexemes (subst (λ z. Fits BRACKET_LIMIT 0 z) (sym (same_turns later ps r.lexemes r.fit)) (c.covers.keeps BRACKET_LIMIT 0 (subst (λ z. Fits BRACKET_LIMIT 0 (turns z)) front (fits_turns BRACKET_LIMIT 0 g.lexemes g.shallow))));
      few = g.few;
    }
