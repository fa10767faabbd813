-- What is known of the lexemes of a text that was read, by a table that has grown since.
use Rattle.std.specs.Prelude.{◌≡◌, ℕ, ◌≤◌, ◌<◌, List, [], ◌∷◌, length, if◌then◌else◌, Bool, true, false, ◌&&◌, ◌||◌, ◌==◌, nat_le, nat_lt, bytes_eq, IsTrue, refl}
use Rattle.std.specs.Str.{IsUtf8}
use Rattle.std.proofs.Common.{sym, ap, ◌∙◌, subst, arith, inl, inr}
use Rattle.std.proofs.lemmas.Bool.{and_parts, or_cases, eqb-true, leb-true, ltb-true}
use Rattle.std.proofs.lemmas.Bool.Decides.{nat_tests}
use Rattle.gr_base.specs.Lists.{Each, IsAmong}
use Rattle.gr_base.proofs.ListLemmas.{Each-at}
use Rattle.gr_text.specs.Words.{is_word, is_word_byte, is_word_rest, begins_with_word_byte, IsStringByte}
use Rattle.gr_symbols.specs.Numbers.{Names, Grows}
use Rattle.gr_symbols.proofs.NumberLemmas.{Names-grows}
use Rattle.gr_terms.specs.declared.Sym.{Sym}
use Rattle.gr_tokens.specs.declared.Kind.{Kind as Cut}
use Rattle.gr_tokens.specs.declared.Kind.TheVariants.{Word, Str, Var, Punct}
use Rattle.gr_tokens.specs.declared.Token.{Token}
use Rattle.gr_tokens.specs.Tokens.{Writes, signs}
use Rattle.gr_tokens.specs.Spans.{slice_of, IsSliceOf}
use Rattle.gr_reader.specs.Lexemes as read
use Rattle.mg_reader.specs.declared.lexeme.Kind.{Kind}
use Rattle.mg_reader.specs.declared.lexeme.Kind.TheVariants as kind
use Rattle.mg_reader.specs.declared.lexeme.Lexeme.{Lexeme}
use Rattle.mg_reader.specs.Kinds.{kind_number, kind_in, words, word_kind, sign_kind}
use Rattle.mg_reader.specs.Lexemes.{kind_of, HasName, IsLexeme, EachIs}
use Rattle.mg_reader.proofs.Numbering.{one_written}

-- the text is one word
pub record IsWordText (text : List ℕ) : Type 0 where
  pub word : IsTrue (is_word text)
  pub short : length text ≤ 255
  pub utf8 : IsUtf8 text

-- a lexeme that is the one of some token
pub record IsReal (texts : List (List ℕ)) (l : Lexeme) : Type 0 where
  pub cut : Cut
  pub text : List ℕ
  pub kind_is : l.kind ≡ kind_of cut text
  pub named : HasName texts cut text l.name
  pub own : List ℕ
  pub writes : Writes cut text own
  pub short : length text ≤ 255
  pub utf8 : IsUtf8 text

-- the later table has the texts of the older one, with their numbers
abbrev pub Has : List (List ℕ) → List (List ℕ) → Type 0
Has later texts = (n : ℕ) (t : List ℕ) → Names texts n t → Names later n t

pub grown : (texts later : List (List ℕ)) → Grows texts later → Has later texts
grown texts later grows n t h = Names-grows texts later n t h grows

later_name : (texts later : List (List ℕ)) → Has later texts → (cut : Cut) (text : List ℕ) (s : Sym) → HasName texts cut text s → HasName later cut text s
later_name texts later has Word text s h = has s.0 text h
later_name texts later has Str text s h = has s.0 text h
later_name texts later has Var text s h = has s.0 text h
later_name texts later has Punct text s h = h

real : (bytes : List ℕ) (texts later : List (List ℕ)) (t : Token) (l : Lexeme) → Has later texts → IsSliceOf bytes t → read.HasText bytes t → Writes t.kind (read.lexeme_of bytes t).text (slice_of bytes t) → IsLexeme bytes texts t l → IsReal later l
real bytes texts later t l has s h w x =
    let same : x.text ≡ s.text = one_written t.kind x.text s.text (slice_of bytes t) x.writes s.writes in
    let same2 : (read.lexeme_of bytes t).text ≡ x.text = one_written t.kind (read.lexeme_of bytes t).text x.text (slice_of bytes t) w x.writes in
    record {
      cut = t.kind;
      text = x.text;
      kind_is = x.is;
      named = later_name texts later has t.kind x.text l.name x.named;
      own = slice_of bytes t;
      writes = x.writes;
      short = subst (λ z. length z ≤ 255) (sym same) s.short;
      utf8 = subst (λ z. IsUtf8 z) same2 h.utf8;
    }

pub reals : (bytes : List ℕ) (texts later : List (List ℕ)) (ts : List Token) (ls : List Lexeme) → Has later texts → Each (IsSliceOf bytes) ts → Each (read.HasText bytes) ts → Each (λ t. Writes t.kind (read.lexeme_of bytes t).text (slice_of bytes t)) ts → EachIs bytes texts ts ls → Each (IsReal later) ls
reals bytes texts later [] [] has s h w e = tt
reals bytes texts later [] (l ∷ ls) has s h w e = absurd e
reals bytes texts later (t ∷ ts) [] has s h w e = absurd e
reals bytes texts later (t ∷ ts) (l ∷ ls) has s h w e = (real bytes texts later t l has s.0 h.0 w.0 e.0, reals bytes texts later ts ls has s.1 h.1 w.1 e.1)

either : (P : Kind → Type 0) (b : Bool) (k j : Kind) → P k → P j → P (if b then k else j)
either P true k j p q = p
either P false k j p q = q

-- what holds of the kinds of a table holds of the kind of a word
in_table : (P : Kind → Type 0) (rows : List (List ℕ × Kind)) → Each (λ r. P r.1) rows → P kind.Word → (text : List ℕ) → P (kind_in rows text)
in_table P [] h w text = w
in_table P ((known, k) ∷ rows) h w text = either P (bytes_eq text known) k (kind_in rows text) h.0 (in_table P rows h.1 w text)

pub word_high : (text : List ℕ) → nat_le 26 (kind_number (word_kind text)) ≡ true
word_high text = in_table (λ k. nat_le 26 (kind_number k) ≡ true) words (refl, (refl, (refl, (refl, (refl, (refl, (refl, (refl, (refl, (refl, (refl, (refl, (refl, (refl, (refl, (refl, (refl, (refl, (refl, (refl, (refl, (refl, (refl, (refl, (refl, (refl, (refl, (refl, (refl, tt))))))))))))))))))))))))))))) refl text

pub word_class : (text : List ℕ) → (nat_le 25 (kind_number (word_kind text)) && nat_lt (kind_number (word_kind text)) 56) ≡ true
word_class text = in_table (λ k. (nat_le 25 (kind_number k) && nat_lt (kind_number k) 56) ≡ true) words (refl, (refl, (refl, (refl, (refl, (refl, (refl, (refl, (refl, (refl, (refl, (refl, (refl, (refl, (refl, (refl, (refl, (refl, (refl, (refl, (refl, (refl, (refl, (refl, (refl, (refl, (refl, (refl, (refl, tt))))))))))))))))))))))))))))) refl text

pub sign_low : (t : List ℕ) → IsAmong signs t → nat_lt (kind_number (sign_kind t)) 24 ≡ true
sign_low t i = Each-at (λ s. nat_lt (kind_number (sign_kind s)) 24 ≡ true) signs t (refl, (refl, (refl, (refl, (refl, (refl, (refl, (refl, (refl, (refl, (refl, (refl, (refl, (refl, (refl, (refl, (refl, (refl, (refl, (refl, (refl, (refl, (refl, (refl, tt)))))))))))))))))))))))) i

-- the number of the lexeme's name is that of its text, which is a word
pub record IsWordOf (texts : List (List ℕ)) (l : Lexeme) : Type 0 where
  pub text : List ℕ
  pub kind_is : l.kind ≡ word_kind text
  pub names : Names texts l.name.0 text
  pub is : IsWordText text

pub record IsVariableOf (texts : List (List ℕ)) (l : Lexeme) : Type 0 where
  pub text : List ℕ
  pub names : Names texts l.name.0 text
  pub is : IsWordText text

pub record IsNameOf (texts : List (List ℕ)) (l : Lexeme) : Type 0 where
  pub text : List ℕ
  pub names : Names texts l.name.0 text
  pub inside : Each IsStringByte text
  pub short : length text ≤ 255
  pub utf8 : IsUtf8 text

too_low : (k : Kind) (m : ℕ) → m ≤ kind_number k → kind_number k < m → ⊥
too_low k m a b = omega arith

pub real_word : (texts : List (List ℕ)) (l : Lexeme) → IsReal texts l → 26 ≤ kind_number l.kind → IsWordOf texts l
real_word texts l r top = by r.cut r.kind_is r.named r.writes
  where
    by : (c : Cut) → l.kind ≡ kind_of c r.text → HasName texts c r.text l.name → Writes c r.text r.own → IsWordOf texts l
    by Word e n w = record { text = r.text; kind_is = e; names = n; is = record { word = w.1; short = r.short; utf8 = r.utf8 } }
    by Str e n w = absurd (omega (arith, top, ap kind_number e))
    by Var e n w = absurd (omega (arith, top, ap kind_number e))
    by Punct e n w = absurd (omega (arith, top, ap kind_number e, ltb-true (kind_number (sign_kind r.text)) 24 (sign_low r.text w.1)))

pub real_variable : (texts : List (List ℕ)) (l : Lexeme) → IsReal texts l → l.kind ≡ kind.Var → IsVariableOf texts l
real_variable texts l r is = by r.cut (sym is ∙ r.kind_is) r.named r.writes
  where
    by : (c : Cut) → kind.Var ≡ kind_of c r.text → HasName texts c r.text l.name → Writes c r.text r.own → IsVariableOf texts l
    by Word e n w = absurd (omega (arith, ap kind_number e, leb-true 26 (kind_number (word_kind r.text)) (word_high r.text)))
    by Str e n w = absurd (omega (arith, ap kind_number e))
    by Var e n w = record { text = r.text; names = n; is = record { word = w.1; short = r.short; utf8 = r.utf8 } }
    by Punct e n w = absurd (omega (arith, ap kind_number e, ltb-true (kind_number (sign_kind r.text)) 24 (sign_low r.text w.1)))

-- a byte of a word may stand inside a string
word_byte_inside : (b : ℕ) → is_word_byte b ≡ true → IsStringByte b
word_byte_inside b h = (grind (arith, nat_tests, h), λ e. grind (arith, nat_tests, h, e), λ e. grind (arith, nat_tests, h, e), λ e. grind (arith, nat_tests, h, e))

word_rest_inside : (w : List ℕ) → is_word_rest w ≡ true → Each IsStringByte w
word_rest_inside [] h = tt
word_rest_inside (b ∷ w) h =
    let p = and_parts (is_word_byte b || ((b == 45) && begins_with_word_byte w)) (is_word_rest w) h in (
      elim (or_cases (is_word_byte b) ((b == 45) && begins_with_word_byte w) p.0) [
        | inl here ↦ word_byte_inside b here
        | inr dash ↦ dash_inside b (eqb-true b 45 (and_parts (b == 45) (begins_with_word_byte w) dash).0)
      ],
      word_rest_inside w p.1,
    )
  where
    dash_inside : (b : ℕ) → b ≡ 45 → IsStringByte b
    dash_inside b e = (omega arith, λ f. omega arith, λ f. omega arith, λ f. omega arith)

word_inside : (w : List ℕ) → is_word w ≡ true → Each IsStringByte w
word_inside w h = word_rest_inside w (and_parts (begins_with_word_byte w) (is_word_rest w) h).1

pub real_name : (texts : List (List ℕ)) (l : Lexeme) → IsReal texts l → 25 ≤ kind_number l.kind → IsNameOf texts l
real_name texts l r top = by r.cut r.kind_is r.named r.writes
  where
    by : (c : Cut) → l.kind ≡ kind_of c r.text → HasName texts c r.text l.name → Writes c r.text r.own → IsNameOf texts l
    by Word e n w = record { text = r.text; names = n; inside = word_inside r.text w.1; short = r.short; utf8 = r.utf8 }
    by Str e n w = record { text = r.text; names = n; inside = w.1; short = r.short; utf8 = r.utf8 }
    by Var e n w = absurd (omega (arith, top, ap kind_number e))
    by Punct e n w = absurd (omega (arith, top, ap kind_number e, ltb-true (kind_number (sign_kind r.text)) 24 (sign_low r.text w.1)))
