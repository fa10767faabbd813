-- The tokens of a printed text.
use Rattle.std.specs.Prelude.{◌≡◌, ℕ, zero, suc, ◌<◌, ◌≤◌, List, [], ◌∷◌, ◌++◌, length, map, Bool, true, not, ◌&&◌, refl}
use Rattle.std.specs.List.{join_with_byte}
use Rattle.std.specs.Str.{IsUtf8, IsAscii}
use Rattle.std.proofs.Common.{sym, ap, ap₂, ◌∙◌, subst, arith, append_assoc}
use Rattle.std.proofs.lemmas.Bool.{and_parts, false≢true}
use Rattle.std.proofs.lemmas.List.{append-nil, length-append, append_cancel_right}
use Rattle.std.proofs.lemmas.Str.{IsUtf8-append, IsUtf8-nil, IsUtf8-from_ascii}
use Rattle.gr_base.specs.Lists.{Each, IsAmong, joined}
use Rattle.gr_base.proofs.ListLemmas.{same_head, same_tail, Each-at}
use Rattle.gr_text.specs.Words.{is_word_rest, begins_with_word_byte, IsStringByte, quoted}
use Rattle.gr_text.specs.Places.{place_after}
use Rattle.gr_tokens.specs.declared.Kind.{Kind}
use Rattle.gr_tokens.specs.declared.Kind.TheVariants.{Word, Str, Var, Punct}
use Rattle.gr_tokens.specs.declared.Token.{Token}
use Rattle.gr_tokens.specs.Tokens.{signs, Writes, IsNext, is_blank, blank, IsTokenAt, IsCut, nothing, a_gap, a_token}
use Rattle.gr_tokens.specs.Fronts.{EndsWord}
use Rattle.gr_tokens.specs.Answers.{AreTokens}
use Rattle.gr_tokens.specs.Spans.{slice_of}
use Rattle.gr_tokens.proofs.Openers.{next_from}
use Rattle.gr_tokens.proofs.WordFronts.{word_most}
use Rattle.gr_tokens.proofs.SpanLemmas.{slice_is}
use Rattle.gr_reader.specs.Lexemes.{Lexeme, lexemes, lexeme_of}
use Rattle.gr_reader.proofs.Texts.{all_written}
use Rattle.gr_texts.specs.Lexemes.{IsLexeme, SayAll, spelled, spelling, line_of, printed, spaced}

-- a front of bytes of which P holds ends before a byte of which it doesn't
stops : (P : ℕ → Type 0) (front more own : List ℕ) (b : ℕ) (rest : List ℕ) → Each P front → (P b → ⊥) → front ++ more ≡ own ++ b ∷ rest → length front ≤ length own
stops P [] more own b rest each ends e = omega arith
stops P (x ∷ front) more [] b rest each ends e = absurd (ends (subst P (same_head x b (front ++ more) rest e) each.0))
stops P (x ∷ front) more (y ∷ own) b rest each ends e =
    let less = stops P front more own b rest each.1 ends (same_tail x y (front ++ more) (own ++ b ∷ rest) e) in
    omega (arith, less)

-- no sign has a blank
blankless : List ℕ → Bool
blankless [] = true
blankless (b ∷ bs) = not (is_blank b) && blankless bs

blankless-Each : (bs : List ℕ) → blankless bs ≡ true → Each (λ b. not (is_blank b) ≡ true) bs
unfolding blankless
blankless-Each [] h = tt
blankless-Each (b ∷ bs) h = let p = and_parts (not (is_blank b)) (blankless bs) h in (p.0, blankless-Each bs p.1)

sign_blankless : (t : List ℕ) → IsAmong signs t → Each (λ b. not (is_blank b) ≡ true) t
unfolding blankless
sign_blankless t i = blankless-Each t (Each-at (λ z. blankless z ≡ true) signs t
    (refl, (refl, (refl, (refl, (refl, (refl, (refl, (refl, (refl, (refl, (refl, (refl, (refl, (refl, (refl, (refl, (refl, (refl, (refl, (refl, (refl, (refl, (refl, (refl, tt)))))))))))))))))))))))) i)

-- a spelling with a blank behind it is the next token
next_of : (k : Kind) (t : List ℕ) (b : ℕ) (rest : List ℕ) → EndsWord (b ∷ rest) → is_blank b ≡ true → Writes k t (spelled k t) → IsNext k t (spelled k t) (b ∷ rest)
next_of Word t b rest ends is w = next_from Word t t (b ∷ rest) w
    (λ u front more e v. word_most front more t (b ∷ rest) (subst (λ z. is_word_rest z ≡ true) (sym v.0) (and_parts (begins_with_word_byte u) _ v.1).1) ends e)
next_of Var t b rest ends is w = next_from Var t (63 ∷ t) (b ∷ rest) w
    (λ u front more e v.
    let less = word_most u more t (b ∷ rest) (and_parts (begins_with_word_byte u) _ v.1).1 ends (same_tail 63 63 (u ++ more) (t ++ b ∷ rest) (ap (λ z. z ++ more) (sym v.0) ∙ e)) in
    omega (arith, less, ap length v.0))
next_of Str t b rest ends is w = next_from Str t (quoted t) (b ∷ rest) w
    (λ u front more e v.
    let tail : u ++ 34 ∷ more ≡ t ++ 34 ∷ (b ∷ rest) =
    sym (append_assoc u (34 ∷ []) more) ∙ (same_tail 34 34 ((u ++ 34 ∷ []) ++ more) ((t ++ 34 ∷ []) ++ b ∷ rest) (ap (λ z. z ++ more) (sym v.0) ∙ e) ∙ append_assoc t (34 ∷ []) (b ∷ rest))
    in
    let less = stops IsStringByte u (34 ∷ more) t 34 (b ∷ rest) v.1 (λ i. i.1 refl) tail in
    let long : length front ≡ length (quoted u) = ap length v.0 in
    omega (arith, less, long, length-append u (34 ∷ []), length-append t (34 ∷ [])))
next_of Punct t b rest ends is w = next_from Punct t t (b ∷ rest) w
    (λ u front more e v.
    stops (λ x. not (is_blank x) ≡ true) front more t b rest (subst (λ z. Each (λ x. not (is_blank x) ≡ true) z) (sym v.0) (sign_blankless u v.1)) (λ h. false≢true (ap not (sym is) ∙ h)) e)

-- also where more lexemes of the line stand behind it, or none
next_at : (l : Lexeme) (ls : List Lexeme) (behind : List ℕ) → IsLexeme l → IsNext l.kind l.text (spelling l) (spaced ls ++ 10 ∷ behind)
next_at l [] behind is = next_of l.kind l.text 10 behind refl refl is.writes
next_at l (m ∷ ls) behind is = next_of l.kind l.text 32 ((spelling m ++ spaced ls) ++ 10 ∷ behind) refl refl is.writes

-- behind the bytes before them, the bytes of the whole text are tokens that say the lexemes
record Cuts (whole before bytes : List ℕ) (ls : List Lexeme) : Type 0 where
  ts : List Token
  cut : IsCut before bytes ts []
  say : SayAll whole ts ls

cut_blank : (whole before : List ℕ) (b : ℕ) (rest : List ℕ) (ls : List Lexeme) → is_blank b ≡ true → Cuts whole (before ++ b ∷ []) rest ls → Cuts whole before (b ∷ rest) ls
cut_blank whole before b rest ls is c = record { ts = c.ts; cut = a_gap (b ∷ []) rest refl (blank b refl is) c.cut; say = c.say }

cut_lexeme : (whole before : List ℕ) (l : Lexeme) (rest : List ℕ) (ls : List Lexeme) → IsLexeme l → IsNext l.kind l.text (spelling l) rest
    → whole ≡ before ++ (spelling l ++ rest) → Cuts whole (before ++ spelling l) rest ls → Cuts whole before (spelling l ++ rest) (l ∷ ls)
cut_lexeme whole before l rest ls is next e c =
    let t : Token = record { kind = l.kind; from = length before; to = length (before ++ spelling l); place = place_after before } in
    let at : IsTokenAt before (spelling l) rest t = record { text = l.text; next = next; short = is.short; begins = refl; ends = refl; stands = refl } in
    record {
      ts = t ∷ c.ts;
      cut = a_token (spelling l) rest refl at c.cut;
      say = (record { kind = refl; writes = subst (λ z. Writes l.kind l.text z) (sym (slice_is whole before (spelling l) rest t e at)) is.writes }, c.say);
    }

one_more : (before : List ℕ) (own rest : List ℕ) → before ++ (own ++ rest) ≡ (before ++ own) ++ rest
one_more before own rest = sym (append_assoc before own rest)

cuts_line : (whole before : List ℕ) (ls : List Lexeme) (behind : List ℕ) (more : List Lexeme) → Each IsLexeme ls → whole ≡ before ++ (spaced ls ++ 10 ∷ behind)
    → ((b : List ℕ) → whole ≡ b ++ behind → Cuts whole b behind more) → Cuts whole before (spaced ls ++ 10 ∷ behind) (ls ++ more)
cuts_line whole before [] behind more each e on = cut_blank whole before 10 behind more refl (on (before ++ 10 ∷ []) (e ∙ one_more before (10 ∷ []) behind))
cuts_line whole before (l ∷ ls) behind more each e on =
    let shape : spaced (l ∷ ls) ++ 10 ∷ behind ≡ 32 ∷ (spelling l ++ (spaced ls ++ 10 ∷ behind)) = ap (λ z. 32 ∷ z) (append_assoc (spelling l) (spaced ls) (10 ∷ behind)) in
    let e1 : whole ≡ (before ++ 32 ∷ []) ++ (spelling l ++ (spaced ls ++ 10 ∷ behind)) = e ∙ (ap (λ z. before ++ z) shape ∙ one_more before (32 ∷ []) (spelling l ++ (spaced ls ++ 10 ∷ behind))) in
    let e2 : whole ≡ ((before ++ 32 ∷ []) ++ spelling l) ++ (spaced ls ++ 10 ∷ behind) = e1 ∙ one_more (before ++ 32 ∷ []) (spelling l) (spaced ls ++ 10 ∷ behind) in
    let tail = cuts_line whole ((before ++ 32 ∷ []) ++ spelling l) ls behind more each.1 e2 on in
    let one = cut_lexeme whole (before ++ 32 ∷ []) l (spaced ls ++ 10 ∷ behind) (ls ++ more) each.0 (next_at l ls behind each.0) e1 tail in
    subst (λ z. Cuts whole before z (l ∷ ls ++ more)) (sym shape) (cut_blank whole before 32 (spelling l ++ (spaced ls ++ 10 ∷ behind)) (l ∷ ls ++ more) refl one)

-- the first lexeme of a line has no space before it
pub line-spaced : (l : Lexeme) (ls : List Lexeme) → join_with_byte 32 (map spelling (l ∷ ls)) ≡ spelling l ++ spaced ls
line-spaced l [] = sym (append-nil (spelling l))
line-spaced l (m ∷ ls) = ap (λ z. spelling l ++ (32 ∷ z)) (line-spaced m ls)

cuts_items : (whole before : List ℕ) (items : List (List Lexeme)) → Each (Each IsLexeme) items → whole ≡ before ++ printed items → Cuts whole before (printed items) (joined items)
cuts_items whole before [] each e = record { ts = []; cut = nothing; say = tt }
cuts_items whole before ([] ∷ items) each e =
    cut_blank whole before 10 (printed items) (joined items) refl (cuts_items whole (before ++ 10 ∷ []) items each.1 (e ∙ one_more before (10 ∷ []) (printed items)))
cuts_items whole before ((l ∷ ls) ∷ items) each e =
    let behind = printed items in
    let shape : printed ((l ∷ ls) ∷ items) ≡ spelling l ++ (spaced ls ++ 10 ∷ behind) =
    append_assoc (join_with_byte 32 (map spelling (l ∷ ls))) (10 ∷ []) behind ∙ (ap (λ z. z ++ 10 ∷ behind) (line-spaced l ls) ∙ append_assoc (spelling l) (spaced ls) (10 ∷ behind))
    in
    let e1 : whole ≡ before ++ (spelling l ++ (spaced ls ++ 10 ∷ behind)) = e ∙ ap (λ z. before ++ z) shape in
    let e2 : whole ≡ (before ++ spelling l) ++ (spaced ls ++ 10 ∷ behind) = e1 ∙ one_more before (spelling l) (spaced ls ++ 10 ∷ behind) in
    let tail = cuts_line whole (before ++ spelling l) ls behind (joined items) each.0.1 e2 (λ b f. cuts_items whole b items each.1 f) in
    let one = cut_lexeme whole before l (spaced ls ++ 10 ∷ behind) (ls ++ joined items) each.0.0 (next_at l ls behind each.0.0) e1 tail in
    subst (λ z. Cuts whole before z (l ∷ ls ++ joined items)) (sym shape) one

-- what is printed is UTF-8
byte-utf8 : (b : ℕ) → b < 128 → IsUtf8 (b ∷ [])
byte-utf8 b small = IsUtf8-from_ascii (b ∷ []) (at b small)
  where
    at : (b : ℕ) → b < 128 → IsAscii (b ∷ [])
    at b small zero = small
    at b small (suc i) = omega arith

spelled-utf8 : (k : Kind) (t : List ℕ) → IsUtf8 t → IsUtf8 (spelled k t)
spelled-utf8 Word t u = u
spelled-utf8 Var t u = IsUtf8-append (63 ∷ []) t (byte-utf8 63 (omega arith)) u
spelled-utf8 Str t u = IsUtf8-append (34 ∷ []) (t ++ 34 ∷ []) (byte-utf8 34 (omega arith)) (IsUtf8-append t (34 ∷ []) u (byte-utf8 34 (omega arith)))
spelled-utf8 Punct t u = u

joined-utf8 : (ls : List Lexeme) → Each IsLexeme ls → IsUtf8 (join_with_byte 32 (map spelling ls))
joined-utf8 [] each = IsUtf8-nil
joined-utf8 (l ∷ []) each = spelled-utf8 l.kind l.text each.0.utf8
joined-utf8 (l ∷ m ∷ ls) each =
    IsUtf8-append (spelling l) (32 ∷ join_with_byte 32 (map spelling (m ∷ ls))) (spelled-utf8 l.kind l.text each.0.utf8)
    (IsUtf8-append (32 ∷ []) (join_with_byte 32 (map spelling (m ∷ ls))) (byte-utf8 32 (omega arith)) (joined-utf8 (m ∷ ls) each.1))

printed-utf8 : (items : List (List Lexeme)) → Each (Each IsLexeme) items → IsUtf8 (printed items)
printed-utf8 [] each = IsUtf8-nil
printed-utf8 (ls ∷ items) each =
    IsUtf8-append (line_of ls) (printed items) (IsUtf8-append (join_with_byte 32 (map spelling ls)) (10 ∷ []) (joined-utf8 ls each.0) (byte-utf8 10 (omega arith))) (printed-utf8 items each.1)

-- the bytes of a token of a kind tell its text
pub one_text : (k : Kind) (t u own : List ℕ) → Writes k t own → Writes k u own → t ≡ u
one_text Word t u own w v = sym w.0 ∙ v.0
one_text Var t u own w v = same_tail 63 63 t u (sym w.0 ∙ v.0)
one_text Str t u own w v = append_cancel_right t u (34 ∷ []) (same_tail 34 34 (t ++ 34 ∷ []) (u ++ 34 ∷ []) (sym w.0 ∙ v.0))
one_text Punct t u own w v = sym w.0 ∙ v.0

one_lexeme : (k j : Kind) (t u own : List ℕ) → k ≡ j → Writes k t own → Writes j u own → ◌≡◌ {A = Lexeme} (record { kind = k; text = t }) (record { kind = j; text = u })
one_lexeme k j t u own e w v = ap₂ {C = Lexeme} (λ x y. record { kind = x; text = y }) e (one_text j t u own (subst (λ z. Writes z t own) e w) v)

said : (bytes : List ℕ) (ts : List Token) (ls : List Lexeme) → Each (λ t. Writes t.kind (lexeme_of bytes t).text (slice_of bytes t)) ts → SayAll bytes ts ls → lexemes bytes ts ≡ ls
said bytes [] [] w s = refl
said bytes [] (l ∷ ls) w s = absurd s
said bytes (t ∷ ts) [] w s = absurd s
said bytes (t ∷ ts) (l ∷ ls) w s = ap₂ (λ x xs. x ∷ xs) (one_lexeme t.kind l.kind (lexeme_of bytes t).text l.text (slice_of bytes t) s.0.kind w.0 s.0.writes) (said bytes ts ls w.1 s.1)

pub printed-tokens : (items : List (List Lexeme)) → Each (Each IsLexeme) items
    → (found : List Token) × AreTokens (printed items) found × SayAll (printed items) found (joined items) × (lexemes (printed items) found ≡ joined items)
printed-tokens items each =
    let c = cuts_items (printed items) [] items each refl in
    let are : AreTokens (printed items) c.ts = record { utf8 = printed-utf8 items each; cut = c.cut } in
    (c.ts, are, c.say, said (printed items) c.ts (joined items) (all_written (printed items) c.ts are) c.say)
