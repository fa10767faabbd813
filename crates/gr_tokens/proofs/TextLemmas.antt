-- The tokens of a text that is UTF-8 are UTF-8.
use Rattle.std.specs.Prelude.{◌≡◌, ℕ, suc, ◌+◌, ◌<◌, ◌≤◌, List, [], ◌∷◌, ◌++◌, length, Bool, true, false, ◌==◌, ◌||◌, ◌&&◌, nat_le, IsTrue, refl}
use Rattle.std.proofs.Common.{sym, ap, ◌∙◌, subst, inl, inr, arith, get_or, append_assoc, append-nil, lit<, le-leb}
use Rattle.std.specs.Str.{IsUtf8, IsCharBoundary}
use Rattle.std.proofs.Math.Seq.{take-append_seam, drop-append_seam}
use Rattle.std.proofs.lemmas.Bool.{and_parts, or_cases, eqb-true, leb-true, cases_lt, cases_Bool, false≢true, and_from, or_right}
use Rattle.std.proofs.lemmas.List.{length-append}
use Rattle.std.proofs.lemmas.Str.{IsUtf8-take, IsUtf8-drop, IsCharBoundary-end, IsCharBoundary-before_ascii, IsCharBoundary-after_ascii}
use Rattle.gr_base.specs.Lists.{IsAmong, Each}
use Rattle.gr_base.proofs.ListLemmas.{Each-at}
use Rattle.gr_text.specs.Words.{is_word_byte, begins_with_word_byte, is_word_rest, is_word}
use Rattle.gr_tokens.specs.declared.Kind.{Kind}
use Rattle.gr_tokens.specs.declared.Kind.TheVariants.{Word, Str, Var, Punct}
use Rattle.gr_tokens.specs.declared.Token.{Token}
use Rattle.gr_tokens.specs.Tokens.{signs, Writes, IsNext, IsCut, nothing, a_gap, a_token, IsGap, blank, comment, is_blank, EndsLine}
use Rattle.gr_tokens.specs.Spans.{slice_of}
use Rattle.gr_tokens.proofs.WordFronts.{begins-append, is_word_rest-append}
use Rattle.gr_tokens.proofs.SpanLemmas.{slice_is, further}

-- the text may be cut behind its front
abbrev Cuts : List ℕ → List ℕ → Type 0
Cuts own rest = IsCharBoundary (own ++ rest) (length own)

seam : (own rest : List ℕ) (n : ℕ) (d : ℕ) → get_or (own ++ rest) (length own + n) d ≡ get_or rest n d
seam [] rest n d = ap (λ k. get_or rest k d) (omega arith)
seam (x ∷ own) rest n d = ap (λ k. get_or (x ∷ (own ++ rest)) k d) (suc_in (length own) n) ∙ seam own rest n d
  where
    suc_in : (a b : ℕ) → suc a + b ≡ suc (a + b)
    suc_in a b = omega arith

at_seam : (own rest : List ℕ) → get_or (own ++ rest) (length own) 0 ≡ get_or rest 0 0
at_seam own rest = ap (λ k. get_or (own ++ rest) k 0) (omega arith) ∙ seam own rest 0 0

cuts_end : (own : List ℕ) → Cuts own []
cuts_end own = subst (λ z. IsCharBoundary z (length own)) (sym (append-nil own)) (IsCharBoundary-end own)

cuts_before : (own : List ℕ) (b : ℕ) (rest : List ℕ) → b < 128 → Cuts own (b ∷ rest)
cuts_before own b rest low =
    IsCharBoundary-before_ascii (own ++ b ∷ rest) (length own) (omega (arith, length-append own (b ∷ rest))) (let e : get_or (own ++ b ∷ rest) (length own) 0 ≡ b = at_seam own (b ∷ rest) in omega arith)

cuts_after : (front : List ℕ) (b : ℕ) (rest : List ℕ) → IsUtf8 ((front ++ b ∷ []) ++ rest) → b < 128 → Cuts (front ++ b ∷ []) rest
cuts_after front b rest u low =
    let whole : (front ++ b ∷ []) ++ rest ≡ front ++ b ∷ rest = append_assoc front (b ∷ []) rest in
    let long : length (front ++ b ∷ []) ≡ length front + 1 = length-append front (b ∷ []) in
    let here : get_or (front ++ b ∷ rest) (length front) 0 ≡ b = at_seam front (b ∷ rest) in
    let cut : IsCharBoundary (front ++ b ∷ rest) (length front + 1) =
    IsCharBoundary-after_ascii (front ++ b ∷ rest) (length front) (subst (λ z. IsUtf8 z) whole u) (omega (arith, length-append front (b ∷ rest))) (omega arith) in
    subst (λ z. IsCharBoundary z (length (front ++ b ∷ []))) (sym whole) (subst (λ n. IsCharBoundary (front ++ b ∷ rest) n) (sym long) cut)

-- the list has a last element, of which P holds
pub record Last (xs : List ℕ) (P : ℕ → Type 0) : Type 0 where
  pub front : List ℕ
  pub last : ℕ
  pub is : xs ≡ front ++ last ∷ []
  pub holds : P last

-- bytes below 128
low_blank : (b : ℕ) → is_blank b ≡ true → b < 128
low_blank b h = elim (or_cases (b == 32) _ h) [
  | inl e ↦ let r = eqb-true b 32 e in omega arith
  | inr h ↦ elim (or_cases (b == 9) _ h) [
    | inl e ↦ let r = eqb-true b 9 e in omega arith
    | inr h ↦ elim (or_cases (b == 13) (b == 10) h) [
      | inl e ↦ let r = eqb-true b 13 e in omega arith
      | inr e ↦ let r = eqb-true b 10 e in omega arith
    ]
  ]
]

line_cuts : (own rest : List ℕ) → EndsLine rest → Cuts own rest
line_cuts own [] h = cuts_end own
line_cuts own (b ∷ rest) h = cuts_before own b rest (omega (arith, h))

gap_cuts : (own rest : List ℕ) → IsUtf8 (own ++ rest) → IsGap own rest → Cuts own rest
gap_cuts own rest u (blank b o h) = subst (λ z. Cuts z rest) (sym o) (cuts_after [] b rest (subst (λ z. IsUtf8 (z ++ rest)) o u) (low_blank b h))
gap_cuts own rest u (comment inside o each ends) = line_cuts own rest ends

high_word : (b : ℕ) → 128 ≤ b → is_word_byte b ≡ true
high_word b h = elim (cases_Bool (nat_le 128 b)) [
  | inl e ↦ or_right _ (nat_le 128 b) e
  | inr n ↦ absurd (false≢true (sym n ∙ le_true h))
]
  where
    le_true : 128 ≤ b → nat_le 128 b ≡ true
    le_true h = le-leb 128 b h

-- a word ends before a byte below 128, or at the end
word_cuts : (front w rest : List ℕ) → IsTrue (is_word w) → ((more : List ℕ) (b : ℕ) → is_word (w ++ b ∷ []) ≡ true → rest ≡ b ∷ more → ⊥) → Cuts (front ++ w) rest
word_cuts front w [] is most = cuts_end (front ++ w)
word_cuts front w (b ∷ rest) is most = elim (cases_lt b 128) [
  | inl low ↦ cuts_before (front ++ w) b rest low
  | inr high ↦
      let parts = and_parts (begins_with_word_byte w) (is_word_rest w) is in
      let word : is_word_rest (b ∷ []) ≡ true = and_from _ true (ap (λ v. v || ((b == 45) && false)) (high_word b high)) refl in
      absurd (most rest b (and_from _ _ (begins-append w (b ∷ []) parts.0) (is_word_rest-append w (b ∷ []) parts.1 word)) refl)
]

-- one more byte behind a token is too much for another of its kind
too_far : (k : Kind) (text t own rest more : List ℕ) (b : ℕ) → IsNext k text own rest → rest ≡ b ∷ more → Writes k t (own ++ b ∷ []) → ⊥
too_far k text t own rest more b n e w =
    let less : length (own ++ b ∷ []) ≤ length own = n.longest k t (own ++ b ∷ []) more (append_assoc own (b ∷ []) more ∙ ap (λ z. own ++ z) (sym e)) w in
    omega (arith, length-append own (b ∷ []))

low_end : List ℕ → Bool
low_end [] = false
low_end (b ∷ []) = nat_le b 127
low_end (b ∷ c ∷ bs) = low_end (c ∷ bs)

sign_low : (t : List ℕ) → IsAmong signs t → low_end t ≡ true
unfolding low_end
sign_low t i = Each-at (λ z. low_end z ≡ true) signs t
    (refl, (refl, (refl, (refl, (refl, (refl, (refl, (refl, (refl, (refl, (refl, (refl, (refl, (refl, (refl, (refl, (refl, (refl, (refl, (refl, (refl, (refl, (refl, (refl, tt)))))))))))))))))))))))) i

last_low : (t : List ℕ) → low_end t ≡ true → Last t (λ b. b < 128)
unfolding low_end
last_low [] h = absurd (false≢true h)
last_low (b ∷ []) h = record { front = []; last = b; is = refl; holds = let r = leb-true b 127 h in omega arith }
last_low (b ∷ c ∷ bs) h = let r = last_low (c ∷ bs) h in record { front = b ∷ r.front; last = r.last; is = ap (λ z. b ∷ z) r.is; holds = r.holds }

last_cuts : (own rest : List ℕ) → IsUtf8 (own ++ rest) → Last own (λ b. b < 128) → Cuts own rest
last_cuts own rest u l = subst (λ z. Cuts z rest) (sym l.is) (cuts_after l.front l.last rest (subst (λ z. IsUtf8 (z ++ rest)) l.is u) l.holds)

token_cuts : (k : Kind) (text own rest : List ℕ) → IsUtf8 (own ++ rest) → IsNext k text own rest → Cuts own rest
token_cuts Word text own rest u n =
    let w = n.writes in
    subst (λ z. Cuts z rest) (sym w.0) (word_cuts [] text rest w.1 (λ more b is e. too_far Word text (text ++ b ∷ []) own rest more b n e (ap (λ z. z ++ b ∷ []) w.0, is)))
token_cuts Var text own rest u n =
    let w = n.writes in
    subst (λ z. Cuts z rest) (sym w.0) (word_cuts (63 ∷ []) text rest w.1 (λ more b is e. too_far Var text (text ++ b ∷ []) own rest more b n e (ap (λ z. z ++ b ∷ []) w.0, is)))
token_cuts Str text own rest u n = last_cuts own rest u (record { front = 34 ∷ text; last = 34; is = n.writes.0; holds = lit< tt })
token_cuts Punct text own rest u n = last_cuts own rest u (subst (λ z. Last z (λ b. b < 128)) (sym n.writes.0) (last_low text (sign_low text n.writes.1)))

behind : (own rest : List ℕ) → IsUtf8 (own ++ rest) → Cuts own rest → IsUtf8 rest
behind own rest u c = subst (λ z. IsUtf8 z) (drop-append_seam own rest) (IsUtf8-drop (own ++ rest) (length own) u c)

before : (own rest : List ℕ) → IsUtf8 (own ++ rest) → Cuts own rest → IsUtf8 own
before own rest u c = subst (λ z. IsUtf8 z) (take-append_seam own rest) (IsUtf8-take (own ++ rest) (length own) u c)

pub texts : (whole passed bytes left : List ℕ) (ts : List Token) → whole ≡ passed ++ bytes → IsUtf8 bytes → IsCut passed bytes ts left → Each (λ t. IsUtf8 (slice_of whole t)) ts
texts whole _ _ _ _ e u nothing = tt
texts whole passed bytes left ts e u (a_gap own rest f g s) =
    let v = subst (λ z. IsUtf8 z) f u in
    texts whole (passed ++ own) rest left ts (further whole passed bytes own rest e f) (behind own rest v (gap_cuts own rest v g)) s
texts whole passed bytes left _ e u (a_token {t = t} {ts = ts} own rest f k s) =
    let v = subst (λ z. IsUtf8 z) f u in
    let c = token_cuts t.kind k.text own rest v k.next in (
      subst (λ z. IsUtf8 z) (sym (slice_is whole passed own rest t (e ∙ ap (λ z. passed ++ z) f) k)) (before own rest v c),
      texts whole (passed ++ own) rest left ts (further whole passed bytes own rest e f) (behind own rest v c) s,
    )
