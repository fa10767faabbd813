-- The texts of the tokens of a text stand in it.
use Rattle.std.proofs.Common.{◌≡◌, ℕ, zero, suc, ◌+◌, ◌-◌, ◌<◌, ◌≤◌, List, [], ◌∷◌, ◌++◌, length, take, drop, get_or, refl, sym, ap, ◌∙◌, subst, arith, append_assoc, append-nil, lit<, length-append}
use Rattle.std.specs.Prelude.{slice_range}
use Rattle.std.specs.Str.{IsUtf8}
use Rattle.std.proofs.Math.Seq.{take-append_seam}
use Rattle.std.proofs.lemmas.List.{take-append-drop, length-take-le, length-drop, take_at, drop_at}
use Rattle.std.proofs.lemmas.Str.{IsUtf8-take, IsUtf8-drop, IsCharBoundary-before_ascii, IsCharBoundary-after_ascii}
use Rattle.gr_base.specs.Lists.{Each}
use Rattle.gr_base.proofs.ListLemmas.{drop-add}
use Rattle.gr_tokens.specs.declared.Kind.{Kind}
use Rattle.gr_tokens.specs.declared.Kind.TheVariants.{Word, Str, Var, Punct}
use Rattle.gr_tokens.specs.declared.Token.{Token}
use Rattle.gr_tokens.specs.Tokens.{Writes}
use Rattle.gr_tokens.specs.Answers.{AreTokens}
use Rattle.gr_tokens.specs.Spans.{slice_of, IsSliceOf}
use Rattle.gr_tokens.proofs.SpanLemmas.{slices}
use Rattle.gr_tokens.proofs.TextLemmas.{texts}
use Rattle.gr_reader.specs.Lexemes.{lexeme_of, before_text, behind_text, HasText}

-- what stands inside a slice
inner_is : (bytes front text back : List ℕ) (from to : ℕ) → take (to - from) (drop from bytes) ≡ front ++ (text ++ back) → from < to → to ≤ length bytes → slice_range bytes (from + length front) (to - length back) ≡ text
inner_is bytes front text back from to e l w =
    let xs = drop from bytes in
    let n = to - from in
    let rest = drop n xs in
    let long : length xs ≡ length bytes - from = length-drop from bytes in
    let wide : length (take n xs) ≡ n = length-take-le n xs (omega arith) in
    let sum = ap length e in
    let sum2 = length-append front (text ++ back) in
    let sum3 = length-append text back in
    let all : xs ≡ front ++ (text ++ (back ++ rest)) =
    sym (take-append-drop n xs) ∙ (ap (λ z. z ++ rest) e ∙ (append_assoc front (text ++ back) rest ∙ ap (λ z. front ++ z) (append_assoc text back rest))) in
    let behind : drop (from + length front) bytes ≡ text ++ (back ++ rest) =
    drop-add bytes from (length front) ∙ (ap (λ z. drop (length front) z) all ∙ drop_at front (text ++ (back ++ rest)) (length front) refl) in
    ap (λ z. take ((to - length back) - (from + length front)) z) behind ∙ take_at text (back ++ rest) ((to - length back) - (from + length front)) (omega arith)

inner_within : (bytes front text back : List ℕ) (from to : ℕ) → take (to - from) (drop from bytes) ≡ front ++ (text ++ back) → from < to → to ≤ length bytes → (from + length front ≤ to - length back) × (length back ≤ to)
inner_within bytes front text back from to e l w =
    let xs = drop from bytes in
    let n = to - from in
    let long : length xs ≡ length bytes - from = length-drop from bytes in
    let wide : length (take n xs) ≡ n = length-take-le n xs (omega arith) in
    let sum = ap length e in
    let sum2 = length-append front (text ++ back) in
    let sum3 = length-append text back in
    (omega arith, omega arith)

after_low : (b : ℕ) (rest : List ℕ) → b < 128 → IsUtf8 (b ∷ rest) → IsUtf8 rest
after_low b rest l u = IsUtf8-drop (b ∷ rest) 1 u (IsCharBoundary-after_ascii (b ∷ rest) 0 u (omega arith) l)

seam : (text : List ℕ) (b : ℕ) → get_or (text ++ b ∷ []) (length text) 0 ≡ b
seam [] b = refl
seam (x ∷ text) b = seam text b

before_low : (text : List ℕ) (b : ℕ) → b < 128 → IsUtf8 (text ++ b ∷ []) → IsUtf8 text
before_low text b l u =
    let s = length-append text (b ∷ []) in
    let t = seam text b in
    subst (λ z. IsUtf8 z) (take-append_seam text (b ∷ [])) (IsUtf8-take (text ++ b ∷ []) (length text) u (IsCharBoundary-before_ascii (text ++ b ∷ []) (length text) (omega arith) (omega arith)))

-- what HasText says, by the kind and the ends
record Has (bytes : List ℕ) (k : Kind) (from to : ℕ) : Type 0 where
  order : from + before_text k ≤ to - behind_text k
  behind : behind_text k ≤ to
  within : to - behind_text k ≤ length bytes
  utf8 : IsUtf8 (slice_range bytes (from + before_text k) (to - behind_text k))

has_by : (bytes : List ℕ) (k : Kind) (text : List ℕ) (from to : ℕ) → Writes k text (take (to - from) (drop from bytes)) → from < to → to ≤ length bytes → IsUtf8 (take (to - from) (drop from bytes)) → Has bytes k from to
has_by bytes Word text from to w l h u =
    let e = w.0 ∙ sym (append-nil text) in
    let x = inner_within bytes [] text [] from to e l h in
    record { order = x.0; behind = x.1; within = omega arith; utf8 = subst (λ z. IsUtf8 z) (sym (inner_is bytes [] text [] from to e l h)) (subst (λ z. IsUtf8 z) w.0 u) }
has_by bytes Str text from to w l h u =
    let x = inner_within bytes (34 ∷ []) text (34 ∷ []) from to w.0 l h in
    record {
      order = x.0;
      behind = x.1;
      within = omega arith;
      utf8 = subst (λ z. IsUtf8 z) (sym (inner_is bytes (34 ∷ []) text (34 ∷ []) from to w.0 l h)) (before_low text 34 (lit< tt) (after_low 34 (text ++ 34 ∷ []) (lit< tt) (subst (λ z. IsUtf8 z) w.0 u)));
    }
has_by bytes Var text from to w l h u =
    let e = w.0 ∙ ap (λ z. 63 ∷ z) (sym (append-nil text)) in
    let x = inner_within bytes (63 ∷ []) text [] from to e l h in
    record {
      order = x.0;
      behind = x.1;
      within = omega arith;
      utf8 = subst (λ z. IsUtf8 z) (sym (inner_is bytes (63 ∷ []) text [] from to e l h)) (after_low 63 text (lit< tt) (subst (λ z. IsUtf8 z) w.0 u));
    }
has_by bytes Punct text from to w l h u =
    let e = w.0 ∙ sym (append-nil text) in
    let x = inner_within bytes [] text [] from to e l h in
    record { order = x.0; behind = x.1; within = omega arith; utf8 = subst (λ z. IsUtf8 z) (sym (inner_is bytes [] text [] from to e l h)) (subst (λ z. IsUtf8 z) w.0 u) }

has : (bytes : List ℕ) (t : Token) → IsSliceOf bytes t → IsUtf8 (slice_of bytes t) → HasText bytes t
has bytes t s u =
    let h = has_by bytes t.kind s.text t.from t.to s.writes s.some s.within u in
    record { order = h.order; behind = h.behind; within = h.within; utf8 = h.utf8 }

have : (bytes : List ℕ) (ts : List Token) → Each (IsSliceOf bytes) ts → Each (λ t. IsUtf8 (slice_of bytes t)) ts → Each (HasText bytes) ts
have bytes [] s u = tt
have bytes (t ∷ ts) s u = (has bytes t s.0 u.0, have bytes ts s.1 u.1)

-- the tokens of a text have their texts
pub all_have : (bytes : List ℕ) (ts : List Token) → AreTokens bytes ts → Each (HasText bytes) ts
all_have bytes ts a = have bytes ts (slices bytes [] bytes [] ts refl a.cut) (texts bytes [] bytes [] ts refl a.utf8 a.cut)

-- a lexeme's text is the one that its token writes
written_by : (bytes : List ℕ) (k : Kind) (text : List ℕ) (from to : ℕ) → Writes k text (take (to - from) (drop from bytes)) → from < to → to ≤ length bytes → slice_range bytes (from + before_text k) (to - behind_text k) ≡ text
written_by bytes Word text from to w l h = inner_is bytes [] text [] from to (w.0 ∙ sym (append-nil text)) l h
written_by bytes Str text from to w l h = inner_is bytes (34 ∷ []) text (34 ∷ []) from to w.0 l h
written_by bytes Var text from to w l h = inner_is bytes (63 ∷ []) text [] from to (w.0 ∙ ap (λ z. 63 ∷ z) (sym (append-nil text))) l h
written_by bytes Punct text from to w l h = inner_is bytes [] text [] from to (w.0 ∙ sym (append-nil text)) l h

written : (bytes : List ℕ) (ts : List Token) → Each (IsSliceOf bytes) ts → Each (λ t. Writes t.kind (lexeme_of bytes t).text (slice_of bytes t)) ts
written bytes [] s = tt
written bytes (t ∷ ts) s =
    let x = s.0 in
    (subst (λ z. Writes t.kind z (slice_of bytes t)) (sym (written_by bytes t.kind x.text t.from t.to x.writes x.some x.within)) x.writes, written bytes ts s.1)

pub all_written : (bytes : List ℕ) (ts : List Token) → AreTokens bytes ts → Each (λ t. Writes t.kind (lexeme_of bytes t).text (slice_of bytes t)) ts
all_written bytes ts a = written bytes ts (slices bytes [] bytes [] ts refl a.cut)

each_take : {A : Type 0} (P : A → Type 0) (n : ℕ) (xs : List A) → Each P xs → Each P (take n xs)
each_take P zero xs h = tt
each_take P (suc n) [] h = tt
each_take P (suc n) (x ∷ xs) h = (h.0, each_take P n xs h.1)

each_drop : {A : Type 0} (P : A → Type 0) (n : ℕ) (xs : List A) → Each P xs → Each P (drop n xs)
each_drop P zero xs h = h
each_drop P (suc n) [] h = tt
each_drop P (suc n) (x ∷ xs) h = each_drop P n xs h.1

pub each_range : {A : Type 0} (P : A → Type 0) (a b : ℕ) (xs : List A) → Each P xs → Each P (slice_range xs a b)
each_range P a b xs h = each_take P (b - a) (drop a xs) (each_drop P a xs h)
