-- Bytes that stand together, in front of one that does not.
use Rattle.std.specs.Prelude.{◌≡◌, ℕ, zero, suc, ◌+◌, ◌<◌, ◌≤◌, ◌^◌, true, false, ◌==◌, ◌&&◌, ◌||◌, List, [], ◌∷◌, ◌++◌, take, drop, length, get_or, refl}
use Rattle.std.specs.Fmt.{decimal}
use Rattle.std.specs.Int.{IsInRange}
use Rattle.std.specs.Str.Parse.{AllDigits}
use Rattle.std.proofs.Common.{inl, inr, ap, sym, ◌∙◌, subst, arith}
use Rattle.std.proofs.Math.Seq.{drop-cons}
use Rattle.std.proofs.lemmas.Bool.{false≢true, and_parts, or_cases, or_left, or_right}
use Rattle.std.proofs.lemmas.Bool.Decides.{nat_tests}
use Rattle.std.proofs.lemmas.Fmt.{IsAscii-decimal, decimal_is_IsNumeral}
use Rattle.std.proofs.lemmas.List.{length-take-le, take-append-drop, take_more}
use Rattle.std.proofs.lemmas.Str.{IsUtf8-from_ascii}
use Rattle.std.proofs.lemmas.Str.Parse.{digit_from_value}
use Rattle.gr_base.specs.Lists.{Each}
use Rattle.gr_base.proofs.ListLemmas.{Each-append}
use Rattle.gr_text.specs.Words.{IsStringByte, begins_with_word_byte, is_word, is_word_byte, is_word_rest}
use Rattle.gr_text.proofs.DecimalLemmas.{IsDecimal-decimal, IsDecimal-short}
use Rattle.td_canon.proofs.SpellingLemmas.{span_apart}
use Rattle.tg_reader.specs.Reading.{Ends, IsRun, is_of}
use Rattle.tg_reader.specs.Writable.{IsName, IsWord}
use Rattle.tg_reader.specs.declared.reader.Run.{Run}
use Rattle.tg_reader.specs.declared.reader.Run.TheVariants.{Word, Inside}

abbrev pub AllOf : Run → List ℕ → Type 0
AllOf run bs = Each (λ b. is_of run b ≡ true) bs

-- one more byte stands there
pub each_more : (run : Run) (bs : List ℕ) (i : ℕ) → i < length bs → is_of run (get_or bs i 0) ≡ true → AllOf run (take i bs) → AllOf run (take (i + 1) bs)
each_more run bs i within h each =
    subst (λ zs. AllOf run zs) (sym (take_more bs i 0 within)) (Each-append (λ b. is_of run b ≡ true) (take i bs) (get_or bs i 0 ∷ []) each (h, tt))

-- a byte that does not stand there ends them
pub ends_at : (run : Run) (bs : List ℕ) (i : ℕ) → i < length bs → is_of run (get_or bs i 0) ≡ false → Ends run (drop i bs)
ends_at run bs i within h = rw (drop-cons bs i 0) h

pub ends_behind : (run : Run) (bs : List ℕ) (i : ℕ) → length bs ≤ i → Ends run (drop i bs)
ends_behind run [] zero over = tt
ends_behind run [] (suc i) over = tt
ends_behind run (b ∷ bs) zero over = absurd (omega arith)
ends_behind run (b ∷ bs) (suc i) over = ends_behind run bs i (omega arith)

-- where the first n bytes were taken, and the next one does not stand there
module _ (run : Run) (bs : List ℕ) (n : ℕ) (each : AllOf run (take n bs)) (ends : Ends run (drop n bs)) where
  pub taken : (v rest : List ℕ) → IsRun run v → Ends run rest → bs ≡ v ++ rest → (drop n bs ≡ rest) × (take n bs ≡ v)
  taken v rest is end e =
      let both = span_apart (is_of run) (take n bs) v (drop n bs) rest each is.each ends end (take-append-drop n bs ∙ e) in (both.1, both.0)

  pub too_long : (v rest : List ℕ) → n ≤ length bs → 255 < n → IsRun run v → Ends run rest → bs ≡ v ++ rest → ⊥
  too_long v rest within long is end e =
      let same : length (take n bs) ≡ length v = ap (λ (zs : List ℕ). length zs) (taken v rest is end e).1 in
      let few : length v ≤ 255 = is.few in
      omega (arith, length-take-le n bs within)

-- ---- they can be written

word_byte : (b : ℕ) → is_word_byte b ≡ true → IsStringByte b
word_byte b h = (grind (arith, nat_tests), grind (arith, nat_tests), grind (arith, nat_tests), grind (arith, nat_tests))

string_byte : (run : Run) (b : ℕ) → is_of run b ≡ true → IsStringByte b
string_byte Word b h = elim (or_cases (is_word_byte b) (b == 45) h) [
  | inl w ↦ word_byte b w
  | inr d ↦ (grind (arith, nat_tests), grind (arith, nat_tests), grind (arith, nat_tests), grind (arith, nat_tests))
]
string_byte Inside b h = (grind (arith, nat_tests), grind (arith, nat_tests), grind (arith, nat_tests), grind (arith, nat_tests))

pub string_bytes_of : (run : Run) (bs : List ℕ) → AllOf run bs → Each IsStringByte bs
string_bytes_of run [] each = tt
string_bytes_of run (b ∷ bs) each = (string_byte run b each.0, string_bytes_of run bs each.1)

inside_byte : (b : ℕ) → IsStringByte b → is_of Inside b ≡ true
inside_byte b h =
    let low : 32 ≤ b = h.0 in
    let quote : b ≡ 34 → ⊥ = h.1 in
    let slash : b ≡ 92 → ⊥ = h.2 in
    let rubout : b ≡ 127 → ⊥ = h.3 in
    grind (arith, nat_tests)

inside_bytes : (bs : List ℕ) → Each IsStringByte bs → AllOf Inside bs
inside_bytes [] each = tt
inside_bytes (b ∷ bs) each = (inside_byte b each.0, inside_bytes bs each.1)

-- what stands between `"` and `"`
pub inside_run : (t : List ℕ) → IsName t → IsRun Inside t
inside_run t name = record { each = inside_bytes t name.bytes; few = name.few; utf8 = name.utf8 }

letters : (bs : List ℕ) → is_word_rest bs ≡ true → AllOf Word bs
letters [] h = tt
letters (b ∷ bs) h =
    let both = and_parts (is_word_byte b || ((b == 45) && begins_with_word_byte bs)) (is_word_rest bs) h in (
      elim (or_cases (is_word_byte b) ((b == 45) && begins_with_word_byte bs) both.0) [
        | inl w ↦ or_left (is_word_byte b) (b == 45) w
        | inr d ↦ or_right (is_word_byte b) (b == 45) (and_parts (b == 45) (begins_with_word_byte bs) d).0
      ],
      letters bs both.1,
    )

-- a word
pub word_run : (t : List ℕ) → IsWord t → IsRun Word t
word_run t is = record { each = letters t (and_parts (begins_with_word_byte t) (is_word_rest t) is.word).1; few = is.name.few; utf8 = is.name.utf8 }

pub word_some : (t : List ℕ) → is_word t ≡ true → (b : ℕ) × (bs : List ℕ) × (t ≡ b ∷ bs) × (is_word_byte b ≡ true)
word_some [] h = absurd (false≢true h)
word_some (b ∷ bs) h = (b, bs, refl, (and_parts (is_word_byte b) (is_word_rest (b ∷ bs)) h).0)

digit_letters : (ds : List ℕ) → AllDigits 10 ds → AllOf Word ds
digit_letters [] h = tt
digit_letters (c ∷ cs) h =
    let range : IsInRange 48 57 c = digit_from_value c h.0 in
    let low : 48 ≤ c = range.0 in
    let high : c ≤ 57 = range.1 in
    (grind (arith, nat_tests), digit_letters cs h.1)

-- a number of at most nine digits
pub decimal_run : (k : ℕ) → k < 10 ^ 9 → IsRun Word (decimal k)
decimal_run k small = record {
  each = digit_letters (decimal k) (decimal_is_IsNumeral k (omega arith)).0.1;
  few = let short : length (decimal k) ≤ 9 = IsDecimal-short (decimal k) (IsDecimal-decimal k small) in omega arith;
  utf8 = IsUtf8-from_ascii (decimal k) (IsAscii-decimal k (omega arith));
}
