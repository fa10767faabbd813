-- The spelling of a name is one token of it.
use Rattle.std.specs.Prelude.{ℕ, zero, suc, ◌<◌, ◌≤◌, List, [], ◌∷◌, ◌++◌, length, slice_index, refl}
use Rattle.std.proofs.Common.{sym, ap, subst, inl, inr, arith, append-nil, lit<, length-append}
use Rattle.std.specs.Str.{IsUtf8}
use Rattle.std.proofs.lemmas.Str.{IsUtf8-append, IsUtf8-from_ascii}
use Rattle.gr_base.specs.Lists.{Each}
use Rattle.gr_text.specs.Words.{IsBareWord, IsStringByte, Spells, quoted}
use Rattle.gr_text.proofs.WordLemmas.{IsBareWord-test}
use Rattle.gr_text.proofs.PlaceLemmas.{place_after-nil}
use Rattle.gr_tokens.specs.declared.Kind.{Kind}
use Rattle.gr_tokens.specs.declared.Kind.TheVariants.{Word, Str}
use Rattle.gr_tokens.specs.Tokens.{Writes, IsNext, nothing, a_token}
use Rattle.gr_tokens.specs.Spans.{IsNameRead}

-- at the end of a text each token is the next one
next_at_end : (k : Kind) (t own : List ℕ) → Writes k t own → IsNext k t own []
next_at_end k t own w = record { writes = w; longest = λ j u front more e v. let a = ap length e in let b = length-append front more in let c = length-append own [] in omega arith }

read_by : (k : Kind) (t s : List ℕ) → Writes k t s → IsUtf8 s → length t ≤ 255 → IsNameRead k t s
read_by k t s w u l = record {
  writes = w;
  tokens = record {
    utf8 = u;
    cut = a_token s [] (sym (append-nil s)) (record { text = t; next = next_at_end k t s w; short = l; begins = refl; ends = refl; stands = sym place_after-nil }) nothing;
  };
}

quote_low : (i : ℕ) → slice_index (34 ∷ []) i < 128
quote_low zero = lit< tt
quote_low (suc i) = lit< tt

quote_utf8 : IsUtf8 (34 ∷ [])
quote_utf8 = IsUtf8-from_ascii (34 ∷ []) (λ i. quote_low i)

quoted_utf8 : (t : List ℕ) → IsUtf8 t → IsUtf8 (quoted t)
quoted_utf8 t u = IsUtf8-append (34 ∷ []) (t ++ 34 ∷ []) quote_utf8 (IsUtf8-append t (34 ∷ []) u quote_utf8)

pub spelled_word : (s t : List ℕ) → IsUtf8 t → length t ≤ 255 → IsBareWord t → Spells s t → IsNameRead Word t s
spelled_word s t u l w (inl p) = read_by Word t s (p.1, (IsBareWord-test t).1 w) (subst (λ z. IsUtf8 z) (sym p.1) u) l
spelled_word s t u l w (inr p) = absurd (p.0 w)

pub spelled_string : (s t : List ℕ) → IsUtf8 t → length t ≤ 255 → ¬ (IsBareWord t) → Each IsStringByte t → Spells s t → IsNameRead Str t s
spelled_string s t u l n each (inl p) = absurd (n p.0)
spelled_string s t u l n each (inr p) = read_by Str t s (p.1, each) (subst (λ z. IsUtf8 z) (sym p.1) (quoted_utf8 t u)) l
