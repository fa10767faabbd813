-- Strings at the front of some bytes.
use Rattle.std.specs.Prelude.{◌≡◌, ℕ, suc, ◌+◌, ◌<◌, ◌≤◌, List, [], ◌∷◌, ◌++◌, length, take, drop, refl}
use Rattle.std.proofs.Common.{sym, ap, ◌∙◌, subst, arith, get_or, append_assoc}
use Rattle.std.proofs.lemmas.List.{take-append-drop, length-take-le, take_more, drop_more, length-drop}
use Rattle.gr_base.specs.Lists.{Each}
use Rattle.gr_base.proofs.ListLemmas.{same_head, same_tail}
use Rattle.gr_text.specs.Words.{IsStringByte}
use Rattle.gr_tokens.specs.declared.Kind.TheVariants.{Str}
use Rattle.gr_tokens.specs.Tokens.{IsNext, HasNoToken}
use Rattle.gr_tokens.specs.Fronts.{EndsInside, BeginsWith}
use Rattle.gr_tokens.proofs.Openers.{next_from, none_from}
use Rattle.gr_tokens.proofs.Runs.{Ends, same_run}

-- what stands inside a string ends at its quote
ends_at : (t more inside rest : List ℕ) → Each IsStringByte t → Each IsStringByte inside → EndsInside rest → t ++ 34 ∷ more ≡ inside ++ rest → (t ≡ inside) × (34 ∷ more ≡ rest)
ends_at t more inside rest p q ends e = same_run IsStringByte t inside (34 ∷ more) rest p q (λ i. i.1 refl) (as_ends rest ends) e
  where
    as_ends : (xs : List ℕ) → EndsInside xs → Ends IsStringByte xs
    as_ends [] h = tt
    as_ends (x ∷ xs) h = h

quoted : (t front more : List ℕ) (whole : List ℕ) → front ≡ 34 ∷ t ++ 34 ∷ [] → front ++ more ≡ 34 ∷ whole → t ++ 34 ∷ more ≡ whole
quoted t front more whole is e =
    sym (append_assoc t (34 ∷ []) more) ∙ same_tail 34 34 ((t ++ 34 ∷ []) ++ more) whole (ap (λ z. z ++ more) (sym is) ∙ e)

string_next : (inside rest : List ℕ) → Each IsStringByte inside → IsNext Str inside (34 ∷ inside ++ 34 ∷ []) rest
string_next inside rest each = next_from Str inside (34 ∷ inside ++ 34 ∷ []) rest (refl, each)
    (λ t front more e v.
    let tail : t ++ 34 ∷ more ≡ inside ++ 34 ∷ rest = quoted t front more ((inside ++ 34 ∷ []) ++ rest) v.0 e ∙ append_assoc inside (34 ∷ []) rest in
    let same = ends_at t more inside (34 ∷ rest) v.1 each (λ i. i.1 refl) tail in
    let long : length front ≡ length (34 ∷ inside ++ 34 ∷ []) = ap length v.0 ∙ ap (λ z. length (34 ∷ z ++ 34 ∷ [])) same.0 in
    omega arith)

pub string_begins : (behind : List ℕ) (n m : ℕ) → n < length behind → Each IsStringByte (take n behind) → get_or behind n 0 ≡ 34 → n ≤ 255 → m ≡ suc (n + 1) → BeginsWith (34 ∷ behind) Str m
string_begins behind n m more each quote short is =
    let own : take (suc (n + 1)) (34 ∷ behind) ≡ 34 ∷ take n behind ++ 34 ∷ [] = ap (λ z. 34 ∷ z) (take_more behind n 0 more ∙ ap (λ q. take n behind ++ q ∷ []) quote) in
    let whole : length (take n behind) ≡ n = length-take-le n behind (omega arith) in
    subst (λ z. BeginsWith (34 ∷ behind) Str z) (sym is) (record {
      text = take n behind;
      next = subst (λ z. IsNext Str (take n behind) z (drop (n + 1) behind)) (sym own) (string_next (take n behind) (drop (n + 1) behind) each);
      short = omega arith;
      within = omega arith;
    })

pub string_none : (behind : List ℕ) (n : ℕ) → n ≤ length behind → Each IsStringByte (take n behind) → EndsInside (drop n behind)
    → (n < length behind → get_or behind n 0 ≡ 34 → n ≤ 255 → ⊥) → HasNoToken (34 ∷ behind)
string_none behind n within each ends none = none_from Str 34 behind refl (λ t front more e v short.
    let same = ends_at t more (take n behind) (drop n behind) v.1 each ends (quoted t front more behind v.0 e ∙ sym (take-append-drop n behind)) in
    let some : n < length behind = omega (arith, ap length same.1, length-drop n behind) in
    let quote : get_or behind n 0 ≡ 34 = same_head (get_or behind n 0) 34 (drop (n + 1) behind) more (sym (drop_more behind n 0 some) ∙ sym same.1) in
    none some quote (omega (arith, ap length same.0, length-take-le n behind within)))
