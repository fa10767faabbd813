-- What callers cite of numbers and texts: one number for a text, one text for a number, and numbers that stay as the texts grow.
use Rattle.std.specs.Prelude.{◌≡◌, ℕ, ◌<◌, Bool, true, false, List, [], ◌∷◌, ◌++◌, ◌≤◌, ◌+◌, ◌⊎◌, ◌↔◌, length, if◌then◌else◌}
use Rattle.std.specs.List.{list_any}
use Rattle.std.specs.Str.{bytes_eq}
use Rattle.std.proofs.Common.{inl, inr, refl, ap, sym, ◌∙◌, subst, append_assoc, arith}
use Rattle.std.proofs.lemmas.List.{append-nil, length_push}
use Rattle.std.proofs.lemmas.Option.{same_Some, slice_get_within}
use Rattle.std.proofs.lemmas.Bool.{false≢true}
use Rattle.std.proofs.lemmas.Slice.Eq.{bytes_eq-Decides}
use Rattle.gr_base.specs.Lists.{IsAmong, NoneTwice}
use Rattle.gr_terms.specs.declared.Sym.{Sym}
use Rattle.gr_terms.proofs.ViewLemmas.{same_sym}
use Rattle.gr_symbols.specs.Numbers.{Names, Grows, with_text, with_texts}
use Rattle.gr_base.proofs.ListLemmas.{NoneTwice-push, IsAmong-append_left, IsAmong-new_one, IsAmong-list_any, list_any-IsAmong, IsAmong-slice_get, slice_get-IsAmong, one_place, slice_get-append_left}

-- a text has one number
pub one_number : (texts : List (List ℕ)) (a b : ℕ) (t : List ℕ) → NoneTwice texts → Names texts a t → Names texts b t → a ≡ b
one_number texts a b t once at at' = one_place texts a b t once at at'

-- a number has one text
pub one_text : (texts : List (List ℕ)) (a : ℕ) (t u : List ℕ) → Names texts a t → Names texts a u → t ≡ u
one_text texts a t u at at' = same_Some t u (sym at ∙ at')

-- equal numbers are just those of equal texts
pub numbers_tell_texts_apart : (texts : List (List ℕ)) (m n : ℕ) (t u : List ℕ) → NoneTwice texts → Names texts m t → Names texts n u → (m ≡ n) ↔ (t ≡ u)
numbers_tell_texts_apart texts m n t u once at at' = (
  λ e. one_text texts n t u (subst (λ k. Names texts k t) e at) at',
  λ e. one_number texts m n u once (subst (λ v. Names texts m v) e at) at',
)

-- a text keeps its number
pub Names-grows : (old new : List (List ℕ)) (n : ℕ) (t : List ℕ) → Names old n t → Grows old new → Names new n t
Names-grows old new n t at grows =
    subst (λ texts. Names texts n t) (sym grows.1) (slice_get-append_left old grows.0 n t at)

-- a symbol is fixed by its name
pub one_sym : (texts : List (List ℕ)) → NoneTwice texts → (a b : Sym) (t : List ℕ) → Names texts a.0 t → Names texts b.0 t → a ≡ b
one_sym texts once a b t h k = same_sym a b (one_number texts a.0 b.0 t once h k)

-- a number is below the number of texts
pub Names-within : (texts : List (List ℕ)) (n : ℕ) (t : List ℕ) → Names texts n t → n < length texts
Names-within texts n t at = slice_get_within texts n t at

-- just the texts that are there have a number
pub IsAmong-Names : (texts : List (List ℕ)) (n : ℕ) (t : List ℕ) → Names texts n t → IsAmong texts t
IsAmong-Names texts n t at = IsAmong-slice_get texts n t at

pub Names-IsAmong : (texts : List (List ℕ)) (t : List ℕ) → IsAmong texts t → (n : ℕ) × Names texts n t
Names-IsAmong texts t i = slice_get-IsAmong texts t i

-- a text has a number or it isn't there
pub named_or_absent : (texts : List (List ℕ)) (t : List ℕ) → ((n : ℕ) × Names texts n t) ⊎ (IsAmong texts t → ⊥)
named_or_absent texts t = by (list_any (bytes_eq t) texts) refl
  where
    by : (b : Bool) → list_any (bytes_eq t) texts ≡ b → ((n : ℕ) × Names texts n t) ⊎ (IsAmong texts t → ⊥)
    by true e =
        let r = IsAmong-list_any (bytes_eq t) texts e in
        inl (Names-IsAmong texts t (subst (λ u. IsAmong texts u) (sym ((bytes_eq-Decides t r.0).0 r.2)) r.1))
    by false e = inr (λ i. false≢true (sym e ∙ list_any-IsAmong (bytes_eq t) texts t i ((bytes_eq-Decides t t).1 refl)))

-- a numbering begins with itself, and with what the one that it begins with begins with
pub Grows-refl : (texts : List (List ℕ)) → Grows texts texts
Grows-refl texts = ([], sym (append-nil texts))

pub Grows-trans : (old next new : List (List ℕ)) → Grows old next → Grows next new → Grows old new
Grows-trans old next new g h = (g.0 ++ h.0, h.1 ∙ ap (λ texts. texts ++ h.0) g.1 ∙ append_assoc old g.0 h.0)

-- a numbering with a text that it has, and with one that it lacks
pub with_text-known : (texts : List (List ℕ)) (t : List ℕ) → IsAmong texts t → with_text texts t ≡ texts
unfolding with_text
with_text-known texts t there =
    ap (λ b. if b then texts else texts ++ t ∷ []) (list_any-IsAmong (bytes_eq t) texts t there ((bytes_eq-Decides t t).1 refl))

pub with_text-fresh : (texts : List (List ℕ)) (t : List ℕ) → (IsAmong texts t → ⊥) → with_text texts t ≡ texts ++ t ∷ []
unfolding with_text
with_text-fresh texts t absent = by (list_any (bytes_eq t) texts) refl
  where
    by : (b : Bool) → list_any (bytes_eq t) texts ≡ b → with_text texts t ≡ texts ++ t ∷ []
    by true e =
        let r = IsAmong-list_any (bytes_eq t) texts e in
        absurd (absent (subst (λ u. IsAmong texts u) (sym ((bytes_eq-Decides t r.0).0 r.2)) r.1))
    by false e = ap (λ b. if b then texts else texts ++ t ∷ []) e

-- what follows of a numbering with one more text follows in both cases
pub with_text-by : (P : List (List ℕ) → Type 0) (texts : List (List ℕ)) (t : List ℕ)
    → (IsAmong texts t → P texts) → ((IsAmong texts t → ⊥) → P (texts ++ t ∷ [])) → P (with_text texts t)
with_text-by P texts t known fresh = by (named_or_absent texts t)
  where
    by : ((n : ℕ) × Names texts n t) ⊎ (IsAmong texts t → ⊥) → P (with_text texts t)
    by (inl named) =
        let there = IsAmong-Names texts named.0 t named.1 in
        subst P (sym (with_text-known texts t there)) (known there)
    by (inr absent) = subst P (sym (with_text-fresh texts t absent)) (fresh absent)

-- it begins with the old one, has the text, gets one more text at most, and none twice
pub with_text-grows : (texts : List (List ℕ)) (t : List ℕ) → Grows texts (with_text texts t)
with_text-grows texts t = with_text-by (Grows texts) texts t (λ _. Grows-refl texts) (λ _. (t ∷ [], refl))

pub with_text-once : (texts : List (List ℕ)) (t : List ℕ) → NoneTwice texts → NoneTwice (with_text texts t)
with_text-once texts t once = with_text-by NoneTwice texts t (λ _. once) (λ absent. NoneTwice-push texts t once absent)

pub with_text-few : (texts : List (List ℕ)) (t : List ℕ) → length (with_text texts t) ≤ length texts + 1
with_text-few texts t =
    with_text-by (λ new. length new ≤ length texts + 1) texts t (λ _. omega arith) (λ _. omega (arith, length_push texts t))

-- a text that is there stays as the texts grow, and it is there behind it
pub IsAmong-grows : (old new : List (List ℕ)) (t : List ℕ) → Grows old new → IsAmong old t → IsAmong new t
IsAmong-grows old new t grows i = subst (λ z. IsAmong z t) (sym grows.1) (IsAmong-append_left old grows.0 t i)

pub with_text-has : (texts : List (List ℕ)) (t : List ℕ) → IsAmong (with_text texts t) t
with_text-has texts t = with_text-by (λ new. IsAmong new t) texts t (λ i. i) (λ absent. IsAmong-new_one texts t)

-- the same of several texts
pub with_texts-grows : (texts ts : List (List ℕ)) → Grows texts (with_texts texts ts)
with_texts-grows texts [] = Grows-refl texts
with_texts-grows texts (t ∷ ts) =
    Grows-trans texts (with_text texts t) (with_texts (with_text texts t) ts) (with_text-grows texts t) (with_texts-grows (with_text texts t) ts)

pub with_texts-has : (texts ts : List (List ℕ)) (t : List ℕ) → IsAmong ts t → IsAmong (with_texts texts ts) t
with_texts-has texts [] t i = absurd i
with_texts-has texts (u ∷ ts) t (inl e) =
    IsAmong-grows (with_text texts u) (with_texts (with_text texts u) ts) t (with_texts-grows (with_text texts u) ts) (subst (λ z. IsAmong (with_text texts u) z) (sym e) (with_text-has texts u))
with_texts-has texts (u ∷ ts) t (inr i) = with_texts-has (with_text texts u) ts t i

pub with_texts-once : (texts ts : List (List ℕ)) → NoneTwice texts → NoneTwice (with_texts texts ts)
with_texts-once texts [] once = once
with_texts-once texts (t ∷ ts) once = with_texts-once (with_text texts t) ts (with_text-once texts t once)

pub with_texts-few : (texts ts : List (List ℕ)) → length (with_texts texts ts) ≤ length texts + length ts
with_texts-few texts [] = omega arith
with_texts-few texts (t ∷ ts) = omega (arith, with_text-few texts t, with_texts-few (with_text texts t) ts)

-- texts one after another, in two parts
pub with_texts-append : (texts ts us : List (List ℕ)) → with_texts texts (ts ++ us) ≡ with_texts (with_texts texts ts) us
with_texts-append texts [] us = refl
with_texts-append texts (t ∷ ts) us = with_texts-append (with_text texts t) ts us
