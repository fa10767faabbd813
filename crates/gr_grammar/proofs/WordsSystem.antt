-- The family of parts of a word is a system.
use Rattle.std.proofs.Common.{◌≡◌, ℕ, zero, suc, List, [], ◌∷◌, Bool, true, false, refl, sym, ◌∙◌, inl, inr, subst}
use Rattle.std.specs.Prelude.{◌==◌, ◌||◌, ◌&&◌}
use Rattle.std.proofs.lemmas.Bool.{true≢false, eqb-true, eq-eqb}
use Rattle.gr_base.proofs.Booleans.{or_false_is}
use Rattle.gr_grammar.specs.Grammars.{Matches, a_token, no_token, both, the_left, the_right, by_part, IsSystem, is_clear, nullable, first, goes, is_of}
use Rattle.gr_grammar.proofs.Fronts.{not_true, or_cases, or_left, or_right, and_left, and_right}
use Rattle.gr_grammar.specs.Words.{rests, firsts, words}

only : List ℕ → Bool
only [] = true
only (c ∷ cs) = ((c == 0) || (c == 1)) && only cs

one : (c t : ℕ) → ((c == 0) || (c == 1)) ≡ true → (c == t) ≡ true → is_of words (0 ∷ 1 ∷ []) t ≡ true
one c t o h = elim (or_cases (c == 0) (c == 1) o)
    [ inl x ↦ or_left (0 == t) _ (subst (λ z. (z == t) ≡ true) (eqb-true c 0 x) h) | inr y ↦ or_right (0 == t) _ (or_left (1 == t) false (subst (λ z. (z == t) ≡ true) (eqb-true c 1 y) h)) ]

two : (cs : List ℕ) → only cs ≡ true → (t : ℕ) → is_of words cs t ≡ true → is_of words (0 ∷ 1 ∷ []) t ≡ true
unfolding only
two [] o t h = absurd (true≢false (sym h))
two (c ∷ cs) o t h = elim (or_cases (c == t) (is_of words cs t) h)
    [ inl x ↦ one c t (and_left ((c == 0) || (c == 1)) (only cs) o) x | inr y ↦ two cs (and_right ((c == 0) || (c == 1)) (only cs) o) t y ]

ends : (n t : ℕ) → is_of words (goes words (rests n)) t ≡ true → is_of words (0 ∷ 1 ∷ []) t ≡ true
unfolding only
ends zero t h = two (goes words (rests 0)) refl t h
ends (suc zero) t h = two (goes words (rests 1)) refl t h
ends (suc (suc n)) t h = two (goes words (rests (suc (suc n)))) refl t h

clear : (n : ℕ) → is_clear words (rests n) ≡ true
clear zero = refl
clear (suc zero) = refl
clear (suc (suc n)) = refl

null : (n : ℕ) → nullable words (rests n) ≡ true
null zero = refl
null (suc zero) = refl
null (suc (suc n)) = refl

begin : (n : ℕ) → first words (rests n) ≡ firsts n
begin zero = refl
begin (suc zero) = refl
begin (suc (suc n)) = refl

none : (n : ℕ) (ts : List ℕ) → Matches words (rests n) ts ts
none zero ts = no_token
none (suc zero) ts = the_right no_token
none (suc (suc n)) ts = the_right (the_right no_token)

begun : (n t : ℕ) → is_of words (firsts n) t ≡ true → (ts : List ℕ) × Matches words (rests n) (t ∷ ts) []
begun zero t i = absurd (true≢false (sym i))
begun (suc zero) t i = ([], the_left (both (a_token (or_false_is _ i)) (by_part no_token)))
begun (suc (suc n)) t i = elim (or_cases (0 == t) _ i)
    [ inl x ↦ ([], the_left (both (a_token x) (by_part (none (suc n) [])))) | inr y ↦ (0 ∷ [], the_right (the_left (both (a_token (or_false_is _ y)) (both (a_token refl) (by_part (none n [])))))) ]

pub is_system : IsSystem words
is_system = record {
  are_apart = λ c d t a h i. not_true (c == d) a (eq-eqb c d (eqb-true c t h ∙ sym (eqb-true d t i)));
  shown = λ c. (c, eq-eqb c c refl);
  clear = clear;
  null = null;
  first = begin;
  goes = ends;
  none = λ n e ts. none n ts;
  some = λ n. ([], none n []);
  begun = begun;
}
