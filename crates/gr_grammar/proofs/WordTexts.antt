-- The texts of the counted grammar are the words of at most 255 bytes.
use Rattle.std.proofs.Common.{◌≡◌, ℕ, zero, suc, ◌≤◌, List, [], ◌∷◌, length, true, inl, inr, ap, sym, arith}
use Rattle.std.specs.Prelude.{◌==◌}
use Rattle.std.proofs.lemmas.Bool.{eqb-true}
use Rattle.gr_grammar.specs.Grammars.{part, Matches, IsText, a_token, no_token, both, the_left, the_right, by_part}
use Rattle.gr_grammar.specs.Words.{words, word, IsWordRest, IsShortWord}

-- what may follow in a word with n bytes left
abbrev Follows : ℕ → List ℕ → Type 0
Follows n ts = IsWordRest ts × (length ts ≤ n)

a_byte : (t : ℕ) → (0 == t) ≡ true → t ≡ 0
a_byte t h = sym (eqb-true 0 t h)

a_dash : (t : ℕ) → (1 == t) ≡ true → t ≡ 1
a_dash t h = sym (eqb-true 1 t h)

follows : (n : ℕ) {ts : List ℕ} → Matches words (part n) ts [] → Follows n ts
follows zero (by_part no_token) = (tt, omega arith)
follows (suc zero) (by_part (the_left (both (a_token {t} h) p))) = let r = follows zero p in let l = r.1 in ((inl (a_byte t h), r.0), omega arith)
follows (suc zero) (by_part (the_right no_token)) = (tt, omega arith)
follows (suc (suc n)) (by_part (the_left (both (a_token {t} h) p))) = let r = follows (suc n) p in let l = r.1 in ((inl (a_byte t h), r.0), omega arith)
follows (suc (suc n)) (by_part (the_right (the_left (both (a_token {t} h) (both (a_token {t = u} k) p))))) =
    let r = follows n p in let l = r.1 in ((inr (a_dash t h, a_byte u k), (inl (a_byte u k), r.0)), omega arith)
follows (suc (suc n)) (by_part (the_right (the_right no_token))) = (tt, omega arith)

pub short_word : {ts : List ℕ} → IsText words word ts → IsShortWord ts
short_word (both (a_token {t} h) p) = let r = follows 254 p in let l = r.1 in (a_byte t h, (inl (a_byte t h), r.0), omega arith)

byte_test : (t : ℕ) → t ≡ 0 → (0 == t) ≡ true
byte_test t e = ap (λ z. 0 == z) e

dash_test : (t : ℕ) → t ≡ 1 → (1 == t) ≡ true
dash_test t e = ap (λ z. 1 == z) e

rest_text : (n : ℕ) (ts : List ℕ) → IsWordRest ts → length ts ≤ n → Matches words (part n) ts []
rest_text zero [] h l = by_part no_token
rest_text zero (t ∷ ts) h l = absurd (omega arith)
rest_text (suc zero) [] h l = by_part (the_right no_token)
rest_text (suc zero) (t ∷ ts) (inl e, h) l = by_part (the_left (both (a_token (byte_test t e)) (rest_text zero ts h (omega arith))))
rest_text (suc zero) (t ∷ []) (inr e, h) l = absurd e.1
rest_text (suc zero) (t ∷ u ∷ ts) (inr e, h) l = absurd (omega arith)
rest_text (suc (suc n)) [] h l = by_part (the_right (the_right no_token))
rest_text (suc (suc n)) (t ∷ ts) (inl e, h) l = by_part (the_left (both (a_token (byte_test t e)) (rest_text (suc n) ts h (omega arith))))
rest_text (suc (suc n)) (t ∷ []) (inr e, h) l = absurd e.1
rest_text (suc (suc n)) (t ∷ u ∷ ts) (inr e, h) l = by_part (the_right (the_left (both (a_token (dash_test t e.0)) (both (a_token (byte_test u e.1)) (rest_text n ts h.1 (omega arith))))))

pub word_text : (ts : List ℕ) → IsShortWord ts → IsText words word ts
word_text [] h = absurd h.0
word_text (t ∷ ts) h = let l = h.2 in both (a_token (byte_test t h.0)) (rest_text 254 ts h.1.1 (omega arith))
