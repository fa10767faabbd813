-- The steps of functions that take parts of grammar text.
use Rattle.std.proofs.Common.{◌≡◌, ℕ, zero, suc, ◌-◌, ◌<◌, ◌≤◌, List, [], ◌∷◌, length, true, false, refl, sym, ◌∙◌, subst, arith, inl, inr}
use Rattle.std.proofs.lemmas.Bool.{true≢false, cases_lt}
use Rattle.gr_base.proofs.Numbers.{one_less}
use Rattle.gr_grammar.specs.Grammars.{Grammar, tok, part, Runs, End, took, failed, take_nothing, run_both, run_first, run_left, run_right, run_part, tree_of, is_next, nullable, Rounds, start, round}
use Rattle.gr_grammar.proofs.Fronts.{null_of, no_longer}
use Rattle.tg_syntax.specs.declared.class.Class.{Class}
use Rattle.tg_syntax.specs.declared.class.Class.TheVariants.{Byte, WordByte, StringByte, Digit}
use Rattle.tg_syntax.specs.Families.{word_part, string_part}
use Rattle.tg_syntax.specs.Names.{keyword, word_rest, string_rest, digits}
use Rattle.tg_syntax.specs.Files.{system}
use Rattle.tg_syntax.proofs.FileSystem.{is_system, parts_word, parts_string}

-- a run of a part at its number
pub in_word : (n : ℕ) {ts : List ℕ} {e : End ℕ} → Runs system (word_rest n) ts e → Runs system (part (word_part n)) ts e
in_word n {ts} {e} r = run_part {n = word_part n} (subst (λ g. Runs system g ts e) (sym (parts_word n)) r)

pub in_string : (n : ℕ) {ts : List ℕ} {e : End ℕ} → Runs system (string_rest n) ts e → Runs system (part (string_part n)) ts e
in_string n {ts} {e} r = run_part {n = string_part n} (subst (λ g. Runs system g ts e) (sym (parts_string n)) r)

-- ---- words

less_two : (n : ℕ) → suc (suc n) - 2 ≡ n
less_two n = omega arith

pub word_full : (left : ℕ) (ts : List ℕ) → left ≡ 0 → Runs system (part (word_part left)) ts (took ts)
word_full zero ts h = in_word 0 take_nothing
word_full (suc n) ts h = absurd (omega arith)

pub word_on : (left : ℕ) {ts mid : List ℕ} → (left ≡ 0 → ⊥) → is_next system (WordByte ∷ []) ts ≡ true → Runs system (tok WordByte) ts (took mid) → (e : End ℕ) → Runs system (part (word_part (left - 1))) mid e → Runs system (part (word_part left)) ts e
word_on zero h b t e k = absurd (h refl)
word_on (suc zero) h b t e k = in_word 1 (run_left b (run_both t k))
word_on (suc (suc n)) {mid} h b t e k = in_word (suc (suc n)) (run_left b (run_both t (subst (λ m. Runs system (part (word_part m)) mid e) (one_less (suc n)) k)))

pub word_one_left : (left : ℕ) {ts : List ℕ} → left ≡ 1 → is_next system (WordByte ∷ []) ts ≡ false → Runs system (part (word_part left)) ts (took ts)
word_one_left zero h b = absurd (omega arith)
word_one_left (suc zero) h b = in_word 1 (run_right b take_nothing)
word_one_left (suc (suc n)) h b = absurd (omega arith)

pub word_ends : (left : ℕ) {ts : List ℕ} → is_next system (WordByte ∷ []) ts ≡ false → is_next system (Byte 45 ∷ []) ts ≡ false → Runs system (part (word_part left)) ts (took ts)
word_ends zero b d = in_word 0 take_nothing
word_ends (suc zero) b d = in_word 1 (run_right b take_nothing)
word_ends (suc (suc n)) b d = in_word (suc (suc n)) (run_right b (run_right d take_nothing))

pub word_over_dash : (left : ℕ) {ts mid rest : List ℕ} → (left ≡ 0 → ⊥) → (left ≡ 1 → ⊥) → is_next system (WordByte ∷ []) ts ≡ false → is_next system (Byte 45 ∷ []) ts ≡ true → Runs system (tok (Byte 45)) ts (took mid) → Runs system (tok WordByte) mid (took rest) →
    (e : End ℕ) → Runs system (part (word_part (left - 2))) rest e → Runs system (part (word_part left)) ts e
word_over_dash zero h g b d t u e k = absurd (h refl)
word_over_dash (suc zero) h g b d t u e k = absurd (g refl)
word_over_dash (suc (suc n)) {rest} h g b d t u e k = in_word (suc (suc n)) (run_right b (run_left d (run_both t (run_both u (subst (λ m. Runs system (part (word_part m)) rest e) (less_two n) k)))))

pub word_stops : (left : ℕ) {ts mid rest : List ℕ} → (left ≡ 0 → ⊥) → (left ≡ 1 → ⊥) → is_next system (WordByte ∷ []) ts ≡ false → is_next system (Byte 45 ∷ []) ts ≡ true → Runs system (tok (Byte 45)) ts (took mid) → Runs system (tok WordByte) mid (failed rest) →
    Runs system (part (word_part left)) ts (failed rest)
word_stops zero h g b d t u = absurd (h refl)
word_stops (suc zero) h g b d t u = absurd (g refl)
word_stops (suc (suc n)) h g b d t u = in_word (suc (suc n)) (run_right b (run_left d (run_both t (run_first u))))

-- ---- strings and digits

pub string_on : (left : ℕ) {ts mid : List ℕ} → 0 < left → is_next system (StringByte ∷ []) ts ≡ true → Runs system (tok StringByte) ts (took mid) → (e : End ℕ) → Runs system (part (string_part (left - 1))) mid e → Runs system (part (string_part left)) ts e
string_on zero h b t e k = absurd (omega arith)
string_on (suc n) {mid} h b t e k = in_string (suc n) (run_left b (run_both t (subst (λ m. Runs system (part (string_part m)) mid e) (one_less n) k)))

pub string_full : (left : ℕ) (ts : List ℕ) → left ≤ 0 → Runs system (part (string_part left)) ts (took ts)
string_full zero ts h = in_string 0 take_nothing
string_full (suc n) ts h = absurd (omega arith)

pub string_ends : (left : ℕ) (ts : List ℕ) → is_next system (StringByte ∷ []) ts ≡ false → Runs system (part (string_part left)) ts (took ts)
string_ends zero ts b = in_string 0 take_nothing
string_ends (suc n) ts b = in_string (suc n) (run_right b take_nothing)

pub digits_on : (left : ℕ) {ts mid : List ℕ} → 0 < left → is_next system (Digit ∷ []) ts ≡ true → Runs system (tok Digit) ts (took mid) → (e : End ℕ) → Runs system (digits (left - 1)) mid e → Runs system (digits left) ts e
digits_on zero h b t e k = absurd (omega arith)
digits_on (suc n) {mid} h b t e k = run_left b (run_both t (subst (λ m. Runs system (digits m) mid e) (one_less n) k))

pub digits_full : (left : ℕ) (ts : List ℕ) → left ≤ 0 → Runs system (digits left) ts (took ts)
digits_full zero ts h = take_nothing
digits_full (suc n) ts h = absurd (omega arith)

pub digits_end : (left : ℕ) (ts : List ℕ) → is_next system (Digit ∷ []) ts ≡ false → Runs system (digits left) ts (took ts)
digits_end zero ts b = take_nothing
digits_end (suc n) ts b = run_right b take_nothing

-- ---- keywords

pub keyword_on : (b : ℕ) (bs : List ℕ) {ts mid : List ℕ} (e : End ℕ) → Runs system (tok (Byte b)) ts (took mid) → Runs system (keyword bs) mid e → Runs system (keyword (b ∷ bs)) ts e
keyword_on b bs e t k = run_both t k

pub keyword_ends : (bs ts : List ℕ) → length bs ≡ 0 → Runs system (keyword bs) ts (took ts)
keyword_ends [] ts h = take_nothing
keyword_ends (b ∷ bs) ts h = absurd (omega arith)

-- ---- measures

pub shorter : {g : Grammar Class} {ts rest : List ℕ} → nullable system g ≡ false → Runs system g ts (took rest) → length rest < length ts
shorter {g} {ts} {rest} n r = elim (cases_lt (length rest) (length ts)) [ inl x ↦ x | inr y ↦ absurd (true≢false (sym (null_of system is_system (tree_of r) y) ∙ n)) ]

pub below : {g : Grammar Class} {ts rest : List ℕ} → Rounds system g ts rest → length rest ≤ length ts
below start = omega arith
below (round r b m) = let x = below r in let y = no_longer system (tree_of m) in omega arith
