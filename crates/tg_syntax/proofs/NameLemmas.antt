-- Names at the front of some bytes.
use Rattle.std.proofs.Common.{◌≡◌, ℕ, zero, suc, ◌-◌, ◌<◌, List, [], ◌∷◌, ◌++◌, length, Bool, true, false, refl, ap, sym, ◌∙◌, ◌⊎◌, inl, inr, subst, arith, length-append}
use Rattle.std.specs.Prelude.{◌||◌, bytes_eq, codes, not, ◌↔◌, take, drop, Option, None, Some, MatchOption}
use Rattle.std.proofs.lemmas.Bool.{true≢false, eqb-true}
use Rattle.std.proofs.lemmas.List.{append_cancel_left, append_cancel_right, take-append-drop}
use Rattle.std.proofs.lemmas.Slice.Eq.{bytes_eq-Decides}
use Rattle.gr_base.specs.Lists.{IsAmong}
use Rattle.gr_base.proofs.Booleans.{or_false_is}
use Rattle.gr_text.specs.Words.{is_word_byte}
use Rattle.gr_grammar.specs.Grammars.{Runs, took, failed, take_token, bad_token, bad_end, run_both, run_first, run_left, run_right, is_next}
use Rattle.gr_grammar.proofs.Fronts.{or_cases, or_left, or_right, not_true}
use Rattle.gr_grammar.proofs.Runs.{one_run, took≢failed, same_took, same_failed}
use Rattle.tg_syntax.specs.declared.class.Class.TheVariants.{WordByte}
use Rattle.tg_syntax.specs.Names.{word_rest, word, term}
use Rattle.tg_syntax.specs.Files.{system}
use Rattle.tg_syntax.specs.Breaks.{HasName, whole, before_dash, IsDashed, HasReserved, HasNoMark, reserved, written_marks, by_name, by_value, Obeys, is_one_of}
use Rattle.tg_syntax.proofs.Keyed.{out_word}

pub one_of_among : (ts : List (List ℕ)) (text : List ℕ) → is_one_of ts text ≡ true → IsAmong ts text
one_of_among [] text h = absurd (true≢false (sym h))
one_of_among (t ∷ ts) text h = elim (or_cases (bytes_eq t text) (is_one_of ts text) h) [ inl x ↦ inl (sym ((bytes_eq-Decides t text).0 x)) | inr y ↦ inr (one_of_among ts text y) ]

pub among_one_of : (ts : List (List ℕ)) (text : List ℕ) → IsAmong ts text → is_one_of ts text ≡ true
among_one_of [] text h = absurd h
among_one_of (t ∷ ts) text (inl e) = or_left (bytes_eq t text) _ ((bytes_eq-Decides t text).1 (sym e))
among_one_of (t ∷ ts) text (inr h) = or_right (bytes_eq t text) _ (among_one_of ts text h)

-- a word that stops, stops behind a dash, or before its first byte
contrary : (b : Bool) → (b || false) ≡ true → b ≡ false → ⊥
contrary b t f = true≢false (sym (or_false_is b t) ∙ f)

rest_stop : (n : ℕ) {ts rest : List ℕ} → Runs system (word_rest n) ts (failed rest) → (name : List ℕ) × (ts ≡ name ++ 45 ∷ rest)
rest_stop zero r = elim r [ ]
rest_stop (suc zero) (run_left b (run_both (take_token {t} h) q)) = let x = rest_stop zero (out_word zero q) in (t ∷ x.0, ap (λ z. t ∷ z) x.1)
rest_stop (suc zero) (run_left b (run_first (bad_token {t} h))) = absurd (contrary (is_word_byte t) b h)
rest_stop (suc zero) (run_left b (run_first bad_end)) = absurd (true≢false (sym b))
rest_stop (suc zero) (run_right b x) = elim x [ ]
rest_stop (suc (suc n)) (run_left b (run_both (take_token {t} h) q)) = let x = rest_stop (suc n) (out_word (suc n) q) in (t ∷ x.0, ap (λ z. t ∷ z) x.1)
rest_stop (suc (suc n)) (run_left b (run_first (bad_token {t} h))) = absurd (contrary (is_word_byte t) b h)
rest_stop (suc (suc n)) (run_left b (run_first bad_end)) = absurd (true≢false (sym b))
rest_stop (suc (suc n)) (run_right b (run_left d (run_both (take_token {t} h) (run_both (take_token {t = u} k) q)))) = let x = rest_stop n (out_word n q) in (t ∷ u ∷ x.0, ap (λ z. t ∷ u ∷ z) x.1)
rest_stop (suc (suc n)) (run_right b (run_left d (run_both (take_token {t} h) (run_first (bad_token {t = u} {ts = us} k))))) = ([], ap (λ z. z ∷ u ∷ us) (eqb-true t 45 h))
rest_stop (suc (suc n)) (run_right b (run_left d (run_both (take_token {t} h) (run_first bad_end)))) = ([], ap (λ z. z ∷ []) (eqb-true t 45 h))
rest_stop (suc (suc n)) (run_right b (run_left d (run_first (bad_token {t} h)))) = absurd (contrary _ d h)
rest_stop (suc (suc n)) (run_right b (run_left d (run_first bad_end))) = absurd (true≢false (sym d))
rest_stop (suc (suc n)) (run_right b (run_right d x)) = elim x [ ]

pub word_stop : {ts rest : List ℕ} → Runs system word ts (failed rest) → (ts ≡ rest) ⊎ ((name : List ℕ) × (ts ≡ name ++ 45 ∷ rest))
word_stop (run_both (take_token {t} h) q) = let x = rest_stop 254 (out_word 254 q) in inr (t ∷ x.0, ap (λ z. t ∷ z) x.1)
word_stop (run_first (bad_token h)) = inl refl
word_stop (run_first bad_end) = inl refl

at_once : (ts : List ℕ) → is_next system (WordByte ∷ []) ts ≡ false → Runs system word ts (failed ts)
at_once [] b = run_first bad_end
at_once (t ∷ ts) b = run_first (bad_token (or_false_is (is_word_byte t) b))

pub not_longer : (ts text : List ℕ) → ts ≡ text ++ 45 ∷ ts → ⊥
not_longer ts text e = let a = ap length e in let b = length-append text (45 ∷ ts) in omega arith

never_both : {ts rest : List ℕ} (text left : List ℕ) → Runs system term ts (took rest) → IsDashed ts text left → ⊥
never_both text left (run_left b w) d = took≢failed _ _ (one_run system w d.1)
never_both {ts} text left (run_right b x) d =
    let same : ts ≡ left = same_failed _ _ (one_run system (at_once ts b) d.1) in
    not_longer ts text (d.0 ∙ ap (λ z. text ++ 45 ∷ z) (sym same))

pub one_name : {ts : List ℕ} (text rest : List ℕ) (other left : List ℕ) → HasName ts text rest → HasName ts other left → (text ≡ other) × (rest ≡ left)
one_name text rest other left (whole a b e r) (whole c d f s) =
    let same : rest ≡ left = same_took _ _ (one_run system r s) in
    (append_cancel_right text other rest (sym e ∙ (f ∙ ap (λ z. other ++ z) (sym same))), same)
one_name text rest other left (whole a b e r) (before_dash c d f) = absurd (never_both other left r f)
one_name text rest other left (before_dash a b e) (whole c d f s) = absurd (never_both text rest s e)
one_name text rest other left (before_dash a b e) (before_dash c d f) =
    let same : rest ≡ left = same_failed _ _ (one_run system e.1 f.1) in
    (append_cancel_right text other (45 ∷ rest) (sym e.0 ∙ (f.0 ∙ ap (λ z. other ++ 45 ∷ z) (sym same))), same)

-- where the term stops, a name is there only before a dash
pub no_whole : {ts left : List ℕ} → Runs system term ts (failed left) → ((text rest : List ℕ) → IsDashed ts text rest → ⊥) → (text rest : List ℕ) → HasName ts text rest → ⊥
no_whole r n text rest (whole a b e s) = took≢failed _ _ (one_run system s r)
no_whole r n text rest (before_dash a b d) = n text rest d

pub no_dash : {ts left : List ℕ} → Runs system word ts (took left) → (text rest : List ℕ) → IsDashed ts text rest → ⊥
no_dash r text rest d = took≢failed _ _ (one_run system r d.1)

pub no_front : {ts left : List ℕ} → Runs system word ts (failed left) → ts ≡ left → (text rest : List ℕ) → IsDashed ts text rest → ⊥
no_front {ts} {left} r e text rest d =
    let same : rest ≡ ts = same_failed _ _ (one_run system d.1 r) ∙ sym e in
    not_longer ts text (d.0 ∙ ap (λ z. text ++ 45 ∷ z) same)

pub obeys : (ts : List ℕ) → (HasReserved ts → ⊥) → ((value : List ℕ) → ts ≡ codes "mark=" ++ value → HasNoMark value → ⊥) → Obeys ts
obeys ts h k at (by_name r) = h r
obeys ts h k at (by_value value e m) = k value e m

pub one_value : (ts value other : List ℕ) → ts ≡ codes "mark=" ++ value → ts ≡ codes "mark=" ++ other → value ≡ other
one_value ts value other e f = append_cancel_left (codes "mark=") value other (sym e ∙ f)

-- ---- what the functions answer

pub short_case : (text rest : List ℕ) → (text ≡ rest) ⊎ ((name : List ℕ) × (text ≡ name ++ 45 ∷ rest)) → length text ≡ length rest → text ≡ rest
short_case text rest (inl e) l = e
short_case text rest (inr d) l = let a = ap length d.1 in let b = length-append d.0 (45 ∷ rest) in absurd (omega arith)

take_front : (a b : List ℕ) → take (length a) (a ++ b) ≡ a
take_front [] b = refl
take_front (x ∷ xs) b = ap (λ z. x ∷ z) (take_front xs b)

pub long_case : (text rest : List ℕ) → (text ≡ rest) ⊎ ((name : List ℕ) × (text ≡ name ++ 45 ∷ rest)) → (length text ≡ length rest → ⊥) → (length rest < length text) × (text ≡ take (length text - length rest - 1) text ++ 45 ∷ rest)
long_case text rest (inl e) l = absurd (l (ap length e))
long_case text rest (inr d) l =
    let a = ap length d.1 in let b = length-append d.0 (45 ∷ rest) in
    let n : length text - length rest - 1 ≡ length d.0 = omega arith in
    let same : take (length text - length rest - 1) text ≡ d.0 = (λ i. take (n i) (d.1 i)) ∙ take_front d.0 (45 ∷ rest) in
    (omega arith, d.1 ∙ ap (λ z. z ++ 45 ∷ rest) (sym same))

pub dashed_names : {X : Type 0} (f g : X → List ℕ) {ts left : List ℕ} (x : Option X) → Runs system term ts (failed left) → MatchOption x ((t r : List ℕ) → IsDashed ts t r → ⊥) (λ p. IsDashed ts (f p) (g p)) → MatchOption x ((t r : List ℕ) → HasName ts t r → ⊥) (λ p. HasName ts (f p) (g p))
dashed_names f g None r h = no_whole r h
dashed_names f g (Some p) r h = before_dash (f p) (g p) h

pub nothing_behind : {ts : List ℕ} (text rest : List ℕ) → HasName ts text rest → length rest ≡ 0 → (other left : List ℕ) → HasName ts other left → 0 < length left → ⊥
nothing_behind text rest n l other left h p = let o = one_name text rest other left n h in let a = ap length o.1 in omega arith

pub reserved_there : {ts : List ℕ} (text rest : List ℕ) (b : Bool) → b ≡ is_one_of reserved text → HasName ts text rest → (length rest ≡ 0 → ⊥) → (b ≡ true) ↔ HasReserved ts
reserved_there text rest b e n l = (
  λ h. (text, rest, n, omega arith, one_of_among reserved text (sym e ∙ h)),
  λ h. let o = one_name text rest h.0 h.1 n h.2 in e ∙ among_one_of reserved text (subst (IsAmong reserved) (sym o.0) h.4),
)

yes_not : (b : Bool) → (b ≡ true → ⊥) → not b ≡ true
yes_not true h = absurd (h refl)
yes_not false h = refl

pub mark_there : {ts : List ℕ} (text rest : List ℕ) (b : Bool) → b ≡ is_one_of written_marks text → HasName ts text rest → (length rest ≡ 0 → ⊥) → (not b ≡ true) ↔ HasNoMark ts
mark_there text rest b e n l = (
  λ h. (text, rest, n, omega arith, λ k. not_true b h (e ∙ among_one_of written_marks text k)),
  λ h. let o = one_name text rest h.0 h.1 n h.2 in yes_not b (λ k. h.4 (subst (IsAmong written_marks) o.0 (one_of_among written_marks text (sym e ∙ k)))),
)

pub no_room : (bytes : List ℕ) → length bytes < 5 → (value : List ℕ) → bytes ≡ codes "mark=" ++ value → ⊥
no_room bytes l value e = let a = ap length e in let b = length-append (codes "mark=") value in omega arith

pub split_again : (bytes front value : List ℕ) → front ≡ take 5 bytes → value ≡ drop 5 bytes → bytes ≡ front ++ value
split_again bytes front value f v = sym (take-append-drop 5 bytes) ∙ (λ i. sym f i ++ sym v i)

pub mark_other : (bytes behind : List ℕ) → behind ≡ drop 5 bytes → (bytes ≡ codes "mark=" ++ behind → ⊥) → (value : List ℕ) → bytes ≡ codes "mark=" ++ value → ⊥
mark_other bytes behind b n value e = n (e ∙ ap (λ z. codes "mark=" ++ z) (sym (b ∙ ap (drop 5) e)))
