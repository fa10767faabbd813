-- A word that may be a keyword, behind which something else may follow.
use Rattle.std.proofs.Common.{◌≡◌, ℕ, zero, suc, ◌+◌, ◌≤◌, List, [], ◌∷◌, ◌++◌, length, true, false, refl, ap, sym, ◌∙◌, ◌⊎◌, inl, inr, subst, arith, length-append}
use Rattle.std.specs.Prelude.{◌==◌, ◌&&◌, ◌||◌, not, codes}
use Rattle.std.proofs.lemmas.Bool.{true≢false, eqb-true, eq-eqb, cases_Bool}
use Rattle.gr_base.specs.Lists.{Each}
use Rattle.gr_base.proofs.ListLemmas.{same_head, same_tail}
use Rattle.gr_base.proofs.Booleans.{or_false_is}
use Rattle.gr_text.specs.Words.{is_word_byte}
use Rattle.gr_grammar.specs.Grammars.{Grammar, alt, part, Runs, End, took, failed, take_token, bad_token, bad_end, take_nothing, run_both, run_first, run_left, run_right, run_part, tree_of, is_next}
use Rattle.gr_grammar.proofs.Fronts.{no_longer}
use Rattle.tg_syntax.specs.declared.class.Class.{Class}
use Rattle.tg_syntax.specs.declared.class.Class.TheVariants.{Byte, WordByte, WordByteBut}
use Rattle.tg_syntax.specs.Bytes.{test}
use Rattle.tg_syntax.specs.Families.{word_part}
use Rattle.tg_syntax.specs.Names.{word_rest, word, bag}
use Rattle.tg_syntax.specs.Trees.{keyed, first_item, behind_handle}
use Rattle.tg_syntax.specs.Files.{system}
use Rattle.tg_syntax.proofs.FileSystem.{parts_word}

pub out_word : (n : ℕ) {ts : List ℕ} {e : End ℕ} → Runs system (part (word_part n)) ts e → Runs system (word_rest n) ts e
out_word n {ts} {e} (run_part a) = subst (λ g. Runs system g ts e) (parts_word n) a

-- what begins no word begins with no byte of a word
no_byte : (t b : ℕ) → test WordByte b ≡ true → is_word_byte t ≡ false → (t == b) ≡ false
no_byte t b w n = elim (cases_Bool (t == b)) [ inl e ↦ absurd (true≢false (sym w ∙ (ap is_word_byte (sym (eqb-true t b e)) ∙ n))) | inr e ↦ e ]

pub not_this : (b : ℕ) → test WordByte b ≡ true → (ts : List ℕ) → is_next system (WordByte ∷ []) ts ≡ false → is_next system (Byte b ∷ []) ts ≡ false
not_this b w [] h = refl
not_this b w (t ∷ ts) h = ap (λ v. v || false) (no_byte t b w (or_false_is (is_word_byte t) h))

pub not_other : (b : ℕ) (ts : List ℕ) → is_next system (WordByte ∷ []) ts ≡ false → is_next system (WordByteBut b ∷ []) ts ≡ false
not_other b [] h = refl
not_other b (t ∷ ts) h = ap (λ v. (v && not (t == b)) || false) (or_false_is (is_word_byte t) h)

is_it : (t b : ℕ) → (t == b) ≡ true → (test (Byte b) t || false) ≡ true
is_it t b e = ap (λ v. v || false) e

is_not : (t b : ℕ) → (t == b) ≡ false → (test (Byte b) t || false) ≡ false
is_not t b e = ap (λ v. v || false) e

other_test : (t b : ℕ) → is_word_byte t ≡ true → (t == b) ≡ false → test (WordByteBut b) t ≡ true
other_test t b w e = ap (λ v. v && not (t == b)) w ∙ ap not e

other_begins : (t b : ℕ) → is_word_byte t ≡ true → (t == b) ≡ false → (test (WordByteBut b) t || false) ≡ true
other_begins t b w e = ap (λ v. v || false) (other_test t b w e)

-- what follows a word: one thing behind the keyword, and another behind another word
abbrev pub Follows : List ℕ → Grammar Class → Grammar Class → List ℕ → List ℕ → End ℕ → Type 0
Follows bs key other ts mid e = ((ts ≡ bs ++ mid) × Runs system key mid e) ⊎ ((ts ≡ bs ++ mid → ⊥) × Runs system other mid e)

too_long : (ts bs mid : List ℕ) → ts ≡ bs ++ mid → length ts ≤ length mid → 0 ≡ length bs
too_long ts bs mid e l = let a = ap length e in let b = length-append bs mid in omega arith

other_run : (bs : List ℕ) {key other : Grammar Class} {ts mid : List ℕ} {e : End ℕ} → (ts ≡ bs ++ mid → ⊥) → Follows bs key other ts mid e → Runs system other mid e
other_run bs n (inl k) = absurd (n k.0)
other_run bs n (inr k) = k.1

key_run : {key other : Grammar Class} {ts : List ℕ} {e : End ℕ} → Follows [] key other ts ts e → Runs system key ts e
key_run (inl k) = k.1
key_run (inr k) = absurd (k.0 refl)

tail_follows : (bs : List ℕ) {key other : Grammar Class} {ts mid : List ℕ} {e : End ℕ} (t b : ℕ) → t ≡ b → Follows (b ∷ bs) key other (t ∷ ts) mid e → Follows bs key other ts mid e
tail_follows bs {ts = ts} {mid = mid} t b h (inl k) = inl (same_tail t b ts (bs ++ mid) k.0, k.1)
tail_follows bs {ts = ts} {mid = mid} t b h (inr k) = inr ((λ e. k.0 ((λ i. h i ∷ e i))), k.1)

begins_word : (t : ℕ) → (is_word_byte t || false) ≡ true → is_word_byte t ≡ false → ⊥
begins_word t b h = true≢false (sym b ∙ ap (λ v. v || false) h)

module _ (key other : Grammar Class) where
  at_end : (m : ℕ) {ts mid : List ℕ} {e : End ℕ} → Runs system (word_rest (suc (suc m))) ts (took mid) → Follows [] key other ts mid e → Runs system (keyed (suc (suc m)) [] key other) ts e
  at_end m {ts} {mid} (run_left b (run_both (take_token {t} {ts = us} h) q)) f =
      run_left b (run_both (take_token h) (run_both q (other_run [] (λ x. let l = no_longer system (tree_of q) in let a = ap length x in omega arith) f)))
  at_end m {ts} {mid} (run_right b (run_left d (run_both (take_token {t} {ts = us} h) (run_both (take_token {t = u} {ts = vs} k) q)))) f =
      run_right b (run_left d (run_both (take_token h) (run_both (take_token k) (run_both q (other_run [] (λ x. let l = no_longer system (tree_of q) in let a = ap length x in omega arith) f)))))
  at_end m (run_right b (run_right d take_nothing)) f = run_right b (run_right d (key_run f))

  step : (m b : ℕ) (bs : List ℕ) {ts mid : List ℕ} {e : End ℕ} → test WordByte b ≡ true → ((us : List ℕ) → Runs system (part (word_part (suc m))) us (took mid) → Follows bs key other us mid e → Runs system (keyed (suc m) bs key other) us e) →
      Runs system (word_rest (suc (suc m))) ts (took mid) → Follows (b ∷ bs) key other ts mid e → Runs system (keyed (suc (suc m)) (b ∷ bs) key other) ts e
  step m b bs {mid = mid} w again (run_left c (run_both (take_token {t} {ts = us} h) q)) f = elim (cases_Bool (t == b)) [
    | inl x ↦ run_left (is_it t b x) (run_both (take_token x) (again us q (tail_follows bs t b (eqb-true t b x) f)))
    | inr x ↦ run_right (is_not t b x) (run_left (other_begins t b h x) (run_both (take_token (other_test t b h x)) (run_both q (other_run (b ∷ bs) (λ e. true≢false (sym (eq-eqb t b (same_head t b us (bs ++ mid) e)) ∙ x)) f))))
  ]
  step m b bs {ts = ws} {mid = mid} w again (run_right c (run_left d (run_both (take_token {t} {ts = us} h) (run_both (take_token k) q)))) f =
      run_right (not_this b w ws c) (run_right (not_other b ws c) (run_left d (run_both (take_token h) (run_both (take_token k) (run_both q (other_run (b ∷ bs) (λ e. true≢false (sym w ∙ (ap is_word_byte (sym (same_head t b us (bs ++ mid) e)) ∙ or_false_is (is_word_byte t) c))) f))))))
  step m b bs {ts} w again (run_right c (run_right d take_nothing)) f =
      run_right (not_this b w ts c) (run_right (not_other b ts c) (run_right d (other_run (b ∷ bs) (λ e. let a = ap length e in let l = length-append bs ts in omega arith) f)))

  pub keyed_run : (n : ℕ) (bs : List ℕ) {ts mid : List ℕ} {e : End ℕ} → length bs + 2 ≤ n → Each (λ b. test WordByte b ≡ true) bs → Runs system (part (word_part n)) ts (took mid) → Follows bs key other ts mid e → Runs system (keyed n bs key other) ts e
  keyed_run zero bs l w r f = absurd (omega arith)
  keyed_run (suc zero) bs l w r f = absurd (omega arith)
  keyed_run (suc (suc m)) [] l w r f = at_end m (out_word (suc (suc m)) r) f
  keyed_run (suc (suc m)) (b ∷ bs) l w r f = step m b bs w.0 (λ us q g. keyed_run (suc m) bs (omega arith) w.1 q g) (out_word (suc (suc m)) r) f

  fails_at_end : (m : ℕ) {ts rest : List ℕ} → Runs system (word_rest (suc (suc m))) ts (failed rest) → Runs system (keyed (suc (suc m)) [] key other) ts (failed rest)
  fails_at_end m (run_left b (run_both t q)) = run_left b (run_both t (run_first q))
  fails_at_end m (run_left b (run_first (bad_token {t} h))) = absurd (begins_word t b h)
  fails_at_end m (run_left b (run_first bad_end)) = absurd (true≢false (sym b))
  fails_at_end m (run_right b (run_left d (run_both t (run_both u q)))) = run_right b (run_left d (run_both t (run_both u (run_first q))))
  fails_at_end m (run_right b (run_left d (run_both t (run_first u)))) = run_right b (run_left d (run_both t (run_first u)))
  fails_at_end m (run_right b (run_left d (run_first u))) = run_right b (run_left d (run_first u))
  fails_at_end m (run_right b (run_right d x)) = elim x [ ]

  fails_by_step : (m b : ℕ) (bs : List ℕ) {ts rest : List ℕ} → test WordByte b ≡ true → ((us : List ℕ) → Runs system (part (word_part (suc m))) us (failed rest) → Runs system (keyed (suc m) bs key other) us (failed rest)) →
      Runs system (word_rest (suc (suc m))) ts (failed rest) → Runs system (keyed (suc (suc m)) (b ∷ bs) key other) ts (failed rest)
  fails_by_step m b bs w again (run_left c (run_both (take_token {t} {ts = us} h) q)) = elim (cases_Bool (t == b)) [
    | inl x ↦ run_left (is_it t b x) (run_both (take_token x) (again us q))
    | inr x ↦ run_right (is_not t b x) (run_left (other_begins t b h x) (run_both (take_token (other_test t b h x)) (run_first q)))
  ]
  fails_by_step m b bs w again (run_left c (run_first (bad_token {t} h))) = absurd (begins_word t c h)
  fails_by_step m b bs w again (run_left c (run_first bad_end)) = absurd (true≢false (sym c))
  fails_by_step m b bs {ts} w again (run_right c (run_left d (run_both t (run_both u q)))) = run_right (not_this b w ts c) (run_right (not_other b ts c) (run_left d (run_both t (run_both u (run_first q)))))
  fails_by_step m b bs {ts} w again (run_right c (run_left d (run_both t (run_first u)))) = run_right (not_this b w ts c) (run_right (not_other b ts c) (run_left d (run_both t (run_first u))))
  fails_by_step m b bs {ts} w again (run_right c (run_left d (run_first u))) = run_right (not_this b w ts c) (run_right (not_other b ts c) (run_left d (run_first u)))
  fails_by_step m b bs {ts} w again (run_right c (run_right d x)) = elim x [ ]

  pub keyed_fails : (n : ℕ) (bs : List ℕ) {ts rest : List ℕ} → length bs + 2 ≤ n → Each (λ b. test WordByte b ≡ true) bs → Runs system (part (word_part n)) ts (failed rest) → Runs system (keyed n bs key other) ts (failed rest)
  keyed_fails zero bs l w r = absurd (omega arith)
  keyed_fails (suc zero) bs l w r = absurd (omega arith)
  keyed_fails (suc (suc m)) [] l w r = fails_at_end m (out_word (suc (suc m)) r)
  keyed_fails (suc (suc m)) (b ∷ bs) l w r = fails_by_step m b bs w.0 (λ us q. keyed_fails (suc m) bs (omega arith) w.1 q) (out_word (suc (suc m)) r)

-- an interface, or a literal whose handle is a word
pub item_run : {ts mid : List ℕ} {e : End ℕ} → Runs system word ts (took mid) → Follows (codes "iface") (alt bag behind_handle) behind_handle ts mid e → Runs system first_item ts e
item_run {mid = mid} (run_both (take_token {t} {ts = us} h) q) f = elim (cases_Bool (t == 105)) [
  | inl x ↦ run_left (is_it t 105 x) (run_both (take_token x) (keyed_run (alt bag behind_handle) behind_handle 254 (codes "face") (omega arith) (refl, (refl, (refl, (refl, tt)))) q (tail_follows (codes "face") t 105 (eqb-true t 105 x) f)))
  | inr x ↦ run_right (is_not t 105 x) (run_left (other_begins t 105 h x) (run_both (take_token (other_test t 105 h x)) (run_both q (other_run (codes "iface") (λ e. true≢false (sym (eq-eqb t 105 (same_head t 105 us (codes "face" ++ mid) e)) ∙ x)) f))))
]

pub item_fails : {ts rest : List ℕ} → is_next system (WordByte ∷ []) ts ≡ true → Runs system word ts (failed rest) → Runs system first_item ts (failed rest)
item_fails b (run_both (take_token {t} {ts = us} h) q) = elim (cases_Bool (t == 105)) [
  | inl x ↦ run_left (is_it t 105 x) (run_both (take_token x) (keyed_fails (alt bag behind_handle) behind_handle 254 (codes "face") (omega arith) (refl, (refl, (refl, (refl, tt)))) q))
  | inr x ↦ run_right (is_not t 105 x) (run_left (other_begins t 105 h x) (run_both (take_token (other_test t 105 h x)) (run_first q)))
]
item_fails b (run_first (bad_token {t} h)) = absurd (begins_word t b h)
item_fails b (run_first bad_end) = absurd (true≢false (sym b))
