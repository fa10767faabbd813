-- One answer is right: a text has one run, which meets the same properties whenever it is made, and a property breaks the rule at one place.
use Rattle.std.proofs.Common.{◌≡◌, ℕ, List, [], ◌∷◌, ◌++◌, length, true, false, refl, ap, sym, ◌∙◌, inl, inr, subst, arith}
use Rattle.std.specs.Prelude.{◌==◌, codes, if◌then◌else◌, Result, Ok, Err, ⊤}
use Rattle.std.proofs.lemmas.Bool.{true≢false}
use Rattle.gr_base.specs.Lists.{Each, IsAmong}
use Rattle.gr_base.proofs.ListLemmas.{same_head, same_tail, Each-right}
use Rattle.gr_text.specs.declared.Place.{Place}
use Rattle.gr_grammar.specs.Grammars.{System, Grammar, Runs, End, took, failed, take_token, bad_token, bad_end, take_nothing, run_both, run_first, run_left, run_right, run_end, run_more, run_part, begins}
use Rattle.gr_grammar.proofs.Runs.{one_run, took≢failed, same_took}
use Rattle.gr_grammar.proofs.Places.{one_fault, no_fault}
use Rattle.tg_syntax.specs.Names.{term}
use Rattle.tg_syntax.specs.Trees.{PROPERTY}
use Rattle.tg_syntax.specs.Files.{system, file}
use Rattle.tg_syntax.specs.Visits.{begun}
use Rattle.tg_syntax.specs.Breaks.{whole, HasReserved, reserved, Breaks, by_name, by_value, Obeys, IsFirstBreak}
use Rattle.tg_syntax.specs.Answers.{BreaksAt, at_name, at_byte, IsGrammarFile, place_with, IsSyntaxAnswer}
use Rattle.tg_syntax.proofs.Steps.{in_word}
use Rattle.tg_syntax.proofs.NameLemmas.{one_name, one_value}

-- ---- the properties that a run meets

module _ {C : Type 0} (S : System C ℕ) where
  one_end : {g : Grammar C} {ts us : List ℕ} {e f : End ℕ} → ts ≡ us → Runs S g ts e → Runs S g us f → e ≡ f
  one_end {g} {f = f} q a b = one_run S a (subst (λ z. Runs S g z f) (sym q) b)

  other_way : (g : Grammar C) {ts us : List ℕ} → ts ≡ us → begins S g ts ≡ true → begins S g us ≡ false → ⊥
  other_way g q b d = true≢false (sym b ∙ (ap (begins S g) q ∙ d))

  pub same_begun : (p : ℕ) {g : Grammar C} {ts us : List ℕ} {e f : End ℕ} → ts ≡ us → (a : Runs S g ts e) (b : Runs S g us f) → begun p a ≡ begun p b
  same_begun p q (take_token h) (take_token k) = refl
  same_begun p q (take_token h) (bad_token k) = refl
  same_begun p q (take_token h) bad_end = refl
  same_begun p q (bad_token h) (take_token k) = refl
  same_begun p q (bad_token h) (bad_token k) = refl
  same_begun p q (bad_token h) bad_end = refl
  same_begun p q bad_end (take_token k) = refl
  same_begun p q bad_end (bad_token k) = refl
  same_begun p q bad_end bad_end = refl
  same_begun p q take_nothing take_nothing = refl
  same_begun p q (run_both a b) (run_both c d) = (λ i. same_begun p q a c i ++ same_begun p (same_took _ _ (one_end q a c)) b d i)
  same_begun p q (run_both a b) (run_first c) = absurd (took≢failed _ _ (one_end q a c))
  same_begun p q (run_first a) (run_both c d) = absurd (took≢failed _ _ (sym (one_end q a c)))
  same_begun p q (run_first a) (run_first c) = same_begun p q a c
  same_begun p q (run_left h a) (run_left k c) = same_begun p q a c
  same_begun p q (run_left {g} h a) (run_right k c) = absurd (other_way g q h k)
  same_begun p q (run_right {g} h a) (run_left k c) = absurd (other_way g (sym q) k h)
  same_begun p q (run_right h a) (run_right k c) = same_begun p q a c
  same_begun p q (run_end h) (run_end k) = refl
  same_begun p q (run_end {g} h) (run_more k c) = absurd (other_way g (sym q) k h)
  same_begun p q (run_more {g} h a) (run_end k) = absurd (other_way g q h k)
  same_begun p q (run_more h a) (run_more k c) = same_begun p q a c
  same_begun p q (run_part {n} a) (run_part c) = (λ i. if n == p then (q i ∷ same_begun p q a c i) else same_begun p q a c i)

-- ---- where a property breaks the rule

-- the name of a property that begins with `mark=`
pub mark_run : (value : List ℕ) → Runs system term (codes "mark=" ++ value) (took (61 ∷ value))
mark_run value =
    run_left refl (run_both (take_token refl)
    (in_word 254 (run_left refl (run_both (take_token refl)
    (in_word 253 (run_left refl (run_both (take_token refl)
    (in_word 252 (run_left refl (run_both (take_token refl)
    (in_word 251 (run_right refl (run_right refl take_nothing)))))))))))))

not_reserved : IsAmong reserved (codes "mark") → ⊥
not_reserved (inl e) = let l = ap length e in absurd (omega arith)
not_reserved (inr (inl e)) = let l = ap length e in absurd (omega arith)
not_reserved (inr (inr e)) = e

mark_kept : {ts : List ℕ} (value : List ℕ) → ts ≡ codes "mark=" ++ value → HasReserved ts → ⊥
mark_kept value e h =
    let n = one_name h.0 h.1 (codes "mark") (61 ∷ value) h.2 (whole (codes "mark") (61 ∷ value) e (subst (λ z. Runs system term z (took (61 ∷ value))) (sym e) (mark_run value))) in
    not_reserved (subst (IsAmong reserved) n.0 h.4)

pub one_break : {ts at other : List ℕ} → Breaks ts at → Breaks ts other → at ≡ other
one_break (by_name h) (by_name k) = refl
one_break (by_name h) (by_value value e n) = absurd (mark_kept value e h)
one_break (by_value value e n) (by_name k) = absurd (mark_kept value e k)
one_break {ts} (by_value value e n) (by_value other f m) = one_value ts value other e f

first_place : (before : List (List ℕ)) (p : List ℕ) (behind before' : List (List ℕ)) (p' : List ℕ) (behind' : List (List ℕ)) {at other : List ℕ} →
    before ++ p ∷ behind ≡ before' ++ p' ∷ behind' → Each Obeys before → Each Obeys before' → Breaks p at → Breaks p' other → at ≡ other
first_place [] p behind [] p' behind' {at} {other} e o o' b b' = one_break b (subst (λ z. Breaks z other) (sym (same_head p p' behind behind' e)) b')
first_place [] p behind (x ∷ xs) p' behind' {at} e o o' b b' = absurd (o'.0 at (subst (λ z. Breaks z at) (same_head p x behind (xs ++ p' ∷ behind') e) b))
first_place (x ∷ xs) p behind [] p' behind' {at} {other} e o o' b b' = absurd (o.0 other (subst (λ z. Breaks z other) (sym (same_head x p' (xs ++ p ∷ behind) behind' e)) b'))
first_place (x ∷ xs) p behind (y ∷ ys) p' behind' e o o' b b' = first_place xs p behind ys p' behind' (same_tail x y (xs ++ p ∷ behind) (ys ++ p' ∷ behind') e) o.1 o'.1 b b'

one_first : {xs ys : List (List ℕ)} {at other : List ℕ} → xs ≡ ys → IsFirstBreak xs at → IsFirstBreak ys other → at ≡ other
one_first e a b = first_place a.before a.property a.behind b.before b.property b.behind (sym a.split ∙ (e ∙ b.split)) a.obey b.obey a.breaks b.breaks

none_first : {xs ys : List (List ℕ)} {at : List ℕ} → xs ≡ ys → Each Obeys xs → IsFirstBreak ys at → ⊥
none_first {xs} {ys} {at} e o b = (Each-right Obeys b.before (b.property ∷ b.behind) (subst (Each Obeys) (e ∙ b.split) o)).0 at b.breaks

-- ---- one answer

same_met : {bytes : List ℕ} {e f : End ℕ} (a : Runs system file bytes e) (b : Runs system file bytes f) → begun PROPERTY a ≡ begun PROPERTY b
same_met a b = same_begun system PROPERTY refl a b

pub one_stop : {bytes at other : List ℕ} → BreaksAt bytes at → BreaksAt bytes other → at ≡ other
one_stop (at_name e r at f) (at_name d s other k) = one_first (same_met r s) f k
one_stop (at_name e r at f) (at_byte d s other o k) = absurd (none_first (same_met s r) o f)
one_stop (at_byte e r at o f) (at_name d s other k) = absurd (none_first (same_met r s) o k)
one_stop (at_byte e r at o f) (at_byte d s other q k) = one_fault system file f k

pub no_stop : {bytes at : List ℕ} → IsGrammarFile bytes → BreaksAt bytes at → ⊥
no_stop t (at_name e r at f) = none_first (same_met t.run r) t.obey f
no_stop t (at_byte e r at o f) = no_fault system file at t.text f

pub one_answer : (bytes : List ℕ) (x y : Result ⊤ Place) → IsSyntaxAnswer bytes x → IsSyntaxAnswer bytes y → x ≡ y
one_answer bytes (Ok u) (Ok v) a b = refl
one_answer bytes (Ok u) (Err q) a b = absurd (no_stop a b.1)
one_answer bytes (Err p) (Ok v) a b = absurd (no_stop b a.1)
one_answer bytes (Err p) (Err q) a b = ap Err (a.2 ∙ (ap (place_with bytes) (one_stop a.1 b.1) ∙ sym b.2))
