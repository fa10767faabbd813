-- Tokens have one run, and a text has one that takes it.
use Rattle.std.proofs.Common.{◌≡◌, List, [], ◌∷◌, length, Bool, true, false, refl, ap, sym, inl, inr, subst}
use Rattle.std.specs.Prelude.{not, ⊤}
use Rattle.std.proofs.lemmas.Bool.{cases_lt, false_from_ne_true}
use Rattle.gr_grammar.specs.Grammars.{Grammar, seq, alt, star, System, IsSystem, Matches, a_token, no_token, both, the_left, the_right, no_more, one_more, by_part, nullable, first, goes, is_of, all_apart, is_clear, is_next, begins, End, took, failed, Runs, take_token, bad_token, bad_end, take_nothing, run_both, run_first, run_left, run_right, run_end, run_more, run_part}
use Rattle.gr_grammar.proofs.Fronts.{and_left, and_right, not_true, both_ways, is_of-left, is_of-right, is_of-when, not_moved, apart_all, null_of, begins_of}
use Rattle.gr_grammar.proofs.Exact.{moves, other_way, is_clear_again, star_goes}

abbrev left_in : {T : Type 0} → End T → List T
left_in (took rest) = rest
left_in (failed rest) = rest

abbrev IsTook : {T : Type 0} → End T → Type 0
IsTook (took rest) = ⊤
IsTook (failed rest) = ⊥

pub took≢failed : {T : Type 0} (r s : List T) → took r ≡ failed s → ⊥
took≢failed r s e = subst IsTook e tt

-- where two runs that took tokens, or two that failed, end alike, they left the same tokens
pub same_took : {T : Type 0} (r s : List T) → took r ≡ took s → r ≡ s
same_took r s e = ap left_in e

pub same_failed : {T : Type 0} (r s : List T) → failed r ≡ failed s → r ≡ s
same_failed r s e = ap left_in e

module _ {C T : Type 0} (S : System C T) where
  pub one_run : {g : Grammar C} {ts : List T} {e f : End T} → Runs S g ts e → Runs S g ts f → e ≡ f
  one_run (take_token h) (take_token k) = refl
  one_run (take_token {c} {t} h) (bad_token k) = absurd (both_ways (S.test c t) h k)
  one_run (bad_token {c} {t} h) (take_token k) = absurd (both_ways (S.test c t) k h)
  one_run (bad_token h) (bad_token k) = refl
  one_run bad_end bad_end = refl
  one_run take_nothing take_nothing = refl
  one_run (run_both {h} {mid} a b) (run_both {mid = mid'} {e = f} a' b') = one_run b (subst (λ z. Runs S h z f) (sym (ap left_in (one_run a a'))) b')
  one_run (run_both {mid} a b) (run_first {rest} a') = absurd (took≢failed mid rest (one_run a a'))
  one_run (run_first {rest} a) (run_both {mid} a' b') = absurd (took≢failed mid rest (sym (one_run a a')))
  one_run (run_first a) (run_first a') = one_run a a'
  one_run (run_left b a) (run_left b' a') = one_run a a'
  one_run (run_left {g} {ts} b a) (run_right b' a') = absurd (both_ways (begins S g ts) b b')
  one_run (run_right {g} {ts} b a) (run_left b' a') = absurd (both_ways (begins S g ts) b' b)
  one_run (run_right b a) (run_right b' a') = one_run a a'
  one_run (run_end b) (run_end b') = refl
  one_run (run_end {g} {ts} b) (run_more b' a') = absurd (both_ways (begins S g ts) b' b)
  one_run (run_more {g} {ts} b a) (run_end b') = absurd (both_ways (begins S g ts) b b')
  one_run (run_more b a) (run_more b' a') = one_run a a'
  one_run (run_part a) (run_part a') = one_run a a'

  -- where the next token is of no class of a list, it is of no class of a part of it
  pub narrow : (cs ds : List C) (ts : List T) → ((t : T) → is_of S ds t ≡ true → is_of S cs t ≡ true) → is_next S cs ts ≡ false → is_next S ds ts ≡ false
  narrow cs ds [] f b = refl
  narrow cs ds (t ∷ ts) f b = false_from_ne_true (is_of S ds t) (λ i. both_ways (is_of S cs t) (f t i) b)

  module _ (K : IsSystem S) where
    -- the next token goes on behind the first part only where the second one takes nothing
    not_on : (g h : Grammar C) → all_apart S (goes S g) (first S h) ≡ true → (mid : List T) → begins S h mid ≡ true → is_next S (goes S g) mid ≡ false
    not_on g h a [] b = refl
    not_on g h a (t ∷ w) b = false_from_ne_true (is_of S (goes S g) t) (λ i. apart_all S K (goes S g) (first S h) t a i b)

    between : (g h : Grammar C) → all_apart S (goes S g) (first S h) ≡ true → {mid rest : List T} → Matches S h mid rest → is_next S (goes S (seq g h)) rest ≡ false → is_next S (goes S g) mid ≡ false
    between g h a {mid} {rest} m b = elim (cases_lt (length rest) (length mid)) [
      | inl x ↦ not_on g h a mid (begins_of S K m x)
      | inr y ↦ subst (λ z. is_next S (goes S g) z ≡ false) (sym (not_moved S m y))
          (narrow (goes S (seq g h)) (goes S g) rest (λ t i. is_of-right S (goes S h) _ t (is_of-when S (nullable S h) (goes S g) t (null_of S K m y) i)) b)
    ]

    -- a text of the second way doesn't begin as one of the first
    goes_right : (g h : Grammar C) → all_apart S (first S g) (first S h) ≡ true → {ts rest : List T} → Matches S h ts rest → is_next S (goes S (alt g h)) rest ≡ false → begins S g ts ≡ false
    goes_right g h a {ts} {rest} m b = elim (cases_lt (length rest) (length ts)) [
      | inl x ↦ false_from_ne_true (begins S g ts) (λ i. other_way S K g h a ts i (begins_of S K m x))
      | inr y ↦ subst (λ z. is_next S (first S g) z ≡ false) (sym (not_moved S m y))
          (narrow (goes S (alt g h)) (first S g) rest (λ t i. is_of-right S (goes S g) _ t (is_of-right S (goes S h) _ t (is_of-when S (nullable S h) (first S g) t (null_of S K m y) i))) b)
    ]

    pub starts : (g : Grammar C) → is_clear S (star g) ≡ true → {ts rest : List T} → Matches S (seq g (star g)) ts rest → begins S g ts ≡ true
    starts g c (both a b) = begins_of S K a (moves S K (not_true (nullable S g) (and_left (not (nullable S g)) _ (and_right (is_clear S g) _ c))) a)

    -- a text is taken by a run, where the next token doesn't go on
    pub run_of : {g : Grammar C} {ts rest : List T} → is_clear S g ≡ true → Matches S g ts rest → is_next S (goes S g) rest ≡ false → Runs S g ts (took rest)
    run_of c (a_token h) b = take_token h
    run_of c no_token b = take_nothing
    run_of c (both {g} {h} {mid} {rest} a m) b =
        let cr = and_right (is_clear S g) _ c in
        run_both (run_of (and_left (is_clear S g) _ c) a (between g h (and_right (is_clear S h) _ cr) m b))
        (run_of (and_left (is_clear S h) _ cr) m (narrow (goes S (seq g h)) (goes S h) rest (λ t i. is_of-left S (goes S h) _ t i) b))
    run_of c (the_left {g} {h} {ts} {rest} a) b =
        let l = and_right (is_clear S h) _ (and_right (is_clear S g) _ c) in
        run_left (begins_of S K a (moves S K (not_true (nullable S g) (and_left (not (nullable S g)) _ l)) a))
        (run_of (and_left (is_clear S g) _ c) a (narrow (goes S (alt g h)) (goes S g) rest (λ t i. is_of-left S (goes S g) _ t i) b))
    run_of c (the_right {g} {h} {ts} {rest} a) b =
        let cr = and_right (is_clear S g) _ c in let l = and_right (is_clear S h) _ cr in
        run_right (goes_right g h (and_right (not (nullable S g)) _ l) a b)
        (run_of (and_left (is_clear S h) _ cr) a (narrow (goes S (alt g h)) (goes S h) rest (λ t i. is_of-right S (goes S g) _ t (is_of-left S (goes S h) _ t i)) b))
    run_of c (no_more {g} {ts}) b = run_end (narrow (goes S (star g)) (first S g) ts (λ t i. is_of-right S (goes S g) _ t i) b)
    run_of c (one_more {g} {ts} {rest} a) b =
        run_more (starts g c a) (run_of (is_clear_again S g c) a (narrow (goes S (star g)) (goes S (seq g (star g))) rest (λ t i. star_goes S K g t i) b))
    run_of c (by_part {n} {ts} {rest} a) b = run_part (run_of (K.clear n) a (narrow (S.info n).goes (goes S (S.parts n)) rest (λ t i. K.goes n t i) b))

    pub text_run : {g : Grammar C} {ts : List T} → is_clear S g ≡ true → Matches S g ts [] → Runs S g ts (took [])
    text_run c m = run_of c m refl
