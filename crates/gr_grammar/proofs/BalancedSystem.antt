-- The example over bytes is a system, and the value of a row that a loop reads.
use Rattle.std.proofs.Common.{◌≡◌, ℕ, ◌<◌, ◌≤◌, List, [], ◌∷◌, length, Bool, true, false, refl, sym, ◌∙◌, inl, inr, arith}
use Rattle.std.specs.Prelude.{◌||◌, nat_lt}
use Rattle.std.proofs.lemmas.Bool.{true≢false, eqb-true, ltb-true, cases_lt}
use Rattle.gr_base.proofs.Booleans.{or_false}
use Rattle.gr_grammar.specs.declared.balanced.Class.{Class}
use Rattle.gr_grammar.specs.declared.balanced.Class.TheVariants.{Letter, Opening, Closing}
use Rattle.gr_grammar.specs.Grammars.{Grammar, star, Matches, a_token, both, the_left, the_right, no_more, one_more, by_part, IsSystem, nullable, begins, Runs, took, run_end, run_more, run_both, tree_of, Rounds, start, round}
use Rattle.gr_grammar.specs.Balanced.{test, apart, item, system, row_has, item_has}
use Rattle.gr_grammar.proofs.Fronts.{or_cases, and_left, null_of, no_longer}
use Rattle.gr_grammar.proofs.Loops.{close, ended}

above : (t : ℕ) → test Letter t ≡ true → 96 < t
above t h = ltb-true 96 t (and_left (nat_lt 96 t) (nat_lt t 123) h)

are_apart : (c d : Class) (t : ℕ) → apart c d ≡ true → test c t ≡ true → test d t ≡ true → ⊥
are_apart Letter Letter t a h k = true≢false (sym a)
are_apart Letter Opening t a h k = let x = above t h in let y = eqb-true t 40 k in omega arith
are_apart Letter Closing t a h k = let x = above t h in let y = eqb-true t 41 k in omega arith
are_apart Opening Letter t a h k = let x = above t k in let y = eqb-true t 40 h in omega arith
are_apart Opening Opening t a h k = true≢false (sym a)
are_apart Opening Closing t a h k = let x = eqb-true t 40 h in let y = eqb-true t 41 k in omega arith
are_apart Closing Letter t a h k = let x = above t k in let y = eqb-true t 41 h in omega arith
are_apart Closing Opening t a h k = let x = eqb-true t 41 h in let y = eqb-true t 40 k in omega arith
are_apart Closing Closing t a h k = true≢false (sym a)

shown : (c : Class) → (t : ℕ) × (test c t ≡ true)
shown Letter = (97, refl)
shown Opening = (40, refl)
shown Closing = (41, refl)

-- each first byte begins a body: a letter alone, and a bracket with its other one
begun : (t : ℕ) → (test Letter t || (test Opening t || false)) ≡ true → (ts : List ℕ) × Matches system (star item) (t ∷ ts) []
begun t i = elim (or_cases (test Letter t) _ i) [
  | inl x ↦ ([], one_more (both (the_left (a_token x)) no_more))
  | inr y ↦ elim (or_cases (test Opening t) false y) [
    | inl z ↦ (41 ∷ [], one_more (both (the_right (both (a_token z) (both (by_part {n = 0} no_more) (a_token refl)))) no_more))
    | inr w ↦ absurd (true≢false (sym w))
  ]
]

pub is_system : IsSystem system
is_system = record { are_apart = are_apart; shown = shown; clear = λ n. refl; null = λ n. refl; first = λ n. refl; goes = λ n t i. i; none = λ n e ts. no_more; some = λ n. ([], no_more); begun = λ n t i. begun t i }

-- a part that is never empty takes a byte
pub shorter : {g : Grammar Class} {ts rest : List ℕ} → nullable system g ≡ false → Runs system g ts (took rest) → length rest < length ts
shorter {g} {ts} {rest} n r = elim (cases_lt (length rest) (length ts)) [ inl x ↦ x | inr y ↦ absurd (true≢false (sym (null_of system is_system (tree_of r) y) ∙ n)) ]

pub below : {g : Grammar Class} {ts rest : List ℕ} → Rounds system g ts rest → length rest ≤ length ts
below start = omega arith
below (round r b m) = let x = below r in let y = no_longer system (tree_of m) in omega arith

-- the value of what a loop has taken
abbrev pub rounds_have : {ts rest : List ℕ} → Rounds system item ts rest → Bool
rounds_have start = false
rounds_have (round r b m) = rounds_have r || item_has (tree_of m)

or_assoc : (a b c : Bool) → (a || (b || c)) ≡ ((a || b) || c)
or_assoc true b c = refl
or_assoc false b c = refl

close-has : {ts mid rest : List ℕ} (r : Rounds system item ts mid) (m : Runs system (star item) mid (took rest)) → row_has (tree_of (close r m)) ≡ (rounds_have r || row_has (tree_of m))
unfolding close
close-has start m = refl
close-has (round r b a) m = close-has r (run_more b (run_both a m)) ∙ or_assoc (rounds_have r) (item_has (tree_of a)) (row_has (tree_of m))

pub ended-has : {ts mid : List ℕ} (r : Rounds system item ts mid) (b : begins system item mid ≡ false) → row_has (tree_of (ended r b)) ≡ rounds_have r
unfolding ended
ended-has r b = close-has r (run_end b) ∙ or_false (rounds_have r)
