-- The answer of a reader: one is right for each list of tokens, and a run gives it.
use Rattle.std.proofs.Common.{◌≡◌, ℕ, ◌+◌, ◌-◌, ◌<◌, ◌≤◌, List, [], ◌∷◌, ◌++◌, length, drop, true, refl, ap, sym, ◌∙◌, subst, arith, length-append, length-drop, append-nil}
use Rattle.std.proofs.Math.Seq.{drop-append_seam}
use Rattle.std.specs.Prelude.{Result, Ok, Err}
use Rattle.gr_grammar.specs.declared.brackets.Turn.{Turn}
use Rattle.gr_grammar.specs.Grammars.{Grammar, System, IsSystem, Matches, is_clear, took, failed, Runs, tree_of}
use Rattle.gr_grammar.specs.Depths.{IsShallowFault, IsCut}
use Rattle.gr_grammar.specs.Readings.{IsReading}
use Rattle.gr_grammar.proofs.OneTree.{one_tree}
use Rattle.gr_grammar.proofs.Places.{one_place, no_place}
use Rattle.gr_grammar.proofs.Readings.{failed_within, took_within, stop_place}

nothing : {T : Type 0} (xs : List T) → length xs ≤ 0 → xs ≡ []
nothing [] h = refl
nothing (x ∷ xs) h = absurd (omega arith)

behind : {T : Type 0} (front rest : List T) (n : ℕ) → n ≡ length front → drop n (front ++ rest) ≡ rest
behind front rest n e = ap (λ z. drop z (front ++ rest)) e ∙ drop-append_seam front rest

counted : {T : Type 0} (ts part deep left : List T) → ts ≡ part ++ deep → length left ≤ length part → (length part - length left) + length (left ++ deep) ≡ length ts
counted ts part deep left e l = let a = ap length e in let b = length-append part deep in let c = length-append left deep in omega arith

module _ {C T A : Type 0} (S : System C T) (K : IsSystem S) (g : Grammar C) (clear : is_clear S g ≡ true) (turn : T → Turn) (limit : ℕ) (value : (ts rest : List T) → Matches S g ts rest → A) where
  -- one answer is right
  pub one_reading : IsSet T → (ts : List T) (x y : Result A ℕ) → IsReading S turn limit g value ts x → IsReading S turn limit g value ts y → x ≡ y
  one_reading set ts (Ok a) (Ok b) p q = ap Ok (p.1.1 ∙ (ap (value ts []) (one_tree S K set clear p.1.0 q.1.0) ∙ sym q.1.1))
  one_reading set ts (Ok a) (Err n) p q = absurd (no_place S turn limit g (drop n ts) p.1.0 p.0 q.0)
  one_reading set ts (Err n) (Ok a) p q = absurd (no_place S turn limit g (drop n ts) q.1.0 q.0 p.0)
  one_reading set ts (Err n) (Err m) p q =
      let e = ap length (one_place S turn limit g p.0 q.0) in let x = length-drop n ts in let y = length-drop m ts in let h = p.1 in let k = q.1 in
      ap Err (let z : n ≡ m = omega arith in z)

  -- a run that took all, with nothing deep behind it, gives the value of its tree
  pub taken : {ts part deep : List T} {a : A} (rest : List T) → IsCut turn limit ts part deep → length deep ≤ 0 → length rest ≤ 0 → (r : Runs S g part (took rest)) → a ≡ value part rest (tree_of r) → IsReading S turn limit g value ts (Ok a)
  taken {ts} {part} {deep} {a} [] cut d l r e =
      let all : ts ≡ part = cut.split ∙ (ap (λ z. part ++ z) (nothing deep d) ∙ append-nil part) in
      subst (λ z. IsReading S turn limit g value z (Ok a)) (sym all) (cut.shallow, (tree_of r, e))
  taken (t ∷ w) cut d l r e = absurd (omega arith)

  -- a run that stopped gives the number of tokens before its place
  pub placed : {ts : List T} (rest : List T) (n : ℕ) → IsShallowFault S turn limit g ts rest → n + length rest ≡ length ts → IsReading S turn limit g value ts (Err n)
  placed {ts} rest n f e =
      let s = ap length f.split in let l = length-append f.front rest in
      let k : n ≡ length f.front = omega arith in
      let same : drop n ts ≡ rest = ap (λ z. drop n z) f.split ∙ behind f.front rest n k in
      (subst (λ z. IsShallowFault S turn limit g ts z) (sym same) f, omega arith)

  -- the run failed
  pub stopped : {ts part deep left : List T} → IsCut turn limit ts part deep → Runs S g part (failed left) → IsReading S turn limit g value ts (Err (length part - length left))
  stopped {ts} {part} {deep} {left} cut r =
      placed (left ++ deep) (length part - length left) (stop_place S K g clear turn limit (failed left) cut r refl) (counted ts part deep left cut.split (failed_within S K g clear r))

  -- the run took a text, and tokens are left of those before the deep bracket
  pub left_over : {ts part deep : List T} (left : List T) → IsCut turn limit ts part deep → Runs S g part (took left) → 0 < length left → IsReading S turn limit g value ts (Err (length part - length left))
  left_over {ts} {part} {deep} left cut r h =
      placed (left ++ deep) (length part - length left)
      (stop_place S K g clear turn limit (took left) cut r (refl, let l = length-append left deep in omega arith)) (counted ts part deep left cut.split (took_within S K g clear r))

  -- the run took all before the deep bracket
  pub at_deep : {ts part deep : List T} (left : List T) → IsCut turn limit ts part deep → Runs S g part (took left) → length left ≤ 0 → 0 < length deep → IsReading S turn limit g value ts (Err (length part))
  at_deep {ts} {part} {deep} left cut r l h =
      placed deep (length part) (stop_place S K g clear turn limit (took left) cut r (ap (λ z. z ++ deep) (sym (nothing left l)), h))
      (let a = ap length cut.split in let b = length-append part deep in omega arith)
