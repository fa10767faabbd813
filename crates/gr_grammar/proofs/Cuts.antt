-- The tokens before the first bracket that opens too deep, by their number.
use Rattle.std.proofs.Common.{◌≡◌, ℕ, suc, ◌≤◌, List, [], ◌∷◌, ◌++◌, length, take, drop, Bool, true, false, refl, ap, sym, ◌∙◌, subst, arith}
use Rattle.std.proofs.lemmas.Bool.{true≢false, ltb-true, lt-ltb}
use Rattle.std.proofs.lemmas.List.{take-append-drop}
use Rattle.gr_grammar.specs.declared.brackets.Turn.{Turn}
use Rattle.gr_grammar.specs.declared.brackets.Turn.TheVariants.{Opens, Closes, Neither}
use Rattle.gr_grammar.specs.Depths.{depth, HasRoom, IsShallow, IsTooDeep, IsCut, has_room, suc_if, shallow_len}
use Rattle.gr_grammar.proofs.Fronts.{head_of}

pub is_room : (limit n : ℕ) (x : Turn) → has_room limit n x ≡ true → HasRoom limit n x
is_room limit n Opens h = ltb-true n limit h
is_room limit n Closes h = tt
is_room limit n Neither h = tt

no_room : (limit n : ℕ) (x : Turn) → has_room limit n x ≡ false → HasRoom limit n x → ⊥
no_room limit n Opens h r = true≢false (sym (lt-ltb n limit r) ∙ h)
no_room limit n Closes h r = true≢false h
no_room limit n Neither h r = true≢false h

module _ {T : Type 0} (turn : T → Turn) (limit : ℕ) where
  kept_if : (b : Bool) (n : ℕ) (t : T) (ts : List T) (k : ℕ) → has_room limit n (turn t) ≡ b → IsShallow turn limit (depth n (turn t)) (take k ts) → IsShallow turn limit n (take (suc_if b k) (t ∷ ts))
  kept_if true n t ts k e h = (is_room limit n (turn t) e, h)
  kept_if false n t ts k e h = tt

  kept : (n : ℕ) (ts : List T) → IsShallow turn limit n (take (shallow_len turn limit n ts) ts)
  kept n [] = tt
  kept n (t ∷ ts) = kept_if (has_room limit n (turn t)) n t ts (shallow_len turn limit (depth n (turn t)) ts) refl (kept (depth n (turn t)) ts)

  deep_if : (b : Bool) (n : ℕ) (u : T) (us : List T) (k : ℕ) (t : T) (w : List T) → has_room limit n (turn u) ≡ b →
      (drop k us ≡ t ∷ w → IsShallow turn limit (depth n (turn u)) (take k us ++ t ∷ []) → ⊥) → drop (suc_if b k) (u ∷ us) ≡ t ∷ w → IsShallow turn limit n (take (suc_if b k) (u ∷ us) ++ t ∷ []) → ⊥
  deep_if true n u us k t w e f d s = f d s.1
  deep_if false n u us k t w e f d s = no_room limit n (turn u) e (subst (λ z. HasRoom limit n (turn z)) (sym (ap (head_of u) d)) s.0)

  deep : (n : ℕ) (ts : List T) (t : T) (w : List T) → drop (shallow_len turn limit n ts) ts ≡ t ∷ w → IsShallow turn limit n (take (shallow_len turn limit n ts) ts ++ t ∷ []) → ⊥
  deep n [] t w e s = absurd (let l = ap length e in omega arith)
  deep n (u ∷ us) t w e s = deep_if (has_room limit n (turn u)) n u us (shallow_len turn limit (depth n (turn u)) us) t w refl (λ d r. deep (depth n (turn u)) us t w d r) e s

  too_deep : (part behind : List T) → ((t : T) (w : List T) → behind ≡ t ∷ w → IsShallow turn limit 0 (part ++ t ∷ []) → ⊥) → IsTooDeep turn limit part behind
  too_deep part [] f = tt
  too_deep part (t ∷ w) f = λ s. f t w refl s

  pub cut_at : (ts : List T) → IsCut turn limit ts (take (shallow_len turn limit 0 ts) ts) (drop (shallow_len turn limit 0 ts) ts)
  cut_at ts = record { split = sym (take-append-drop (shallow_len turn limit 0 ts) ts); shallow = kept 0 ts; here = too_deep _ _ (λ t w e s. deep 0 ts t w e s) }

  within_if : (b : Bool) (k n : ℕ) → k ≤ n → suc_if b k ≤ suc n
  within_if true k n h = omega arith
  within_if false k n h = omega arith

  -- no more than all tokens
  pub within : (n : ℕ) (ts : List T) → shallow_len turn limit n ts ≤ length ts
  within n [] = omega arith
  within n (t ∷ ts) = within_if (has_room limit n (turn t)) (shallow_len turn limit (depth n (turn t)) ts) (length ts) (within (depth n (turn t)) ts)

  -- the same by names for the number and the two parts
  pub cut_by : {ts part behind : List T} {n : ℕ} → n ≡ shallow_len turn limit 0 ts → part ≡ take n ts → behind ≡ drop n ts → IsCut turn limit ts part behind
  cut_by {ts} {part} {behind} e p d =
      let a : IsCut turn limit ts part (drop (shallow_len turn limit 0 ts) ts) = subst (λ z. IsCut turn limit ts z (drop (shallow_len turn limit 0 ts) ts)) (sym (p ∙ ap (λ z. take z ts) e)) (cut_at ts) in
      subst (λ z. IsCut turn limit ts part z) (sym (d ∙ ap (λ z. drop z ts) e)) a

  pub room_in : {n : ℕ} (ts : List T) → n ≡ shallow_len turn limit 0 ts → n ≤ length ts
  room_in ts e = let x = within 0 ts in omega arith
