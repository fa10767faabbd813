-- There is one place of a first fault, and none where the tokens are a text; the same with the limit. The grammar need not be clear.
use Rattle.std.proofs.Common.{◌≡◌, ℕ, ◌<◌, ◌≤◌, List, [], ◌∷◌, ◌++◌, length, refl, ap, sym, ◌∙◌, subst, append_assoc, append-nil, inl, inr, arith, length-append}
use Rattle.std.proofs.lemmas.Bool.{cases_lt}
use Rattle.gr_grammar.specs.Grammars.{Grammar, System, Matches, GoesOn, IsText, IsStuck, IsFault}
use Rattle.gr_grammar.specs.declared.brackets.Turn.{Turn}
use Rattle.gr_grammar.specs.Depths.{IsShallow, IsStuckShallow, IsShallowFault}
use Rattle.gr_grammar.proofs.Fronts.{head_of, tail_of, same_rest}
use Rattle.gr_grammar.proofs.Deep.{shallow_front}

-- the longer one of two fronts of one list goes on behind the shorter one
stretch : {T : Type 0} (f h r s : List T) → f ++ r ≡ h ++ s → length f ≤ length h → (x : List T) × (h ≡ f ++ x) × (r ≡ x ++ s)
stretch [] h r s e l = (h, refl, e)
stretch (a ∷ f) [] r s e l = absurd (omega arith)
stretch (a ∷ f) (b ∷ h) r s e l = let q = stretch f h r s (ap tail_of e) (omega arith) in (q.0, (λ i. sym (ap (head_of a) e) i ∷ q.1 i), q.2)

module _ {C T : Type 0} (S : System C T) (turn : T → Turn) (limit : ℕ) (g : Grammar C) where
  pub goes_on_front : (f x : List T) → GoesOn S g (f ++ x) → GoesOn S g f
  goes_on_front f x o = (x ++ o.0, subst (λ z. Matches S g z []) (append_assoc f x o.0) o.1)

  -- where a front goes on behind a shorter one, the shorter one is not stuck
  no_sooner : (f x r s h : List T) → r ≡ x ++ s → h ≡ f ++ x → 0 < length x → IsStuckShallow S turn limit g f r → GoesOn S g h → IsShallow turn limit 0 h → ⊥
  no_sooner f [] r s h e k l stuck on room = absurd (omega arith)
  no_sooner f (t ∷ w) r s h e k l stuck on room =
      let here : IsStuckShallow S turn limit g f (t ∷ w ++ s) = subst (λ z. IsStuckShallow S turn limit g f z) e stuck in
      let split : h ≡ (f ++ t ∷ []) ++ w = k ∙ sym (append_assoc f (t ∷ []) w) in
      here (goes_on_front (f ++ t ∷ []) w (subst (λ z. GoesOn S g z) split on)) (shallow_front S turn limit g 0 (f ++ t ∷ []) w (subst (λ z. IsShallow turn limit 0 z) split room))

  not_before : {ts r s : List T} (a : IsShallowFault S turn limit g ts r) (b : IsShallowFault S turn limit g ts s) → length a.front < length b.front → ⊥
  not_before {ts} {r} {s} a b l =
      let q = stretch a.front b.front r s (sym a.split ∙ b.split) (omega arith) in
      let n = ap length q.1 in
      let m = length-append a.front q.0 in
      no_sooner a.front q.0 r s b.front q.2 q.1 (omega arith) a.here b.before b.shallow

  pub one_place : {ts r s : List T} → IsShallowFault S turn limit g ts r → IsShallowFault S turn limit g ts s → r ≡ s
  one_place {ts} {r} {s} a b = elim (cases_lt (length a.front) (length b.front)) [
    | inl x ↦ absurd (not_before a b x)
    | inr y ↦ elim (cases_lt (length b.front) (length a.front)) [
      | inl x ↦ absurd (not_before b a x)
      | inr z ↦ same_rest a.front b.front r s (sym a.split ∙ b.split)
          (let e = ap length (sym a.split ∙ b.split) in let m = length-append a.front r in let n = length-append b.front s in omega arith)
    ]
  ]

  pub no_place : {ts : List T} (r : List T) → IsText S g ts → IsShallow turn limit 0 ts → IsShallowFault S turn limit g ts r → ⊥
  no_place {ts} [] m room a = a.here (subst (λ z. IsText S g z) (a.split ∙ append-nil a.front) m)
  no_place {ts} (t ∷ w) m room a =
      no_sooner a.front (t ∷ w) (t ∷ w) [] ts (sym (append-nil (t ∷ w))) a.split (omega arith) a.here ([], subst (λ z. Matches S g z []) (sym (append-nil ts)) m) room

-- the same without a limit
module _ {C T : Type 0} (S : System C T) (g : Grammar C) where
  begins_front : (f x : List T) → GoesOn S g (f ++ x) → GoesOn S g f
  begins_front f x o = (x ++ o.0, subst (λ z. Matches S g z []) (append_assoc f x o.0) o.1)

  no_stuck : (f x r s h : List T) → r ≡ x ++ s → h ≡ f ++ x → 0 < length x → IsStuck S g f r → GoesOn S g h → ⊥
  no_stuck f [] r s h e k l stuck on = absurd (omega arith)
  no_stuck f (t ∷ w) r s h e k l stuck on =
      let here : IsStuck S g f (t ∷ w ++ s) = subst (λ z. IsStuck S g f z) e stuck in
      let split : h ≡ (f ++ t ∷ []) ++ w = k ∙ sym (append_assoc f (t ∷ []) w) in
      here (begins_front (f ++ t ∷ []) w (subst (λ z. GoesOn S g z) split on))

  none_before : {ts r s : List T} (a : IsFault S g ts r) (b : IsFault S g ts s) → length a.front < length b.front → ⊥
  none_before {ts} {r} {s} a b l =
      let q = stretch a.front b.front r s (sym a.split ∙ b.split) (omega arith) in
      let n = ap length q.1 in
      let m = length-append a.front q.0 in
      no_stuck a.front q.0 r s b.front q.2 q.1 (omega arith) a.here b.before

  pub one_fault : {ts r s : List T} → IsFault S g ts r → IsFault S g ts s → r ≡ s
  one_fault {ts} {r} {s} a b = elim (cases_lt (length a.front) (length b.front)) [
    | inl x ↦ absurd (none_before a b x)
    | inr y ↦ elim (cases_lt (length b.front) (length a.front)) [
      | inl x ↦ absurd (none_before b a x)
      | inr z ↦ same_rest a.front b.front r s (sym a.split ∙ b.split)
          (let e = ap length (sym a.split ∙ b.split) in let m = length-append a.front r in let n = length-append b.front s in omega arith)
    ]
  ]

  pub no_fault : {ts : List T} (r : List T) → IsText S g ts → IsFault S g ts r → ⊥
  no_fault {ts} [] m a = a.here (subst (λ z. IsText S g z) (a.split ∙ append-nil a.front) m)
  no_fault {ts} (t ∷ w) m a =
      no_stuck a.front (t ∷ w) (t ∷ w) [] ts (sym (append-nil (t ∷ w))) a.split (omega arith) a.here ([], subst (λ z. Matches S g z []) (sym (append-nil ts)) m)
