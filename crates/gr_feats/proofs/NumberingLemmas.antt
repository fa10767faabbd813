-- How a numbering goes on.
use Rattle.std.proofs.Common.{◌≡◌, ℕ, ◌+◌, ◌<◌, List, [], ◌∷◌, ◌++◌, map, inl, inr, Option, Some, None, MatchOption, Bool, true, false, nat_eq, cond, refl, sym, ◌∙◌, ap, subst, append_assoc, arith}
use Rattle.std.specs.Map.{lookup}
use Rattle.std.proofs.lemmas.Bool.{eqb-true, eq-eqb}
use Rattle.std.proofs.lemmas.List.{append-nil, map-append}
use Rattle.std.proofs.lemmas.Option.{same_Some}
use Rattle.gr_base.specs.Lists.{IsAmong, Each, NoneTwice, IsRising}
use Rattle.gr_base.proofs.ListLemmas.{IsAmong-map_from, NoneTwice-push, Each-append, Each-members, Each-at}
use Rattle.gr_base.proofs.RisingKeys.{IsRising-middle}
use Rattle.gr_feats.specs.Numberings.{Numbering, IsNumbering, GoesOnFrom, none_met, with_name, with_own}

-- what a look-up finds is there, and what it doesn't find isn't
pub found : (pairs : List (ℕ × ℕ)) (name number : ℕ) → lookup (nat_eq name) pairs ≡ Some number → IsAmong pairs (name, number)
found [] name number h = absurd cc
found (p ∷ pairs) name number h = by (nat_eq name p.0) refl (found pairs name number)
  where
    by : (b : Bool) → nat_eq name p.0 ≡ b → (lookup (nat_eq name) pairs ≡ Some number → IsAmong pairs (name, number)) → IsAmong (p ∷ pairs) (name, number)
    by true e rest =
        let same_name : name ≡ p.0 = eqb-true name p.0 e in
        let same_number : p.1 ≡ number = same_Some _ _ (ap (λ b. cond b (Some p.1) (lookup (nat_eq name) pairs)) (sym e) ∙ h) in
        inl (λ i. (same_name i, sym same_number i))
    by false e rest = inr (rest (ap (λ b. cond b (Some p.1) (lookup (nat_eq name) pairs)) (sym e) ∙ h))

pub not_found : (pairs : List (ℕ × ℕ)) (name : ℕ) → lookup (nat_eq name) pairs ≡ None → (k : ℕ) → IsAmong pairs (name, k) → ⊥
not_found [] name h k i = i
not_found (p ∷ pairs) name h k (inl e) =
    let same_name : nat_eq name p.0 ≡ true = eq-eqb name p.0 (ap (λ q. q.0) e) in
    let some : Some p.1 ≡ None = ap (λ b. cond b (Some p.1) (lookup (nat_eq name) pairs)) (sym same_name) ∙ h in
    absurd cc
not_found (p ∷ pairs) name h k (inr i) = by (nat_eq name p.0) refl (λ none. not_found pairs name none k i)
  where
    by : (b : Bool) → nat_eq name p.0 ≡ b → (lookup (nat_eq name) pairs ≡ None → ⊥) → ⊥
    by true e rest =
        let some : Some p.1 ≡ None = ap (λ b. cond b (Some p.1) (lookup (nat_eq name) pairs)) (sym e) ∙ h in
        absurd cc
    by false e rest = rest (ap (λ b. cond b (Some p.1) (lookup (nat_eq name) pairs)) (sym e) ∙ h)

-- a numbering goes on from itself, and from what the one that it goes on from goes on from
pub GoesOnFrom-refl : (met : Numbering) → GoesOnFrom met met
GoesOnFrom-refl met = record { more = []; named = sym (append-nil met.named); given = omega arith }

pub GoesOnFrom-trans : (old mid new : Numbering) → GoesOnFrom old mid → GoesOnFrom mid new → GoesOnFrom old new
GoesOnFrom-trans old mid new h k = record {
  more = h.more ++ k.more;
  named = k.named ∙ ap (λ ps. ps ++ k.more) h.named ∙ append_assoc old.named h.more k.more;
  given = omega (arith, h.given, k.given);
}

pub GoesOnFrom-with_name : (met : Numbering) (name : ℕ) → GoesOnFrom met (with_name met name)
GoesOnFrom-with_name met name = record { more = (name, met.given) ∷ []; named = refl; given = omega arith }

pub GoesOnFrom-with_own : (met : Numbering) → GoesOnFrom met (with_own met)
GoesOnFrom-with_own met = record { more = []; named = sym (append-nil met.named); given = omega arith }

-- the numbering of no variable, and one variable more
pub IsNumbering-none : IsNumbering none_met
IsNumbering-none = record { once = tt; rising = tt; below = tt }

higher : (given : ℕ) (pairs : List (ℕ × ℕ)) → Each (λ p. p.1 < given) pairs → Each (λ p. p.1 < given + 1) pairs
higher given pairs low = Each-members (λ p. p.1 < given + 1) pairs (λ p i. let l : p.1 < given = Each-at (λ q. q.1 < given) pairs p low i in omega arith)

pub IsNumbering-with_name : (met : Numbering) (name : ℕ) → IsNumbering met → ((k : ℕ) → IsAmong met.named (name, k) → ⊥) → IsNumbering (with_name met name)
IsNumbering-with_name met name is new = record {
  once =
      let absent : IsAmong (map (λ p. p.0) met.named) name → ⊥ =
      λ i. let from = IsAmong-map_from (λ p. p.0) met.named name i in new from.0.1 (subst (λ n. IsAmong met.named (n, from.0.1)) (sym from.2) from.1) in
      subst NoneTwice (sym (map-append (λ p. p.0) met.named ((name, met.given) ∷ []))) (NoneTwice-push (map (λ p. p.0) met.named) name is.once absent);
  rising = IsRising-middle (λ p. p.1) met.named [] (name, met.given) (subst (λ ps. IsRising (map (λ p. p.1) ps)) (sym (append-nil met.named)) is.rising) is.below tt;
  below = Each-append (λ p. p.1 < met.given + 1) met.named ((name, met.given) ∷ []) (higher met.given met.named is.below) (omega arith, tt);
}

pub IsNumbering-with_own : (met : Numbering) → IsNumbering met → IsNumbering (with_own met)
IsNumbering-with_own met is = record { once = is.once; rising = is.rising; below = higher met.given met.named is.below }

-- what a look-up answers
pub looked_up : (pairs : List (ℕ × ℕ)) (name : ℕ) (r : Option ℕ) → r ≡ lookup (nat_eq name) pairs → MatchOption r ((k : ℕ) → IsAmong pairs (name, k) → ⊥) (λ number. IsAmong pairs (name, number))
looked_up pairs name None e = not_found pairs name (sym e)
looked_up pairs name (Some number) e = found pairs name number (sym e)

pub nothing_found : (pairs : List (ℕ × ℕ)) (name : ℕ) → ((k : ℕ) → IsAmong pairs (name, k) → ⊥) → lookup (nat_eq name) pairs ≡ None
nothing_found pairs name new = by (lookup (nat_eq name) pairs) refl
  where
    by : (r : Option ℕ) → lookup (nat_eq name) pairs ≡ r → lookup (nat_eq name) pairs ≡ None
    by None e = e
    by (Some number) e = absurd (new number (found pairs name number e))
