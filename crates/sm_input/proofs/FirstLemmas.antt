-- Literals that no equal one stands before.
use Rattle.std.proofs.Common.{◌≡◌, List, [], ◌∷◌, ◌++◌, Bool, true, false, inl, inr, refl, sym, ◌∙◌, ap, subst}
use Rattle.std.specs.Prelude.{◌⊎◌, if◌then◌else◌}
use Rattle.std.proofs.lemmas.Bool.{true≢false}
use Rattle.gr_base.specs.Lists.{IsAmong, Each, NoneTwice}
use Rattle.gr_feats.specs.Grammars.{WrittenLiteral}
use Rattle.sm_input.specs.Firsts.{is_there, firsts}
use Rattle.sm_input.proofs.Same.{there_decides}

-- those that stand before the next one, behind these
abbrev pub behind : List WrittenLiteral → List WrittenLiteral → List WrittenLiteral
behind before [] = before
behind before (w ∷ ws) = behind (w ∷ before) ws

push_by : (b : Bool) (v : WrittenLiteral) (xs ys zs : List WrittenLiteral) → xs ≡ ys ++ zs → (if b then xs else v ∷ xs) ≡ (if b then ys else v ∷ ys) ++ zs
push_by true v xs ys zs e = e
push_by false v xs ys zs e = ap (λ z. v ∷ z) e

pub firsts-push : (before ws : List WrittenLiteral) (w : WrittenLiteral) → firsts before (ws ++ w ∷ []) ≡ firsts before ws ++ (if is_there (behind before ws) w then [] else w ∷ [])
firsts-push before [] w = refl
firsts-push before (v ∷ ws) w = push_by (is_there before v) v _ _ _ (firsts-push (v ∷ before) ws w)

-- what stands before the next one is what stood before, or one of the first ones
pub to_by : (b : Bool) (before : List WrittenLiteral) (v w : WrittenLiteral) (xs : List WrittenLiteral) → (b ≡ true → IsAmong before v) → IsAmong (v ∷ before) w ⊎ IsAmong xs w → IsAmong before w ⊎ IsAmong (if b then xs else v ∷ xs) w
to_by true before v w xs k (inl (inl e)) = inl (subst (IsAmong before) (sym e) (k refl))
to_by true before v w xs k (inl (inr i)) = inl i
to_by true before v w xs k (inr i) = inr i
to_by false before v w xs k (inl (inl e)) = inr (inl e)
to_by false before v w xs k (inl (inr i)) = inl i
to_by false before v w xs k (inr i) = inr (inr i)

pub behind_firsts : (before ws : List WrittenLiteral) (w : WrittenLiteral) → IsAmong (behind before ws) w → IsAmong before w ⊎ IsAmong (firsts before ws) w
behind_firsts before [] w i = inl i
behind_firsts before (v ∷ ws) w i = to_by (is_there before v) before v w (firsts (v ∷ before) ws) (there_decides before v).0 (behind_firsts (v ∷ before) ws w i)

from_by : (b : Bool) (before : List WrittenLiteral) (v w : WrittenLiteral) (xs : List WrittenLiteral) → IsAmong before w ⊎ IsAmong (if b then xs else v ∷ xs) w → IsAmong (v ∷ before) w ⊎ IsAmong xs w
from_by b before v w xs (inl i) = inl (inr i)
from_by true before v w xs (inr i) = inr i
from_by false before v w xs (inr (inl e)) = inl (inl e)
from_by false before v w xs (inr (inr i)) = inr i

pub firsts_behind : (before ws : List WrittenLiteral) (w : WrittenLiteral) → IsAmong before w ⊎ IsAmong (firsts before ws) w → IsAmong (behind before ws) w
firsts_behind before [] w (inl i) = i
firsts_behind before [] w (inr i) = absurd i
firsts_behind before (v ∷ ws) w i = firsts_behind (v ∷ before) ws w (from_by (is_there before v) before v w (firsts (v ∷ before) ws) i)

-- each of them stands in the list
each_by : (b : Bool) (P : WrittenLiteral → Type 0) (v : WrittenLiteral) (xs : List WrittenLiteral) → P v → Each P xs → Each P (if b then xs else v ∷ xs)
each_by true P v xs p e = e
each_by false P v xs p e = (p, e)

pub firsts_each : (P : WrittenLiteral → Type 0) (before ws : List WrittenLiteral) → Each P ws → Each P (firsts before ws)
firsts_each P before [] e = tt
firsts_each P before (w ∷ ws) e = each_by (is_there before w) P w (firsts (w ∷ before) ws) e.0 (firsts_each P (w ∷ before) ws e.1)

-- none stands twice, and none stood before
new_by : (b : Bool) (before : List WrittenLiteral) (v w : WrittenLiteral) (xs : List WrittenLiteral) → (b ≡ false → IsAmong before v → ⊥) → IsAmong (if b then xs else v ∷ xs) w → IsAmong before w → (IsAmong xs w → IsAmong (v ∷ before) w → ⊥) → ⊥
new_by true before v w xs k i j n = n i (inr j)
new_by false before v w xs k (inl e) j n = k refl (subst (IsAmong before) e j)
new_by false before v w xs k (inr i) j n = n i (inr j)

not_there : (before : List WrittenLiteral) (v : WrittenLiteral) → is_there before v ≡ false → IsAmong before v → ⊥
not_there before v e i = true≢false (sym ((there_decides before v).1 i) ∙ e)

pub firsts_new : (before ws : List WrittenLiteral) (w : WrittenLiteral) → IsAmong (firsts before ws) w → IsAmong before w → ⊥
firsts_new before [] w i j = i
firsts_new before (v ∷ ws) w i j = new_by (is_there before v) before v w (firsts (v ∷ before) ws) (not_there before v) i j (firsts_new (v ∷ before) ws w)

once_by : (b : Bool) (v : WrittenLiteral) (xs : List WrittenLiteral) → (IsAmong xs v → ⊥) → NoneTwice xs → NoneTwice (if b then xs else v ∷ xs)
once_by true v xs n h = h
once_by false v xs n h = (n, h)

pub firsts_once : (before ws : List WrittenLiteral) → NoneTwice (firsts before ws)
firsts_once before [] = tt
firsts_once before (v ∷ ws) = once_by (is_there before v) v (firsts (v ∷ before) ws) (λ i. firsts_new (v ∷ before) ws v i (inl refl)) (firsts_once (v ∷ before) ws)
