-- Expansions with the same choices are the same, and choices of different ones first differ somewhere.
use Rattle.std.specs.Prelude.{◌≡◌, ℕ, ◌<◌, List, [], ◌∷◌, ◌++◌, map, ◌⊎◌, refl}
use Rattle.std.proofs.Common.{inl, inr, ap, ap₂, sym, ◌∙◌, subst}
use Rattle.std.proofs.lemmas.Option.{same_Some}
use Rattle.gr_base.specs.Forests.{IsLeftOf}
use Rattle.gr_base.proofs.ListLemmas.{Each-at}
use Rattle.gr_base.proofs.Numbers.{less_same_more}
use Rattle.gr_terms.specs.declared.Sym.{Sym}
use Rattle.mg_syntax.specs.declared.body.Statement.{Statement}
use Rattle.mg_syntax.specs.declared.item.Item.{Item}
use Rattle.mg_expand.specs.Walks.{How, Walk, choose, perform, enter, Task, task_of, tasks_of, IsAlternative, Does, done, takes, performs, enters, IsExpansion, choices, IsEarlier, InChoiceOrder, AreExpansions}
use Rattle.mg_expand.proofs.OrderLemmas.{IsLeftOf-append, IsLeftOf-behind, IsLeftOf-irreflexive, IsLeftOf-through, InOrder, InOrder-unique}

pub one_alternative : (b : List (List Statement)) (i : ℕ) (s t : List Statement) → IsAlternative b i s → IsAlternative b i t → s ≡ t
one_alternative [] i s t h k = h.1 ∙ sym k.1
one_alternative (a ∷ b) i s t h k = same_Some s t (sym h ∙ k)

-- two walks of the same tasks are one, or the choices of one are left of those of the other
pub data Compared (w v : Walk) : Type 0 where
  same_walk : w ≡ v → Compared w v
  earlier : IsEarlier w v → Compared w v
  later : IsEarlier v w → Compared w v

compare_choices : (i j : ℕ) (w v : Walk) → (i < j) ⊎ ((i ≡ j) ⊎ (j < i)) → (i ≡ j → Compared w v) → Compared (choose i w) (choose j v)
compare_choices i j w v (inl l) f = earlier (inl l)
compare_choices i j w v (inr (inr l)) f = later (inl l)
compare_choices i j w v (inr (inl e)) f =
    elim (f e) [ same_walk p ↦ same_walk (ap₂ choose e p) | earlier l ↦ earlier (inr (e, l)) | later l ↦ later (inr (sym e, l)) ]

compare_calls : (how : How) (c : Sym) (w v w2 v2 : Walk) → Compared w v → Compared w2 v2 → Compared (enter how c w w2) (enter how c v v2)
compare_calls how c w v w2 v2 (earlier l) p = earlier (IsLeftOf-append (choices w) (choices v) (choices w2) (choices v2) l)
compare_calls how c w v w2 v2 (later l) p = later (IsLeftOf-append (choices v) (choices w) (choices v2) (choices w2) l)
compare_calls how c w v w2 v2 (same_walk e) (same_walk p) = same_walk (ap₂ (enter how c) e p)
compare_calls how c w v w2 v2 (same_walk e) (earlier l) =
    earlier (subst (λ z. IsLeftOf (choices w ++ choices w2) (choices z ++ choices v2)) e (IsLeftOf-behind (choices w) (choices w2) (choices v2) l))
compare_calls how c w v w2 v2 (same_walk e) (later l) =
    later (subst (λ z. IsLeftOf (choices v ++ choices v2) (choices z ++ choices w2)) (sym e) (IsLeftOf-behind (choices v) (choices v2) (choices w2) l))

module _ (m : List Item) where
  compare : (ts : List Task) (w v : Walk) → Does m ts w → Does m ts v → Compared w v
  compare _ _ _ done done = same_walk refl
  compare _ _ _ (performs d a) (performs _ b) = elim (compare _ _ _ a b) [ same_walk e ↦ same_walk (ap (perform d) e) | earlier l ↦ earlier l | later l ↦ later l ]
  compare _ _ _ (takes {rest} {w} b i s alt a) (takes {w = v} _ j t other c) =
      compare_choices i j w v (less_same_more i j)
      (λ (e : i ≡ j).
      let same = one_alternative b j s t (subst (λ n. IsAlternative b n s) e alt) other in
      compare (map task_of t ++ rest) w v (subst (λ z. Does m (map task_of z ++ rest) w) same a) c)
  compare _ _ _ (enters {rest = rest} {inside = w} {after = w2} how c k at a b) (enters {inside = v} {after = v2} _ _ k2 at2 a2 b2) =
      compare_calls how c w v w2 v2
      (compare (tasks_of k2) w v (subst (λ z. Does m (tasks_of z) w) (same_Some k k2 (sym at ∙ at2)) a) a2)
      (compare rest w2 v2 b b2)

  pub IsExpansion-compared : (c : Sym) (w v : Walk) → IsExpansion m c w → IsExpansion m c v → Compared w v
  IsExpansion-compared c w v h k = compare (tasks_of k.0) w v (subst (λ z. Does m (tasks_of z) w) (same_Some h.0 k.0 (sym h.1 ∙ k.1)) h.2) k.2

pub same_choices : (m : List Item) (c : Sym) (w v : Walk) → IsExpansion m c w → IsExpansion m c v → choices w ≡ choices v → w ≡ v
same_choices m c w v h k e =
    elim (IsExpansion-compared m c w v h k) [
      | same_walk p ↦ p
      | earlier l ↦ absurd (IsLeftOf-irreflexive (choices v) (subst (λ z. IsLeftOf z (choices v)) e l))
      | later l ↦ absurd (IsLeftOf-irreflexive (choices v) (subst (λ z. IsLeftOf (choices v) z) e l))
    ]

pub one_is_earlier : (m : List Item) (c : Sym) (w v : Walk) → IsExpansion m c w → IsExpansion m c v → (w ≡ v → ⊥) → (IsEarlier w v → ⊥) → IsEarlier v w
one_is_earlier m c w v h k other never =
    elim (IsExpansion-compared m c w v h k) [ same_walk p ↦ absurd (other p) | earlier l ↦ absurd (never l) | later l ↦ l ]

pub InChoiceOrder-InOrder : (ws : List Walk) → InChoiceOrder ws → InOrder IsEarlier ws
InChoiceOrder-InOrder [] o = tt
InChoiceOrder-InOrder (w ∷ ws) o = (o.0, InChoiceOrder-InOrder ws o.1)

pub InOrder-InChoiceOrder : (ws : List Walk) → InOrder IsEarlier ws → InChoiceOrder ws
InOrder-InChoiceOrder [] o = tt
InOrder-InChoiceOrder (w ∷ ws) o = (o.0, InOrder-InChoiceOrder ws o.1)

pub one_list : (m : List Item) (c : Sym) (ws vs : List Walk) → AreExpansions m c ws → AreExpansions m c vs → ws ≡ vs
one_list m c ws vs h k =
    InOrder-unique IsEarlier (λ w l. IsLeftOf-irreflexive (choices w) l) (λ w v u a b. IsLeftOf-through (choices w) (choices v) (choices u) a b)
    ws vs (InChoiceOrder-InOrder ws h.order) (InChoiceOrder-InOrder vs k.order)
    (λ w i. k.all.all w (Each-at (IsExpansion m c) ws w h.all.only i))
    (λ w i. h.all.all w (Each-at (IsExpansion m c) vs w k.all.only i))
