-- Lists of instances in order: one behind the other, and that such a list is fixed by its members.
use Rattle.std.specs.Prelude.{◌≡◌, ◌+◌, ◌<◌, ◌≤◌, List, [], ◌∷◌, ◌++◌, length, ◌⊎◌, refl}
use Rattle.std.proofs.Common.{inl, inr, ap, ap₂, sym, ◌∙◌, subst, arith, append_assoc, append-nil, length-append}
use Rattle.gr_base.specs.Lists.{IsAmong, IsWithin, Each, NoneTwice}
use Rattle.gr_base.proofs.ListLemmas.{IsAmong-append_left, IsAmong-append_right, Each-at, Each-append, Each-members}
use Rattle.gr_base.proofs.Counting.{IsBefore-irreflexive, IsBefore-trans}
use Rattle.tg_model.specs.declared.instance.TheConstants.{INSTANCE_LIMIT}
use Rattle.tg_model.specs.declared.instance.Instance.{Instance}
use Rattle.tg_model.specs.Instances.{IsSooner, InOrder}
use Rattle.sm_match.specs.Listings.{Adds, Overflows}

-- ---- the order

pub sooner_irreflexive : (i : Instance) → IsSooner i i → ⊥
sooner_irreflexive i (inl h) = omega arith
sooner_irreflexive i (inr h) = IsBefore-irreflexive i.places h.1

pub sooner_trans : (i j k : Instance) → IsSooner i j → IsSooner j k → IsSooner i k
sooner_trans i j k (inl h) (inl m) = inl (omega arith)
sooner_trans i j k (inl h) (inr m) = let e : j.tree ≡ k.tree = m.0 in inl (omega arith)
sooner_trans i j k (inr h) (inl m) = let e : i.tree ≡ j.tree = h.0 in inl (omega arith)
sooner_trans i j k (inr h) (inr m) = inr (h.0 ∙ m.0, IsBefore-trans i.places j.places k.places h.1 m.1)

-- a list in order behind another
pub order_append : (is js : List Instance) → InOrder is → InOrder js → ((i j : Instance) → IsAmong is i → IsAmong js j → IsSooner i j) → InOrder (is ++ js)
order_append [] js a b before = b
order_append (i ∷ is) js a b before = (
  Each-append (IsSooner i) is js a.0 (Each-members (IsSooner i) js (λ j m. before i j (inl refl) m)),
  order_append is js a.1 b (λ h j m n. before h j (inr m) n),
)

-- no instance stands twice in a list in order
pub order_once : (is : List Instance) → InOrder is → NoneTwice is
order_once [] order = tt
order_once (i ∷ is) order = ((λ m. sooner_irreflexive i (Each-at (IsSooner i) is i order.0 m)), order_once is order.1)

-- a list in order is fixed by its members
order_tail : (i : Instance) (is js : List Instance) → Each (IsSooner i) is → IsWithin (i ∷ is) (i ∷ js) → IsWithin is js
order_tail i is js sooner within x m = elim (within x (inr m)) [
  | inl e ↦ absurd (sooner_irreflexive i (subst (λ y. IsSooner i y) e (Each-at (IsSooner i) is x sooner m)))
  | inr n ↦ n
]

order_head : (i j : Instance) (is js : List Instance) → Each (IsSooner i) is → Each (IsSooner j) js → IsAmong (j ∷ js) i → IsAmong (i ∷ is) j → i ≡ j
order_head i j is js a b (inl e) n = e
order_head i j is js a b (inr m) (inl e) = sym e
order_head i j is js a b (inr m) (inr n) = absurd (sooner_irreflexive i (sooner_trans i j i (Each-at (IsSooner i) is j a n) (Each-at (IsSooner j) js i b m)))

pub order_unique : (is js : List Instance) → InOrder is → InOrder js → IsWithin is js → IsWithin js is → is ≡ js
order_unique [] [] a b f g = refl
order_unique [] (j ∷ js) a b f g = absurd (g j (inl refl))
order_unique (i ∷ is) [] a b f g = absurd (f i (inl refl))
order_unique (i ∷ is) (j ∷ js) a b f g =
    let e : i ≡ j = order_head i j is js a.0 b.0 (f i (inl refl)) (g j (inl refl)) in
    ap₂ (λ x xs. x ∷ xs) e
    (order_unique is js a.1 b.1 (order_tail i is js a.0 (subst (λ x. IsWithin (i ∷ is) (x ∷ js)) (sym e) f)) (order_tail j js is b.0 (subst (λ x. IsWithin (j ∷ js) (x ∷ is)) e g)))

-- ---- what is added

-- nothing is added where there is nothing
pub adds_none : (P : Instance → Type 0) (old : List Instance) → ((i : Instance) → P i → ⊥) → Adds P old old
adds_none P old none = record {
  more = [];
  is = sym (append-nil old);
  lists = record { order = tt; only = tt; all = λ i p. none i p };
  few = λ h. h;
}

-- one is added
pub adds_one : (P : Instance → Type 0) (old new : List Instance) (i : Instance) → new ≡ old ++ i ∷ [] → P i → ((j : Instance) → P j → j ≡ i) → length new ≤ INSTANCE_LIMIT → Adds P old new
adds_one P old new i e here one few = record {
  more = i ∷ [];
  is = e;
  lists = record { order = (tt, tt); only = (here, tt); all = λ j p. inl (one j p) };
  few = λ h. few;
}

-- the same instances by another word
pub adds_alike : (P Q : Instance → Type 0) (old new : List Instance) → ((i : Instance) → P i → Q i) → ((i : Instance) → Q i → P i) → Adds P old new → Adds Q old new
adds_alike P Q old new there home a = record {
  more = a.more;
  is = a.is;
  lists = record {
    order = a.lists.order;
    only = Each-members Q a.more (λ i m. there i (Each-at P a.more i a.lists.only m));
    all = λ i q. a.lists.all i (home i q);
  };
  few = a.few;
}

module _ (P Q R : Instance → Type 0) (left : (i : Instance) → P i → R i) (right : (i : Instance) → Q i → R i) (before : (i j : Instance) → P i → Q j → IsSooner i j) (old mid : List Instance) (a : Adds P old mid) where
  -- later ones are added behind
  pub adds_then : (new : List Instance) → ((i : Instance) → R i → P i ⊎ Q i) → Adds Q mid new → Adds R old new
  adds_then new split b = record {
    more = a.more ++ b.more;
    is = b.is ∙ ap (λ xs. xs ++ b.more) a.is ∙ append_assoc old a.more b.more;
    lists = record {
      order = order_append a.more b.more a.lists.order b.lists.order (λ i j m n. before i j (Each-at P a.more i a.lists.only m) (Each-at Q b.more j b.lists.only n));
      only = Each-append R a.more b.more (Each-members R a.more (λ i m. left i (Each-at P a.more i a.lists.only m))) (Each-members R b.more (λ i m. right i (Each-at Q b.more i b.lists.only m)));
      all = λ i r. elim (split i r) [ inl p ↦ IsAmong-append_left a.more b.more i (a.lists.all i p) | inr q ↦ IsAmong-append_right a.more b.more i (b.lists.all i q) ];
    };
    few = λ h. b.few (a.few h);
  }

  -- or they are too many
  pub overflows_then : Overflows Q mid → Overflows R old
  overflows_then b =
      let count : length mid ≡ length old + length a.more = ap length a.is ∙ length-append old a.more in
      let both : length (a.more ++ b.more) ≡ length a.more + length b.more = length-append a.more b.more in
      let many : INSTANCE_LIMIT < length mid + length b.more = b.many in
      record {
        more = a.more ++ b.more;
        many = omega arith;
        order = order_append a.more b.more a.lists.order b.order (λ i j m n. before i j (Each-at P a.more i a.lists.only m) (Each-at Q b.more j b.only n));
        only = Each-append R a.more b.more (Each-members R a.more (λ i m. left i (Each-at P a.more i a.lists.only m))) (Each-members R b.more (λ i m. right i (Each-at Q b.more i b.only m)));
      }

-- too many by another word
pub overflows_alike : (P Q : Instance → Type 0) (old : List Instance) → ((i : Instance) → P i → Q i) → Overflows P old → Overflows Q old
overflows_alike P Q old there a = record { more = a.more; many = a.many; order = a.order; only = Each-members Q a.more (λ i m. there i (Each-at P a.more i a.only m)) }
