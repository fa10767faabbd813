-- The relations by recursion are those by positions.
use Rattle.std.specs.Prelude.{◌≡◌, ℕ, zero, suc, List, [], ◌∷◌, ◌⊎◌, Option, Some, None, refl}
use Rattle.std.proofs.Common.{inl, inr, subst, sym, ap, arith}
use Rattle.gr_base.specs.Lists.{IsAmong}
use Rattle.gr_base.specs.Forests.{Forest, empty, tree, IsOver, IsLeftOf}
use Rattle.td_forest.specs.Nodes.{IsIn, Stands}
use Rattle.td_forest.proofs.Twins.{AreSameIn, IsOverIn, IsLeftIn, RelatesIn, AllOnce}
use Rattle.td_forest.specs.Nodes.{Stands, Relates}
use Rattle.td_forest.specs.declared.Relation.{Relation}
use Rattle.td_forest.specs.declared.Relation.TheVariants.{Same, Over, Under, Left, Right}

-- a position with its first number
pub record At (F : Forest (List ℕ)) (y : ℕ) : Type 0 where
  pub head : ℕ
  pub rest : List ℕ
  pub is : Stands F y (head ∷ rest)

pub in_at : (F : Forest (List ℕ)) (y : ℕ) → IsIn F y → At F y
in_at empty y i = absurd i
in_at (tree set kids more) y (inl i) = record { head = zero; rest = []; is = (set, refl, i) }
in_at (tree set kids more) y (inr (inl i)) = let r = in_at kids y i in record { head = zero; rest = r.head ∷ r.rest; is = r.is }
in_at (tree set kids more) y (inr (inr i)) = let r = in_at more y i in record { head = suc r.head; rest = r.rest; is = r.is }

pub none_some : {A : Type 0} (x : A) → ◌≡◌ {A = Option A} None (Some x) → ⊥
none_some x e = cc

pub at_in : (F : Forest (List ℕ)) (y : ℕ) (p : List ℕ) → Stands F y p → IsIn F y
at_in empty y p h = absurd (none_some h.0 h.1)
at_in (tree set kids more) y [] h = absurd (none_some h.0 h.1)
at_in (tree set kids more) y (zero ∷ []) h = let e : Some set ≡ Some h.0 = h.1 in let q : h.0 ≡ set = cc in inl (subst (λ zs. IsAmong zs y) q h.2)
at_in (tree set kids more) y (zero ∷ j ∷ p) h = inr (inl (at_in kids y (j ∷ p) h))
at_in (tree set kids more) y (suc i ∷ p) h = inr (inr (at_in more y (i ∷ p) h))

-- two nodes at positions with their first numbers
pub record OverAt (F : Forest (List ℕ)) (x y : ℕ) : Type 0 where
  pub one : At F x
  pub other : At F y
  pub over : IsOver (one.head ∷ one.rest) (other.head ∷ other.rest)

pub over_at : (F : Forest (List ℕ)) (x y : ℕ) → IsOverIn F x y → OverAt F x y
over_at empty x y h = absurd h
over_at (tree set kids more) x y (inl h) =
    let r = in_at kids y h.1 in
    record { one = record { head = zero; rest = []; is = (set, refl, h.0) }; other = record { head = zero; rest = r.head ∷ r.rest; is = r.is }; over = (refl, tt) }
over_at (tree set kids more) x y (inr (inl h)) =
    let r = over_at kids x y h in
    record {
      one = record { head = zero; rest = r.one.head ∷ r.one.rest; is = r.one.is };
      other = record { head = zero; rest = r.other.head ∷ r.other.rest; is = r.other.is };
      over = (refl, r.over);
    }
over_at (tree set kids more) x y (inr (inr h)) =
    let r = over_at more x y h in
    record {
      one = record { head = suc r.one.head; rest = r.one.rest; is = r.one.is };
      other = record { head = suc r.other.head; rest = r.other.rest; is = r.other.is };
      over = (ap (λ k. suc k) r.over.0, r.over.1);
    }

pub record LeftAt (F : Forest (List ℕ)) (x y : ℕ) : Type 0 where
  pub one : At F x
  pub other : At F y
  pub left : IsLeftOf (one.head ∷ one.rest) (other.head ∷ other.rest)

left_next : (i j : ℕ) (p q : List ℕ) → IsLeftOf (i ∷ p) (j ∷ q) → IsLeftOf (suc i ∷ p) (suc j ∷ q)
left_next i j p q (inl h) = inl (omega arith)
left_next i j p q (inr h) = inr (ap (λ k. suc k) h.0, h.1)

pub left_at : (F : Forest (List ℕ)) (x y : ℕ) → IsLeftIn F x y → LeftAt F x y
left_at empty x y h = absurd h
left_at (tree set kids more) x y (inl h) =
    let r = in_at more y h.1 in
    elim h.0 [
      | inl i ↦ record { one = record { head = zero; rest = []; is = (set, refl, i) }; other = record { head = suc r.head; rest = r.rest; is = r.is }; left = inl (omega arith) }
      | inr i ↦
          let s = in_at kids x i in
          record { one = record { head = zero; rest = s.head ∷ s.rest; is = s.is }; other = record { head = suc r.head; rest = r.rest; is = r.is }; left = inl (omega arith) }
    ]
left_at (tree set kids more) x y (inr (inl h)) =
    let r = left_at kids x y h in
    record {
      one = record { head = zero; rest = r.one.head ∷ r.one.rest; is = r.one.is };
      other = record { head = zero; rest = r.other.head ∷ r.other.rest; is = r.other.is };
      left = inr (refl, r.left);
    }
left_at (tree set kids more) x y (inr (inr h)) =
    let r = left_at more x y h in
    record {
      one = record { head = suc r.one.head; rest = r.one.rest; is = r.one.is };
      other = record { head = suc r.other.head; rest = r.other.rest; is = r.other.is };
      left = left_next r.one.head r.other.head r.one.rest r.other.rest r.left;
    }

-- and back
suc_same : (i j : ℕ) → suc i ≡ suc j → i ≡ j
suc_same i j e = omega arith

pub at_over : (F : Forest (List ℕ)) (x y : ℕ) (p q : List ℕ) → Stands F x p → Stands F y q → IsOver p q → IsOverIn F x y
at_over empty x y p q h k o = absurd (none_some h.0 h.1)
at_over (tree set kids more) x y [] q h k o = absurd (none_some h.0 h.1)
at_over (tree set kids more) x y (i ∷ p) [] h k o = absurd o
at_over (tree set kids more) x y (zero ∷ []) (zero ∷ []) h k o = absurd o.1
at_over (tree set kids more) x y (zero ∷ []) (zero ∷ j ∷ q) h k o =
    let e : Some set ≡ Some h.0 = h.1 in let s : h.0 ≡ set = cc in inl (subst (λ zs. IsAmong zs x) s h.2, at_in kids y (j ∷ q) k)
at_over (tree set kids more) x y (zero ∷ i ∷ p) (zero ∷ []) h k o = absurd o.1
at_over (tree set kids more) x y (zero ∷ i ∷ p) (zero ∷ j ∷ q) h k o = inr (inl (at_over kids x y (i ∷ p) (j ∷ q) h k o.1))
at_over (tree set kids more) x y (zero ∷ p) (suc j ∷ q) h k o = let e : zero ≡ suc j = o.0 in absurd (omega arith)
at_over (tree set kids more) x y (suc i ∷ p) (zero ∷ q) h k o = let e : suc i ≡ zero = o.0 in absurd (omega arith)
at_over (tree set kids more) x y (suc i ∷ p) (suc j ∷ q) h k o = inr (inr (at_over more x y (i ∷ p) (j ∷ q) h k (suc_same i j o.0, o.1)))

-- a node of the first tree
pub first_tree : (set : List ℕ) (kids more : Forest (List ℕ)) (x : ℕ) (p : List ℕ) → Stands (tree set kids more) x (zero ∷ p) → IsAmong set x ⊎ IsIn kids x
first_tree set kids more x [] h = let e : Some set ≡ Some h.0 = h.1 in let s : h.0 ≡ set = cc in inl (subst (λ zs. IsAmong zs x) s h.2)
first_tree set kids more x (i ∷ p) h = inr (at_in kids x (i ∷ p) h)

left_before : (i j : ℕ) (p q : List ℕ) → IsLeftOf (suc i ∷ p) (suc j ∷ q) → IsLeftOf (i ∷ p) (j ∷ q)
left_before i j p q (inl h) = inl (omega arith)
left_before i j p q (inr h) = inr (suc_same i j h.0, h.1)

same_first : (p q : List ℕ) → IsLeftOf (zero ∷ p) (zero ∷ q) → IsLeftOf p q
same_first p q (inl h) = absurd (omega arith)
same_first p q (inr h) = h.1

not_left : (i : ℕ) (p q : List ℕ) → IsLeftOf (suc i ∷ p) (zero ∷ q) → ⊥
not_left i p q (inl h) = omega arith
not_left i p q (inr h) = let e : suc i ≡ zero = h.0 in omega arith

pub at_left : (F : Forest (List ℕ)) (x y : ℕ) (p q : List ℕ) → Stands F x p → Stands F y q → IsLeftOf p q → IsLeftIn F x y
at_left empty x y p q h k o = absurd (none_some h.0 h.1)
at_left (tree set kids more) x y [] q h k o = absurd (none_some h.0 h.1)
at_left (tree set kids more) x y (i ∷ p) [] h k o = absurd o
at_left (tree set kids more) x y (zero ∷ []) (zero ∷ q) h k o = absurd (same_first [] q o)
at_left (tree set kids more) x y (zero ∷ i ∷ p) (zero ∷ []) h k o = absurd (same_first (i ∷ p) [] o)
at_left (tree set kids more) x y (zero ∷ i ∷ p) (zero ∷ j ∷ q) h k o = inr (inl (at_left kids x y (i ∷ p) (j ∷ q) h k (same_first (i ∷ p) (j ∷ q) o)))
at_left (tree set kids more) x y (zero ∷ p) (suc j ∷ q) h k o = inl (first_tree set kids more x p h, at_in more y (j ∷ q) k)
at_left (tree set kids more) x y (suc i ∷ p) (zero ∷ q) h k o = absurd (not_left i p q o)
at_left (tree set kids more) x y (suc i ∷ p) (suc j ∷ q) h k o = inr (inr (at_left more x y (i ∷ p) (j ∷ q) h k (left_before i j p q o)))

-- two nodes at one position
pub record SameAt (F : Forest (List ℕ)) (x y : ℕ) : Type 0 where
  pub head : ℕ
  pub rest : List ℕ
  pub one : Stands F x (head ∷ rest)
  pub other : Stands F y (head ∷ rest)

pub same_at : (F : Forest (List ℕ)) (x y : ℕ) → AreSameIn F x y → SameAt F x y
same_at empty x y h = absurd h
same_at (tree set kids more) x y (inl h) = record { head = zero; rest = []; one = (set, refl, h.0); other = (set, refl, h.1) }
same_at (tree set kids more) x y (inr (inl h)) = let r = same_at kids x y h in record { head = zero; rest = r.head ∷ r.rest; one = r.one; other = r.other }
same_at (tree set kids more) x y (inr (inr h)) = let r = same_at more x y h in record { head = suc r.head; rest = r.rest; one = r.one; other = r.other }

pub at_same : (F : Forest (List ℕ)) (x y : ℕ) (p : List ℕ) → Stands F x p → Stands F y p → AreSameIn F x y
at_same empty x y p h k = absurd (none_some h.0 h.1)
at_same (tree set kids more) x y [] h k = absurd (none_some h.0 h.1)
at_same (tree set kids more) x y (zero ∷ []) h k =
    let d : Some set ≡ Some h.0 = h.1 in
    let e : Some set ≡ Some k.0 = k.1 in
    let s : h.0 ≡ set = cc in
    let t : k.0 ≡ set = cc in
    inl (subst (λ zs. IsAmong zs x) s h.2, subst (λ zs. IsAmong zs y) t k.2)
at_same (tree set kids more) x y (zero ∷ j ∷ p) h k = inr (inl (at_same kids x y (j ∷ p) h k))
at_same (tree set kids more) x y (suc i ∷ p) h k = inr (inr (at_same more x y (i ∷ p) h k))

-- a node stands at one position
pub stands_once : (F : Forest (List ℕ)) (x : ℕ) (p q : List ℕ) → AllOnce F → Stands F x p → Stands F x q → p ≡ q
stands_once empty x p q once h k = absurd (none_some h.0 h.1)
stands_once (tree set kids more) x [] q once h k = absurd (none_some h.0 h.1)
stands_once (tree set kids more) x (i ∷ p) [] once h k = absurd (none_some k.0 k.1)
stands_once (tree set kids more) x (zero ∷ []) (zero ∷ []) once h k = refl
stands_once (tree set kids more) x (zero ∷ []) (zero ∷ j ∷ q) once h k =
    let e : Some set ≡ Some h.0 = h.1 in let s : h.0 ≡ set = cc in absurd (once.1 x (subst (λ zs. IsAmong zs x) s h.2) (at_in kids x (j ∷ q) k))
stands_once (tree set kids more) x (zero ∷ i ∷ p) (zero ∷ []) once h k =
    let e : Some set ≡ Some k.0 = k.1 in let s : k.0 ≡ set = cc in absurd (once.1 x (subst (λ zs. IsAmong zs x) s k.2) (at_in kids x (i ∷ p) h))
stands_once (tree set kids more) x (zero ∷ i ∷ p) (zero ∷ j ∷ q) once h k = ap (λ r. zero ∷ r) (stands_once kids x (i ∷ p) (j ∷ q) once.4 h k)
stands_once (tree set kids more) x (zero ∷ p) (suc j ∷ q) once h k =
    elim (first_tree set kids more x p h) [ inl a ↦ absurd (once.2 x a (at_in more x (j ∷ q) k)) | inr a ↦ absurd (once.3 x a (at_in more x (j ∷ q) k)) ]
stands_once (tree set kids more) x (suc i ∷ p) (zero ∷ q) once h k =
    elim (first_tree set kids more x q k) [ inl a ↦ absurd (once.2 x a (at_in more x (i ∷ p) h)) | inr a ↦ absurd (once.3 x a (at_in more x (i ∷ p) h)) ]
stands_once (tree set kids more) x (suc i ∷ p) (suc j ∷ q) once h k = ap next_number (stands_once more x (i ∷ p) (j ∷ q) once.5 h k)
  where
    next_number : List ℕ → List ℕ
    next_number [] = []
    next_number (i ∷ p) = suc i ∷ p

-- the relations by recursion are those by positions
pub by_position : (F : Forest (List ℕ)) (x y : ℕ) (how : Relation) → RelatesIn F x y how → Relates F x y how
by_position F x y Same h = let r = same_at F x y h in (r.head ∷ r.rest, r.head ∷ r.rest, r.one, r.other, refl)
by_position F x y Over h = let r = over_at F x y h in (r.one.head ∷ r.one.rest, r.other.head ∷ r.other.rest, r.one.is, r.other.is, r.over)
by_position F x y Under h = let r = over_at F y x h in (r.other.head ∷ r.other.rest, r.one.head ∷ r.one.rest, r.other.is, r.one.is, r.over)
by_position F x y Left h = let r = left_at F x y h in (r.one.head ∷ r.one.rest, r.other.head ∷ r.other.rest, r.one.is, r.other.is, r.left)
by_position F x y Right h = let r = left_at F y x h in (r.other.head ∷ r.other.rest, r.one.head ∷ r.one.rest, r.other.is, r.one.is, r.left)

pub by_recursion : (F : Forest (List ℕ)) (x y : ℕ) (how : Relation) → Relates F x y how → RelatesIn F x y how
by_recursion F x y Same h = at_same F x y h.0 h.2 (subst (λ q. Stands F y q) (sym h.4) h.3)
by_recursion F x y Over h = at_over F x y h.0 h.1 h.2 h.3 h.4
by_recursion F x y Under h = at_over F y x h.1 h.0 h.3 h.2 h.4
by_recursion F x y Left h = at_left F x y h.0 h.1 h.2 h.3 h.4
by_recursion F x y Right h = at_left F y x h.1 h.0 h.3 h.2 h.4
