-- Steps named by nodes.
use Rattle.std.specs.Prelude.{◌≡◌, ℕ, zero, suc, ◌+◌, ◌≤◌, List, [], ◌∷◌, Bool, true, false, ◌==◌, if◌then◌else◌, refl}
use Rattle.std.proofs.Common.{inl, inr, subst, ap, arith}
use Rattle.std.proofs.lemmas.Bool.Decides.{nat_tests}
use Rattle.gr_base.specs.Lists.{IsAmong}
use Rattle.gr_base.specs.Forests.{Forest, empty, tree, size}
use Rattle.td_forest.specs.Nodes.{IsIn}
use Rattle.td_forest.proofs.Twins.{AllOnce}
use Rattle.td_forest.specs.Steps.{width, first_trees, trees_behind, has, has_in, kids_of}
use Rattle.td_forest.specs.Spots.{Spot, IsSpot, spot_into, spot_under, insertion}
use Rattle.td_forest.specs.Spans.{IsSpan, StartsAt, IsWrap}
use Rattle.td_forest.proofs.Shifting.{JoinsAt}

either_true : (a b : Bool) → b ≡ true → (if a then true else b) ≡ true
either_true true b e = refl
either_true false b e = e

pub has_true : (x : ℕ) (set : List ℕ) → IsAmong set x → has x set ≡ true
has_true x [] i = absurd i
has_true x (y ∷ ys) (inl e) = let q : (y == x) ≡ true = grind (arith, nat_tests) in rw q refl
has_true x (y ∷ ys) (inr i) = either_true (y == x) (has x ys) (has_true x ys i)

pub has_false : (x : ℕ) (set : List ℕ) → (IsAmong set x → ⊥) → has x set ≡ false
has_false x [] h = refl
has_false x (y ∷ ys) h = let ne : x ≡ y → ⊥ = λ e. h (inl e) in let q : (y == x) ≡ false = grind (arith, nat_tests) in rw q (has_false x ys (λ i. h (inr i)))

pub has_in_true : (x : ℕ) (F : Forest (List ℕ)) → IsIn F x → has_in x F ≡ true
has_in_true x empty i = absurd i
has_in_true x (tree set kids more) (inl i) = rw (has_true x set i) refl
has_in_true x (tree set kids more) (inr (inl i)) = either_true (has x set) _ (rw (has_in_true x kids i) refl)
has_in_true x (tree set kids more) (inr (inr i)) = either_true (has x set) _ (either_true (has_in x kids) _ (has_in_true x more i))

pub has_in_false : (x : ℕ) (F : Forest (List ℕ)) → (IsIn F x → ⊥) → has_in x F ≡ false
has_in_false x empty h = refl
has_in_false x (tree set kids more) h = rw (has_false x set (λ i. h (inl i)), has_in_false x kids (λ i. h (inr (inl i)))) (has_in_false x more (λ i. h (inr (inr i))))

-- the step that is named by a node joins its tree node
pub into_joins : (at : ℕ) (F : Forest (List ℕ)) → AllOnce F → IsIn F at → JoinsAt at (spot_into at F) F
into_joins at empty once i = absurd i
into_joins at (tree set kids more) once (inl i) = rw (has_true at set i) i
into_joins at (tree set kids more) once (inr (inl i)) = rw (has_false at set (λ j. once.1 at j i), has_in_true at kids i) (into_joins at kids once.4 i)
into_joins at (tree set kids more) once (inr (inr i)) = rw (has_false at set (λ j. once.2 at j i), has_in_false at kids (λ j. once.3 at j i)) (into_joins at more once.5 i)

-- a new tree node among the trees of a list
pub wrap_insertion : (l n i k : ℕ) (F : Forest (List ℕ)) → i ≤ width F
    → IsWrap l n F (insertion i k) l (n + size (first_trees i F)) (n + size (first_trees i F) + size (first_trees k (trees_behind i F)))
wrap_insertion l n zero k F h = let q : n + 0 ≡ n = omega arith in (refl, q, ap (λ j. j + size (first_trees k F)) q)
wrap_insertion l n (suc i) k empty h = omega arith
wrap_insertion l n (suc i) k (tree set kids more) h =
    let r = wrap_insertion l (n + 1 + size kids) i k more (omega arith) in
    let q : n + 1 + size kids + size (first_trees i more) ≡ n + suc (size kids + size (first_trees i more)) = omega arith in
    subst (λ j. IsWrap l (n + 1 + size kids) more (insertion i k) l j (j + size (first_trees k (trees_behind i more)))) q r

pub starts_self : (n : ℕ) (F : Forest (List ℕ)) → StartsAt n F n F
starts_self n empty = (refl, refl)
starts_self n (tree set kids more) = inl (refl, refl)

-- what stands under a node
pub record HasKids (n u : ℕ) (F : Forest (List ℕ)) : Type 0 where
  pub first : ℕ
  pub behind : ℕ
  pub is : IsSpan n F u first behind
  pub kids : StartsAt n F (first + 1) (kids_of u F)
  pub wraps : (l : ℕ) (s : Spot) (c p q : ℕ) → IsWrap (first + 1) (first + 1) (kids_of u F) s c p q → IsWrap l n F (spot_under u s F) c p q
  pub spots : (s : Spot) → IsSpot s (kids_of u F) → IsSpot (spot_under u s F) F

pub has_kids : (n u : ℕ) (F : Forest (List ℕ)) → AllOnce F → IsIn F u → HasKids n u F
has_kids n u empty once i = absurd i
has_kids n u (tree set kids more) once (inl i) =
    record {
      first = n;
      behind = n + 1 + size kids;
      is = inl (i, refl, refl);
      kids = rw (has_true u set i) (inr (inl (starts_self (n + 1) kids)));
      wraps = rw (has_true u set i) (λ l s c p q w. w);
      spots = rw (has_true u set i) (λ s w. w);
    }
has_kids n u (tree set kids more) once (inr (inl i)) =
    let r = has_kids (n + 1) u kids once.4 i in
    record {
      first = r.first;
      behind = r.behind;
      is = inr (inl r.is);
      kids = rw (has_false u set (λ j. once.1 u j i), has_in_true u kids i) (inr (inl r.kids));
      wraps = rw (has_false u set (λ j. once.1 u j i), has_in_true u kids i) (λ l s c p q w. r.wraps (n + 1) s c p q w);
      spots = rw (has_false u set (λ j. once.1 u j i), has_in_true u kids i) (λ s w. r.spots s w);
    }
has_kids n u (tree set kids more) once (inr (inr i)) =
    let r = has_kids (n + 1 + size kids) u more once.5 i in
    record {
      first = r.first;
      behind = r.behind;
      is = inr (inr r.is);
      kids = rw (has_false u set (λ j. once.2 u j i), has_in_false u kids (λ j. once.3 u j i)) (inr (inr r.kids));
      wraps = rw (has_false u set (λ j. once.2 u j i), has_in_false u kids (λ j. once.3 u j i)) (λ l s c p q w. r.wraps l s c p q w);
      spots = rw (has_false u set (λ j. once.2 u j i), has_in_false u kids (λ j. once.3 u j i)) (λ s w. r.spots s w);
    }

-- from one tree to the next in a list
pub starts_next : (n : ℕ) (F : Forest (List ℕ)) (m : ℕ) (set : List ℕ) (kids more : Forest (List ℕ)) → StartsAt n F m (tree set kids more) → StartsAt n F (m + 1 + size kids) more
starts_next n empty m set kids more h = let e : tree set kids more ≡ empty = h.1 in absurd cc
starts_next n (tree a f g) m set kids more (inl h) =
    let p : m ≡ n = h.0 in
    let e : tree set kids more ≡ tree a f g = h.1 in
    let q : kids ≡ f = cc in
    let r : more ≡ g = cc in
    rw (p, q, r) (inr (inr (starts_self (n + 1 + size f) g)))
starts_next n (tree a f g) m set kids more (inr (inl h)) = inr (inl (starts_next (n + 1) f m set kids more h))
starts_next n (tree a f g) m set kids more (inr (inr h)) = inr (inr (starts_next (n + 1 + size f) g m set kids more h))

-- the places of a node of the first tree of a list
pub span_starts : (n : ℕ) (F : Forest (List ℕ)) (m : ℕ) (set : List ℕ) (kids more : Forest (List ℕ)) (y : ℕ) → StartsAt n F m (tree set kids more) → IsAmong set y
    → IsSpan n F y m (m + 1 + size kids)
span_starts n empty m set kids more y h i = let e : tree set kids more ≡ empty = h.1 in absurd cc
span_starts n (tree a f g) m set kids more y (inl h) i =
    let p : m ≡ n = h.0 in
    let e : tree set kids more ≡ tree a f g = h.1 in
    let q : kids ≡ f = cc in
    let r : set ≡ a = cc in
    inl (subst (λ zs. IsAmong zs y) r i, p, rw (p, q) refl)
span_starts n (tree a f g) m set kids more y (inr (inl h)) i = inr (inl (span_starts (n + 1) f m set kids more y h i))
span_starts n (tree a f g) m set kids more y (inr (inr h)) i = inr (inr (span_starts (n + 1 + size f) g m set kids more y h i))
