-- Places in preorder: their bounds, that they are unique, what they say of relations, and what a step makes of them.
use Rattle.std.specs.Prelude.{◌≡◌, ℕ, suc, ◌+◌, ◌<◌, ◌≤◌, List, refl}
use Rattle.std.proofs.Common.{inl, inr, sym, ap, ◌∙◌, arith}
use Rattle.gr_base.specs.Forests.{Forest, empty, tree, size}
use Rattle.td_forest.specs.Nodes.{IsIn}
use Rattle.td_forest.proofs.Twins.{AreSameIn, IsOverIn, IsLeftIn, AllOnce}
use Rattle.td_forest.specs.Spots.{Spot, join, wrap, down, along, after, IsSpot}
use Rattle.td_forest.specs.Spans.{IsSpan}

-- bounds of a span
pub record IsWithin (n m first behind : ℕ) : Type 0 where
  pub low : n ≤ first
  pub some : first < behind
  pub high : behind ≤ m

pub span_within : (n : ℕ) (F : Forest (List ℕ)) (y b e : ℕ) → IsSpan n F y b e → IsWithin n (n + size F) b e
span_within n empty y b e h = absurd h
span_within n (tree set kids more) y b e (inl h) =
    let p : b ≡ n = h.1 in let q : e ≡ n + 1 + size kids = h.2 in record { low = omega arith; some = omega arith; high = omega arith }
span_within n (tree set kids more) y b e (inr (inl h)) = let r = span_within (n + 1) kids y b e h in
    let p : n + 1 ≤ b = r.low in let q : b < e = r.some in let s : e ≤ n + 1 + size kids = r.high in record { low = omega arith; some = omega arith; high = omega arith }
span_within n (tree set kids more) y b e (inr (inr h)) = let r = span_within (n + 1 + size kids) more y b e h in
    let p : n + 1 + size kids ≤ b = r.low in let q : b < e = r.some in let s : e ≤ n + 1 + size kids + size more = r.high in record { low = omega arith; some = omega arith; high = omega arith }

pub span_in : (n : ℕ) (F : Forest (List ℕ)) (y b e : ℕ) → IsSpan n F y b e → IsIn F y
span_in n empty y b e h = absurd h
span_in n (tree set kids more) y b e (inl h) = inl h.0
span_in n (tree set kids more) y b e (inr (inl h)) = inr (inl (span_in (n + 1) kids y b e h))
span_in n (tree set kids more) y b e (inr (inr h)) = inr (inr (span_in (n + 1 + size kids) more y b e h))

-- each node has a span
pub record HasSpan (n : ℕ) (F : Forest (List ℕ)) (y : ℕ) : Type 0 where
  pub first : ℕ
  pub behind : ℕ
  pub is : IsSpan n F y first behind

pub span_of : (n : ℕ) (F : Forest (List ℕ)) (y : ℕ) → IsIn F y → HasSpan n F y
span_of n empty y i = absurd i
span_of n (tree set kids more) y (inl i) = record { first = n; behind = n + 1 + size kids; is = inl (i, refl, refl) }
span_of n (tree set kids more) y (inr (inl i)) = let r = span_of (n + 1) kids y i in record { first = r.first; behind = r.behind; is = inr (inl r.is) }
span_of n (tree set kids more) y (inr (inr i)) = let r = span_of (n + 1 + size kids) more y i in record { first = r.first; behind = r.behind; is = inr (inr r.is) }

-- and one only
pub span_unique : (n : ℕ) (F : Forest (List ℕ)) (y b e b' e' : ℕ) → AllOnce F → IsSpan n F y b e → IsSpan n F y b' e' → (b ≡ b') × (e ≡ e')
span_unique n empty y b e b' e' once h k = absurd h
span_unique n (tree set kids more) y b e b' e' once (inl h) (inl k) = (h.1 ∙ sym k.1, h.2 ∙ sym k.2)
span_unique n (tree set kids more) y b e b' e' once (inl h) (inr (inl k)) = absurd (once.1 y h.0 (span_in (n + 1) kids y b' e' k))
span_unique n (tree set kids more) y b e b' e' once (inl h) (inr (inr k)) = absurd (once.2 y h.0 (span_in (n + 1 + size kids) more y b' e' k))
span_unique n (tree set kids more) y b e b' e' once (inr (inl h)) (inl k) = absurd (once.1 y k.0 (span_in (n + 1) kids y b e h))
span_unique n (tree set kids more) y b e b' e' once (inr (inl h)) (inr (inl k)) = span_unique (n + 1) kids y b e b' e' once.4 h k
span_unique n (tree set kids more) y b e b' e' once (inr (inl h)) (inr (inr k)) = absurd (once.3 y (span_in (n + 1) kids y b e h) (span_in (n + 1 + size kids) more y b' e' k))
span_unique n (tree set kids more) y b e b' e' once (inr (inr h)) (inl k) = absurd (once.2 y k.0 (span_in (n + 1 + size kids) more y b e h))
span_unique n (tree set kids more) y b e b' e' once (inr (inr h)) (inr (inl k)) = absurd (once.3 y (span_in (n + 1) kids y b' e' k) (span_in (n + 1 + size kids) more y b e h))
span_unique n (tree set kids more) y b e b' e' once (inr (inr h)) (inr (inr k)) = span_unique (n + 1 + size kids) more y b e b' e' once.5 h k

-- what places say of relations
pub span_same : (n : ℕ) (F : Forest (List ℕ)) (x y b e e' : ℕ) → IsSpan n F x b e → IsSpan n F y b e' → AreSameIn F x y
span_same n empty x y b e e' h k = absurd h
span_same n (tree set kids more) x y b e e' (inl h) (inl k) = inl (h.0, k.0)
span_same n (tree set kids more) x y b e e' (inl h) (inr (inl k)) = let r = (span_within (n + 1) kids y b e' k).low in let q : b ≡ n = h.1 in absurd (omega arith)
span_same n (tree set kids more) x y b e e' (inl h) (inr (inr k)) = let r = (span_within (n + 1 + size kids) more y b e' k).low in let q : b ≡ n = h.1 in absurd (omega arith)
span_same n (tree set kids more) x y b e e' (inr (inl h)) (inl k) = let r = (span_within (n + 1) kids x b e h).low in let q : b ≡ n = k.1 in absurd (omega arith)
span_same n (tree set kids more) x y b e e' (inr (inl h)) (inr (inl k)) = inr (inl (span_same (n + 1) kids x y b e e' h k))
span_same n (tree set kids more) x y b e e' (inr (inl h)) (inr (inr k)) =
    let r = span_within (n + 1) kids x b e h in let s = r.some in let t = r.high in let q = (span_within (n + 1 + size kids) more y b e' k).low in absurd (omega arith)
span_same n (tree set kids more) x y b e e' (inr (inr h)) (inl k) = let r = (span_within (n + 1 + size kids) more x b e h).low in let q : b ≡ n = k.1 in absurd (omega arith)
span_same n (tree set kids more) x y b e e' (inr (inr h)) (inr (inl k)) =
    let r = span_within (n + 1) kids y b e' k in let s = r.some in let t = r.high in let q = (span_within (n + 1 + size kids) more x b e h).low in absurd (omega arith)
span_same n (tree set kids more) x y b e e' (inr (inr h)) (inr (inr k)) = inr (inr (span_same (n + 1 + size kids) more x y b e e' h k))

-- tree nodes at one place end at one place
pub span_end : (n : ℕ) (F : Forest (List ℕ)) (x y b e e' : ℕ) → IsSpan n F x b e → IsSpan n F y b e' → e ≡ e'
span_end n empty x y b e e' h k = absurd h
span_end n (tree set kids more) x y b e e' (inl h) (inl k) = h.2 ∙ sym k.2
span_end n (tree set kids more) x y b e e' (inl h) (inr (inl k)) = let r = (span_within (n + 1) kids y b e' k).low in let q : b ≡ n = h.1 in absurd (omega arith)
span_end n (tree set kids more) x y b e e' (inl h) (inr (inr k)) = let r = (span_within (n + 1 + size kids) more y b e' k).low in let q : b ≡ n = h.1 in absurd (omega arith)
span_end n (tree set kids more) x y b e e' (inr (inl h)) (inl k) = let r = (span_within (n + 1) kids x b e h).low in let q : b ≡ n = k.1 in absurd (omega arith)
span_end n (tree set kids more) x y b e e' (inr (inl h)) (inr (inl k)) = span_end (n + 1) kids x y b e e' h k
span_end n (tree set kids more) x y b e e' (inr (inl h)) (inr (inr k)) =
    let r = span_within (n + 1) kids x b e h in let s = r.some in let t = r.high in let q = (span_within (n + 1 + size kids) more y b e' k).low in absurd (omega arith)
span_end n (tree set kids more) x y b e e' (inr (inr h)) (inl k) = let r = (span_within (n + 1 + size kids) more x b e h).low in let q : b ≡ n = k.1 in absurd (omega arith)
span_end n (tree set kids more) x y b e e' (inr (inr h)) (inr (inl k)) =
    let r = span_within (n + 1) kids y b e' k in let s = r.some in let t = r.high in let q = (span_within (n + 1 + size kids) more x b e h).low in absurd (omega arith)
span_end n (tree set kids more) x y b e e' (inr (inr h)) (inr (inr k)) = span_end (n + 1 + size kids) more x y b e e' h k

pub span_over : (n : ℕ) (F : Forest (List ℕ)) (x y b e b' e' : ℕ) → IsSpan n F x b e → IsSpan n F y b' e' → b < b' → b' < e → IsOverIn F x y
span_over n empty x y b e b' e' h k l m = absurd h
span_over n (tree set kids more) x y b e b' e' (inl h) (inl k) l m = let p : b ≡ n = h.1 in let q : b' ≡ n = k.1 in absurd (omega arith)
span_over n (tree set kids more) x y b e b' e' (inl h) (inr (inl k)) l m = inl (h.0, span_in (n + 1) kids y b' e' k)
span_over n (tree set kids more) x y b e b' e' (inl h) (inr (inr k)) l m =
    let r = (span_within (n + 1 + size kids) more y b' e' k).low in let p : e ≡ n + 1 + size kids = h.2 in absurd (omega arith)
span_over n (tree set kids more) x y b e b' e' (inr (inl h)) (inl k) l m = let r = (span_within (n + 1) kids x b e h).low in let q : b' ≡ n = k.1 in absurd (omega arith)
span_over n (tree set kids more) x y b e b' e' (inr (inl h)) (inr (inl k)) l m = inr (inl (span_over (n + 1) kids x y b e b' e' h k l m))
span_over n (tree set kids more) x y b e b' e' (inr (inl h)) (inr (inr k)) l m =
    let t = (span_within (n + 1) kids x b e h).high in let q = (span_within (n + 1 + size kids) more y b' e' k).low in absurd (omega arith)
span_over n (tree set kids more) x y b e b' e' (inr (inr h)) (inl k) l m = let r = (span_within (n + 1 + size kids) more x b e h).low in let q : b' ≡ n = k.1 in absurd (omega arith)
span_over n (tree set kids more) x y b e b' e' (inr (inr h)) (inr (inl k)) l m =
    let r = span_within (n + 1) kids y b' e' k in let s = r.some in let t = r.high in let q = (span_within (n + 1 + size kids) more x b e h).low in absurd (omega arith)
span_over n (tree set kids more) x y b e b' e' (inr (inr h)) (inr (inr k)) l m = inr (inr (span_over (n + 1 + size kids) more x y b e b' e' h k l m))

pub span_left : (n : ℕ) (F : Forest (List ℕ)) (x y b e b' e' : ℕ) → IsSpan n F x b e → IsSpan n F y b' e' → e ≤ b' → IsLeftIn F x y
span_left n empty x y b e b' e' h k l = absurd h
span_left n (tree set kids more) x y b e b' e' (inl h) (inl k) l = let p : e ≡ n + 1 + size kids = h.2 in let q : b' ≡ n = k.1 in absurd (omega arith)
span_left n (tree set kids more) x y b e b' e' (inl h) (inr (inl k)) l =
    let r = span_within (n + 1) kids y b' e' k in let s = r.some in let t = r.high in let p : e ≡ n + 1 + size kids = h.2 in absurd (omega arith)
span_left n (tree set kids more) x y b e b' e' (inl h) (inr (inr k)) l = inl (inl h.0, span_in (n + 1 + size kids) more y b' e' k)
span_left n (tree set kids more) x y b e b' e' (inr (inl h)) (inl k) l = let r = span_within (n + 1) kids x b e h in let s = r.low in let t = r.some in let q : b' ≡ n = k.1 in absurd (omega arith)
span_left n (tree set kids more) x y b e b' e' (inr (inl h)) (inr (inl k)) l = inr (inl (span_left (n + 1) kids x y b e b' e' h k l))
span_left n (tree set kids more) x y b e b' e' (inr (inl h)) (inr (inr k)) l = inl (inr (span_in (n + 1) kids x b e h), span_in (n + 1 + size kids) more y b' e' k)
span_left n (tree set kids more) x y b e b' e' (inr (inr h)) (inl k) l =
    let r = span_within (n + 1 + size kids) more x b e h in let s = r.low in let t = r.some in let q : b' ≡ n = k.1 in absurd (omega arith)
span_left n (tree set kids more) x y b e b' e' (inr (inr h)) (inr (inl k)) l =
    let r = span_within (n + 1) kids y b' e' k in let s = r.some in let t = r.high in let u = span_within (n + 1 + size kids) more x b e h in let v = u.low in let w = u.some in absurd (omega arith)
span_left n (tree set kids more) x y b e b' e' (inr (inr h)) (inr (inr k)) l = inr (inr (span_left (n + 1 + size kids) more x y b e b' e' h k l))

-- a join moves no one
pub data IsJoin : Spot → Type 0 where
  is_join : IsJoin join
  is_down : {s : Spot} → IsJoin s → IsJoin (down s)
  is_along : {s : Spot} → IsJoin s → IsJoin (along s)

pub size_join : (x : ℕ) (s : Spot) (F : Forest (List ℕ)) → IsJoin s → IsSpot s F → size (after x s F) ≡ size F
size_join x join empty j at = absurd at
size_join x join (tree set kids more) j at = refl
size_join x (wrap n) F j at = elim j [ ]
size_join x (down s) empty j at = absurd at
size_join x (down s) (tree set kids more) (is_down j) at = ap (λ k. suc (k + size more)) (size_join x s kids j at)
size_join x (along s) empty j at = absurd at
size_join x (along s) (tree set kids more) (is_along j) at = ap (λ k. suc (size kids + k)) (size_join x s more j at)
