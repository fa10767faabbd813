-- Numbers of trees by places, and relations decided.
use Rattle.std.specs.Prelude.{◌≡◌, ◌≢◌, ℕ, zero, suc, ◌+◌, ◌<◌, ◌≤◌, List, [], ◌∷◌, ◌↔◌, Bool, true, Option, Some, None, IsTrue, refl}
use Rattle.std.proofs.Common.{inl, inr, subst, sym, arith, get_or}
use Rattle.gr_base.specs.Forests.{Forest, empty, tree, size}
use Rattle.td_forest.specs.declared.Made.{Made}
use Rattle.td_forest.specs.declared.Relation.{Relation}
use Rattle.td_forest.specs.Nodes.{IsIn, Relates}
use Rattle.td_forest.proofs.Twins.{AllOnce}
use Rattle.td_forest.specs.Steps.{width, first_trees, trees_behind, kids_of, forest_of, trees_of}
use Rattle.td_forest.specs.Spans.{IsSpan, StartsAt, IsTreeEnd, ArePlaces, IsGreatest, IsRange, IsCounted}
use Rattle.td_forest.proofs.SpanLemmas.{span_within, span_unique, span_in}
use Rattle.td_forest.proofs.Named.{has_true, has_false, has_in_true, has_in_false, has_kids, starts_self}
use Rattle.td_forest.proofs.Places.{AllFull, starts_skip, next_tree, NextTree}
use Rattle.td_forest.proofs.Exclusive.{relates_once}
use Rattle.td_forest.proofs.Positions.{by_recursion}

-- what decides a relation: the one that holds
pub relates_test : (F : Forest (List ℕ)) (x y : ℕ) (r s : Relation) (b : Bool) → AllOnce F → IsIn F x → IsIn F y → Relates F x y r → (b ≡ true → r ≡ s) → (r ≡ s → b ≡ true) → IsTrue b ↔ Relates F x y s
relates_test F x y r s b once i j h f g =
    ((λ e. subst (λ q. Relates F x y q) (f e) h), (λ k. g (relates_once F x y r s once i j (by_recursion F x y r h) (by_recursion F x y s k))))

at_least : (a b : ℕ) → a ≤ b → ((0 < b) → b ≤ a) → a ≡ b
at_least a zero low high = omega arith
at_least a (suc b) low high = let h : suc b ≤ a = high (omega arith) in omega arith

-- the place behind the children of a node
pub kids_end : (n : ℕ) (F : Forest (List ℕ)) (u b e : ℕ) → AllOnce F → IsIn F u → IsSpan n F u b e → e ≡ b + 1 + size (kids_of u F)
kids_end n empty u b e once i h = absurd h
kids_end n (tree set kids more) u b e once i (inl h) = let p = h.1 in let q = h.2 in rw (has_true u set h.0) (let a : b ≡ n = p in let c : e ≡ n + 1 + size kids = q in omega arith)
kids_end n (tree set kids more) u b e once i (inr (inl h)) =
    let there = span_in (n + 1) kids u b e h in
    rw (has_false u set (λ j. once.1 u j there), has_in_true u kids there) (kids_end (n + 1) kids u b e once.4 there h)
kids_end n (tree set kids more) u b e once i (inr (inr h)) =
    let there = span_in (n + 1 + size kids) more u b e h in
    rw (has_false u set (λ j. once.2 u j there), has_in_false u kids (λ j. once.3 u j there)) (kids_end (n + 1 + size kids) more u b e once.5 there h)

-- the last root of a forest ends it
pub record HasLast (n : ℕ) (F : Forest (List ℕ)) : Type 0 where
  pub node : ℕ
  pub first : ℕ
  pub is : IsSpan n F node first (n + size F)

pub has_last : (n : ℕ) (F : Forest (List ℕ)) → AllFull F → 0 < size F → HasLast n F
has_last n empty full h = absurd (omega arith)
has_last n (tree [] kids more) full h = absurd (full.0 refl)
has_last n (tree (y ∷ ys) kids empty) full h = let e : n + suc (size kids + 0) ≡ n + 1 + size kids = omega arith in record { node = y; first = n; is = inl (inl refl, refl, e) }
has_last n (tree (y ∷ ys) kids (tree a f g)) full h =
    let r = has_last (n + 1 + size kids) (tree a f g) full.2 (omega arith) in
    let e : n + 1 + size kids + size (tree a f g) ≡ n + suc (size kids + size (tree a f g)) = omega arith in
    record { node = r.node; first = r.first; is = inr (inr (subst (λ k. IsSpan (n + 1 + size kids) (tree a f g) r.node r.first k) e r.is)) }

-- the greatest place is the size
pub greatest_size : (F : Forest (List ℕ)) (here : List Bool) (first behind : List ℕ) (most : ℕ) → AllOnce F → AllFull F → ArePlaces F here first behind → IsGreatest here behind most → most ≡ size F
greatest_size F here first behind most once full pl g =
    let low : most ≤ size F = elim g.one [
      | inl e ↦ omega arith
      | inr t ↦
          let w = span_within 0 F t.0 (get_or first t.0 0) (get_or behind t.0 0) (pl.spans t.0 (pl.only t.0 t.1)) in
          let h : get_or behind t.0 0 ≤ 0 + size F = w.high in
          let e : get_or behind t.0 0 ≡ most = t.2 in omega arith
    ] in
    let high : (0 < size F) → size F ≤ most = λ some. (
    let l = has_last 0 F full some in
    let i = span_in 0 F l.node l.first (0 + size F) l.is in
    let u = span_unique 0 F l.node (get_or first l.node 0) (get_or behind l.node 0) l.first (0 + size F) once (pl.spans l.node i) l.is in
    let e : get_or behind l.node 0 ≡ 0 + size F = u.1 in
    let h : get_or behind l.node 0 ≤ most = g.high l.node (pl.low l.node i) (pl.there l.node i) in
    omega arith) in
    at_least most (size F) low high

-- the ranges of children
pub range_none : (made : List Made) (end : ℕ) → end ≡ size (forest_of made) → end ≤ 24 → IsRange made None 0 end
range_none made end e high = record { starts = starts_self 0 (forest_of made); ends = omega arith; high = high }

pub range_some : (made : List Made) (here : List Bool) (first behind : List ℕ) (u : ℕ) → AllOnce (forest_of made) → ArePlaces (forest_of made) here first behind → IsIn (forest_of made) u → get_or behind u 0 ≤ 24
    → IsRange made (Some u) (get_or first u 0 + 1) (get_or behind u 0)
range_some made here first behind u once pl i high =
    let r = has_kids 0 u (forest_of made) once i in
    let v = span_unique 0 (forest_of made) u r.first r.behind (get_or first u 0) (get_or behind u 0) once r.is (pl.spans u i) in
    record {
      starts = subst (λ k. StartsAt 0 (forest_of made) (k + 1) (kids_of u (forest_of made))) v.0 r.kids;
      ends = kids_end 0 (forest_of made) u (get_or first u 0) (get_or behind u 0) once i (pl.spans u i);
      high = high;
    }

-- trees that fill a forest are all its trees
size_zero : {A : Type 0} (F : Forest A) → size F ≡ 0 → width F ≡ 0
size_zero empty e = refl
size_zero (tree a kids more) e = absurd (omega arith)

width_less : {A : Type 0} (F : Forest A) → width F ≤ size F
width_less empty = omega arith
width_less (tree a kids more) = let h : width more ≤ size more = width_less more in omega arith

all_counted : {A : Type 0} (k : ℕ) (F : Forest A) → k ≤ width F → size (first_trees k F) ≡ size F → k ≡ width F
all_counted zero F low e = sym (size_zero F (sym e))
all_counted (suc k) empty low e = absurd (omega arith)
all_counted (suc k) (tree a kids more) low e = let h : k ≡ width more = all_counted k more (omega arith) (omega arith) in omega arith

all_first : {A : Type 0} (F : Forest A) → size (first_trees (width F) F) ≡ size F
all_first empty = refl
all_first (tree a kids more) = let h : size (first_trees (width more) more) ≡ size more = all_first more in omega arith

starts_tree : (F : Forest (List ℕ)) (k start at : ℕ) (G : Forest (List ℕ)) → StartsAt 0 F start G → at ≡ start + size (first_trees k G) → (t : NextTree k G) → StartsAt 0 F at (tree t.set t.kids t.more)
starts_tree F k start at G h a t =
    subst (λ H. StartsAt 0 F at H) t.is (subst (λ i. StartsAt 0 F i (trees_behind k G)) (sym a) (starts_skip 0 F k start G h))

below_width : (k w : ℕ) → k ≤ w → (k ≡ w → ⊥) → k < w
below_width k w low ne = let n : k ≢ w = ne in omega arith

module _ (made : List Made) (under : Option ℕ) (start end : ℕ) (r : IsRange made under start end) where
  pub counted_none : IsCounted made under start 0 start
  counted_none = record { low = omega arith; is = omega arith }

  pub counted_end : (k at : ℕ) → IsCounted made under start k at → at ≡ end → k ≡ width (trees_of under (forest_of made))
  counted_end k at c e =
      let a : at ≡ start + size (first_trees k (trees_of under (forest_of made))) = c.is in
      let b : end ≡ start + size (trees_of under (forest_of made)) = r.ends in
      all_counted k (trees_of under (forest_of made)) c.low (omega arith)

  pub counted_more : (k at next : ℕ) → IsCounted made under start k at → (at ≡ end → ⊥) → IsTreeEnd made at next → IsCounted made under start (k + 1) next
  counted_more k at next c ne ends =
      let F = trees_of under (forest_of made) in
      let a : at ≡ start + size (first_trees k F) = c.is in
      let b : end ≡ start + size F = r.ends in
      let low : k ≤ width F = c.low in
      let full : k ≡ width F → ⊥ = λ e. (let w : size (first_trees k F) ≡ size F = subst (λ i. size (first_trees i F) ≡ size F) (sym e) (all_first F) in ne (omega arith)) in
      let less : k < width F = below_width k (width F) low full in
      let t = next_tree k F less in
      let s : StartsAt 0 (forest_of made) at (tree t.set t.kids t.more) = starts_tree (forest_of made) k start at F r.starts a t in
      let e : next ≡ at + 1 + size t.kids = ends t.set t.kids t.more s in
      let z : size (first_trees (suc k) F) ≡ size (first_trees k F) + 1 + size t.kids = t.sizes in
      let q : suc k ≡ k + 1 = omega arith in
      subst (λ i. IsCounted made under start i next) q (record { low = omega arith; is = omega arith })

  pub counted_full : (at : ℕ) → IsCounted made under start 24 at → 24 ≡ width (trees_of under (forest_of made))
  counted_full at c =
      let F = trees_of under (forest_of made) in
      let low : 24 ≤ width F = c.low in
      let w : width F ≤ size F = width_less F in
      let b : end ≡ start + size F = r.ends in
      let h : end ≤ 24 = r.high in
      omega arith
