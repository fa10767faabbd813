-- What a step makes of the places.
use Rattle.std.specs.Prelude.{◌≡◌, ℕ, zero, suc, ◌+◌, ◌<◌, ◌≤◌, List, ◌⊎◌, refl}
use Rattle.std.proofs.Common.{inl, inr, subst, sym, ap, ◌∙◌, arith}
use Rattle.gr_base.specs.Lists.{IsAmong}
use Rattle.td_forest.proofs.SetLemmas.{in-put, put-new}
use Rattle.gr_base.specs.Forests.{Forest, empty, tree, size}
use Rattle.td_forest.specs.Steps.{first_trees, trees_behind}
use Rattle.td_forest.specs.Spots.{Spot, join, wrap, down, along, after, IsSpot}
use Rattle.td_forest.specs.Spans.{IsSpan, IsWrap, Shifts, moves, grows, stays}
use Rattle.td_forest.proofs.SpanLemmas.{span_within, IsJoin, is_join, is_down, is_along, size_join}

-- a join leaves all places as they are
pub span_join : (n x : ℕ) (s : Spot) (F : Forest (List ℕ)) (y b e : ℕ) → IsJoin s → IsSpot s F → IsSpan n F y b e → IsSpan n (after x s F) y b e
span_join n x join empty y b e j at h = absurd at
span_join n x join (tree set kids more) y b e j at (inl h) = inl (in-put x set y h.0, h.1, h.2)
span_join n x join (tree set kids more) y b e j at (inr h) = inr h
span_join n x (wrap k) F y b e j at h = elim j [ ]
span_join n x (down s) empty y b e j at h = absurd at
span_join n x (down s) (tree set kids more) y b e (is_down j) at (inl h) = inl (h.0, h.1, h.2 ∙ ap (λ k. n + 1 + k) (sym (size_join x s kids j at)))
span_join n x (down s) (tree set kids more) y b e (is_down j) at (inr (inl h)) = inr (inl (span_join (n + 1) x s kids y b e j at h))
span_join n x (down s) (tree set kids more) y b e (is_down j) at (inr (inr h)) = inr (inr (subst (λ k. IsSpan (n + 1 + k) more y b e) (sym (size_join x s kids j at)) h))
span_join n x (along s) empty y b e j at h = absurd at
span_join n x (along s) (tree set kids more) y b e (is_along j) at (inl h) = inl h
span_join n x (along s) (tree set kids more) y b e (is_along j) at (inr (inl h)) = inr (inl h)
span_join n x (along s) (tree set kids more) y b e (is_along j) at (inr (inr h)) = inr (inr (span_join (n + 1 + size kids) x s more y b e j at h))

-- the step joins the tree node of a node
abbrev pub JoinsAt : ℕ → Spot → Forest (List ℕ) → Type 0
JoinsAt at s empty = ⊥
JoinsAt at join (tree set kids more) = IsAmong set at
JoinsAt at (wrap k) (tree set kids more) = ⊥
JoinsAt at (down s) (tree set kids more) = JoinsAt at s kids
JoinsAt at (along s) (tree set kids more) = JoinsAt at s more

pub joins_join : (at : ℕ) (s : Spot) (F : Forest (List ℕ)) → JoinsAt at s F → IsJoin s × IsSpot s F
joins_join at s empty h = absurd h
joins_join at join (tree set kids more) h = (is_join, tt)
joins_join at (wrap k) (tree set kids more) h = absurd h
joins_join at (down s) (tree set kids more) h = let r = joins_join at s kids h in (is_down r.0, r.1)
joins_join at (along s) (tree set kids more) h = let r = joins_join at s more h in (is_along r.0, r.1)

-- the new node has the places of the one that it joins
pub record Shares (n x at : ℕ) (s : Spot) (F : Forest (List ℕ)) : Type 0 where
  pub first : ℕ
  pub behind : ℕ
  pub old : IsSpan n F at first behind
  pub new : IsSpan n (after x s F) x first behind

pub joins_shares : (n x at : ℕ) (s : Spot) (F : Forest (List ℕ)) → JoinsAt at s F → Shares n x at s F
joins_shares n x at s empty h = absurd h
joins_shares n x at join (tree set kids more) h =
    record { first = n; behind = n + 1 + size kids; old = inl (h, refl, refl); new = inl (put-new x set, refl, refl) }
joins_shares n x at (wrap k) (tree set kids more) h = absurd h
joins_shares n x at (down s) (tree set kids more) h =
    let r = joins_shares (n + 1) x at s kids h in record { first = r.first; behind = r.behind; old = inr (inl r.old); new = inr (inl r.new) }
joins_shares n x at (along s) (tree set kids more) h =
    let r = joins_shares (n + 1 + size kids) x at s more h in record { first = r.first; behind = r.behind; old = inr (inr r.old); new = inr (inr r.new) }

pub size_split : {A : Type 0} (k : ℕ) (F : Forest A) → size (first_trees k F) + size (trees_behind k F) ≡ size F
size_split zero F = omega arith
size_split (suc k) empty = omega arith
size_split (suc k) (tree a kids more) = let h : size (first_trees k more) + size (trees_behind k more) ≡ size more = size_split k more in omega arith

pub size_wrap : (x l n : ℕ) (s : Spot) (F : Forest (List ℕ)) (c p q : ℕ) → IsWrap l n F s c p q → size (after x s F) ≡ suc (size F)
size_wrap x l n join empty c p q w = absurd w
size_wrap x l n join (tree set kids more) c p q w = absurd w
size_wrap x l n (wrap k) F c p q w = ap (λ i. suc i) (size_split k F)
size_wrap x l n (down s) empty c p q w = absurd w
size_wrap x l n (down s) (tree set kids more) c p q w =
    let h : size (after x s kids) ≡ suc (size kids) = size_wrap x (n + 1) (n + 1) s kids c p q w in omega arith
size_wrap x l n (along s) empty c p q w = absurd w
size_wrap x l n (along s) (tree set kids more) c p q w =
    let h : size (after x s more) ≡ suc (size more) = size_wrap x l (n + 1 + size kids) s more c p q w in omega arith

-- bounds of the places of a new tree node
pub record WrapWithin (l n m c p q : ℕ) : Type 0 where
  pub start : (c ≡ l) ⊎ (n < c)
  pub list : c ≤ p
  pub low : n ≤ p
  pub order : p ≤ q
  pub high : q ≤ m

pub wrap_within : (l n : ℕ) (s : Spot) (F : Forest (List ℕ)) (c p q : ℕ) → l ≤ n → IsWrap l n F s c p q → WrapWithin l n (n + size F) c p q
wrap_within l n join empty c p q h w = absurd w
wrap_within l n join (tree set kids more) c p q h w = absurd w
wrap_within l n (wrap k) F c p q h w =
    let a : c ≡ l = w.0 in
    let b : p ≡ n = w.1 in
    let d : q ≡ n + size (first_trees k F) = w.2 in
    let e : size (first_trees k F) + size (trees_behind k F) ≡ size F = size_split k F in
    record { start = inl a; list = omega arith; low = omega arith; order = omega arith; high = omega arith }
wrap_within l n (down s) empty c p q h w = absurd w
wrap_within l n (down s) (tree set kids more) c p q h w =
    let r = wrap_within (n + 1) (n + 1) s kids c p q (omega arith) w in
    let a : n + 1 ≤ p = r.low in
    let b : q ≤ n + 1 + size kids = r.high in
    let d : n < c = elim r.start [ inl u ↦ omega arith | inr v ↦ omega arith ] in
    record { start = inr d; list = r.list; low = omega arith; order = r.order; high = omega arith }
wrap_within l n (along s) empty c p q h w = absurd w
wrap_within l n (along s) (tree set kids more) c p q h w =
    let r = wrap_within l (n + 1 + size kids) s more c p q (omega arith) w in
    let a : n + 1 + size kids ≤ p = r.low in
    let b : q ≤ n + 1 + size kids + size more = r.high in
    record { start = elim r.start [ inl u ↦ inl u | inr v ↦ inr (omega arith) ]; list = r.list; low = omega arith; order = r.order; high = omega arith }

-- a forest that begins one place later
pub span_later : (n k : ℕ) (F : Forest (List ℕ)) (y b e : ℕ) → IsSpan n F y b e → IsSpan (n + k) F y (b + k) (e + k)
span_later n k empty y b e h = absurd h
span_later n k (tree set kids more) y b e (inl h) = let p : b ≡ n = h.1 in let q : e ≡ n + 1 + size kids = h.2 in inl (h.0, omega arith, omega arith)
span_later n k (tree set kids more) y b e (inr (inl h)) =
    let q : n + 1 + k ≡ n + k + 1 = omega arith in inr (inl (subst (λ i. IsSpan i kids y (b + k) (e + k)) q (span_later (n + 1) k kids y b e h)))
span_later n k (tree set kids more) y b e (inr (inr h)) =
    let q : n + 1 + size kids + k ≡ n + k + 1 + size kids = omega arith in inr (inr (subst (λ i. IsSpan i more y (b + k) (e + k)) q (span_later (n + 1 + size kids) k more y b e h)))

pub span_split : (n k : ℕ) (F : Forest (List ℕ)) (y b e : ℕ) → IsSpan n F y b e → IsSpan n (first_trees k F) y b e ⊎ IsSpan (n + size (first_trees k F)) (trees_behind k F) y b e
span_split n zero F y b e h = let q : n ≡ n + 0 = omega arith in inr (subst (λ i. IsSpan i F y b e) q h)
span_split n (suc k) empty y b e h = absurd h
span_split n (suc k) (tree set kids more) y b e (inl h) = inl (inl h)
span_split n (suc k) (tree set kids more) y b e (inr (inl h)) = inl (inr (inl h))
span_split n (suc k) (tree set kids more) y b e (inr (inr h)) =
    let q : n + 1 + size kids + size (first_trees k more) ≡ n + suc (size kids + size (first_trees k more)) = omega arith in
    elim (span_split (n + 1 + size kids) k more y b e h) [ inl j ↦ inl (inr (inr j)) | inr j ↦ inr (subst (λ i. IsSpan i (trees_behind k more) y b e) q j) ]

-- the places of an old node after a new tree node came in
pub record IsShifted (n x : ℕ) (s : Spot) (F : Forest (List ℕ)) (c p y b e : ℕ) : Type 0 where
  pub first : ℕ
  pub behind : ℕ
  pub shifts : Shifts c p b e first behind
  pub is : IsSpan n (after x s F) y first behind

pub span_wrap : (l n x : ℕ) (s : Spot) (F : Forest (List ℕ)) (c p q y b e : ℕ) → l ≤ n → IsWrap l n F s c p q → IsSpan n F y b e → IsShifted n x s F c p y b e
span_wrap l n x join empty c p q y b e low w h = absurd w
span_wrap l n x join (tree set kids more) c p q y b e low w h = absurd w
span_wrap l n x (wrap k) F c p q y b e low w h =
    let at : p ≡ n = w.1 in
    let r = (span_within n F y b e h).low in
    let z : n + size (first_trees k F) + 1 ≡ n + 1 + size (first_trees k F) = omega arith in
    record {
      first = b + 1;
      behind = e + 1;
      shifts = moves (omega arith) refl refl;
      is = inr (elim (span_split n k F y b e h) [
        | inl j ↦ inl (span_later n 1 (first_trees k F) y b e j)
        | inr j ↦ inr (subst (λ i. IsSpan i (trees_behind k F) y (b + 1) (e + 1)) z (span_later (n + size (first_trees k F)) 1 (trees_behind k F) y b e j))
      ]);
    }
span_wrap l n x (down s) empty c p q y b e low w h = absurd w
span_wrap l n x (down s) (tree set kids more) c p q y b e low w (inl h) =
    let r = wrap_within (n + 1) (n + 1) s kids c p q (omega arith) w in
    let r0 : c ≤ p = r.list in
    let r1 : n + 1 ≤ p = r.low in
    let r2 : p ≤ q = r.order in
    let r3 : q ≤ n + 1 + size kids = r.high in
    let r4 : n + 1 ≤ c = elim r.start [ inl u ↦ omega arith | inr v ↦ omega arith ] in
    let a : b ≡ n = h.1 in
    let d : e ≡ n + 1 + size kids = h.2 in
    let z : size (after x s kids) ≡ suc (size kids) = size_wrap x (n + 1) (n + 1) s kids c p q w in
    record { first = b; behind = e + 1; shifts = grows (omega arith) (omega arith) (omega arith) (omega arith) refl refl; is = inl (h.0, a, omega arith) }
span_wrap l n x (down s) (tree set kids more) c p q y b e low w (inr (inl h)) =
    let r = span_wrap (n + 1) (n + 1) x s kids c p q y b e (omega arith) w h in record { first = r.first; behind = r.behind; shifts = r.shifts; is = inr (inl r.is) }
span_wrap l n x (down s) (tree set kids more) c p q y b e low w (inr (inr h)) =
    let r = wrap_within (n + 1) (n + 1) s kids c p q (omega arith) w in
    let r2 : p ≤ q = r.order in
    let r3 : q ≤ n + 1 + size kids = r.high in
    let t : n + 1 + size kids ≤ b = (span_within (n + 1 + size kids) more y b e h).low in
    let z : size (after x s kids) ≡ suc (size kids) = size_wrap x (n + 1) (n + 1) s kids c p q w in
    let v : n + 1 + size kids + 1 ≡ n + 1 + size (after x s kids) = omega arith in
    record {
      first = b + 1;
      behind = e + 1;
      shifts = moves (omega arith) refl refl;
      is = inr (inr (subst (λ i. IsSpan i more y (b + 1) (e + 1)) v (span_later (n + 1 + size kids) 1 more y b e h)));
    }
span_wrap l n x (along s) empty c p q y b e low w h = absurd w
span_wrap l n x (along s) (tree set kids more) c p q y b e low w (inl h) =
    let r = wrap_within l (n + 1 + size kids) s more c p q (omega arith) w in
    let r1 : n + 1 + size kids ≤ p = r.low in
    let a : b ≡ n = h.1 in
    let d : e ≡ n + 1 + size kids = h.2 in
    record {
      first = b;
      behind = e;
      shifts = stays (elim r.start [ inl u ↦ inr (omega arith) | inr v ↦ inl (omega arith) ]) (omega arith) (omega arith) refl refl;
      is = inl h;
    }
span_wrap l n x (along s) (tree set kids more) c p q y b e low w (inr (inl h)) =
    let r = wrap_within l (n + 1 + size kids) s more c p q (omega arith) w in
    let r1 : n + 1 + size kids ≤ p = r.low in
    let t = span_within (n + 1) kids y b e h in
    let t0 : n + 1 ≤ b = t.low in
    let t1 : b < e = t.some in
    let t2 : e ≤ n + 1 + size kids = t.high in
    record {
      first = b;
      behind = e;
      shifts = stays (elim r.start [ inl u ↦ inr (omega arith) | inr v ↦ inl (omega arith) ]) (omega arith) (omega arith) refl refl;
      is = inr (inl h);
    }
span_wrap l n x (along s) (tree set kids more) c p q y b e low w (inr (inr h)) =
    let r = span_wrap l (n + 1 + size kids) x s more c p q y b e (omega arith) w h in record { first = r.first; behind = r.behind; shifts = r.shifts; is = inr (inr r.is) }

-- the places of the new node
pub span_new : (l n x : ℕ) (s : Spot) (F : Forest (List ℕ)) (c p q : ℕ) → IsWrap l n F s c p q → IsSpan n (after x s F) x p (q + 1)
span_new l n x join empty c p q w = absurd w
span_new l n x join (tree set kids more) c p q w = absurd w
span_new l n x (wrap k) F c p q w = let d : q ≡ n + size (first_trees k F) = w.2 in inl (inl refl, w.1, omega arith)
span_new l n x (down s) empty c p q w = absurd w
span_new l n x (down s) (tree set kids more) c p q w = inr (inl (span_new (n + 1) (n + 1) x s kids c p q w))
span_new l n x (along s) empty c p q w = absurd w
span_new l n x (along s) (tree set kids more) c p q w = inr (inr (span_new l (n + 1 + size kids) x s more c p q w))
