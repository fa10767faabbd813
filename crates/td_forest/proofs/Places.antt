-- Arrays of places, and what the calls make of them.
use Rattle.std.specs.Prelude.{◌≡◌, ◌≢◌, ℕ, zero, suc, ◌+◌, ◌-◌, ◌<◌, ◌≤◌, List, [], ◌∷◌, ◌++◌, ◌⊎◌, ⊤, Bool, true, false, Option, Some, None, length, refl}
use Rattle.std.proofs.Common.{inl, inr, subst, sym, ◌∙◌, arith, get_or, set, add-one}
use Rattle.std.proofs.lemmas.Bool.{cases_eq, false_from_ne_true}
use Rattle.std.proofs.lemmas.List.{get_or-set_same, get_or-set_other}
use Rattle.gr_base.specs.Lists.{IsAmong}
use Rattle.gr_base.specs.Forests.{Forest, empty, tree, size}
use Rattle.td_forest.specs.declared.Step.{Step}
use Rattle.td_forest.specs.declared.Step.TheVariants.{Merge, Insert}
use Rattle.td_forest.specs.declared.Made.{Made}
use Rattle.td_forest.specs.declared.Relation.TheVariants.{Same, Over, Under, Left, Right}
use Rattle.td_forest.specs.Nodes.{IsIn}
use Rattle.td_forest.proofs.Twins.{AllOnce, AllRise, RelatesIn}
use Rattle.td_forest.specs.Steps.{width, first_trees, trees_behind, kids_of, IsStep, CanMake, grown, forest_of, IsGrown, after_step}
use Rattle.td_forest.specs.Spots.{Spot, join, wrap, down, along, after, IsSpot, spot_into, insertion, spot_of}
use Rattle.td_forest.specs.Spans.{IsSpan, StartsAt, IsWrap, Shifts, moves, grows, stays, IsShiftedOn, moved_on, has_grown, has_stayed, IsShiftedBack, moved_back, has_shrunk, has_kept, AreShiftedOn, AreShiftedBack, IsTreeEnd, AreSkipped, IsStart, free, ArePlaces}
use Rattle.td_forest.proofs.Growing.{once_after, rise_after, in_after, in_or_new}
use Rattle.td_forest.proofs.StepSpots.{step-spot}
use Rattle.td_forest.proofs.Stepping.{after-there}
use Rattle.td_forest.proofs.SpanLemmas.{span_in, span_of, span_unique, span_same, span_end, span_over, span_left, IsJoin}
use Rattle.td_forest.proofs.Shifting.{JoinsAt, joins_join, joins_shares, span_join, span_wrap, span_new, size_split}
use Rattle.td_forest.proofs.Named.{into_joins, wrap_insertion, has_kids, starts_self, starts_next, span_starts}

-- no set is empty
abbrev pub AllFull : Forest (List ℕ) → Type 0
AllFull empty = ⊤
AllFull (tree set kids more) = (set ≡ [] → ⊥) × AllFull kids × AllFull more

pub rise_full : (F : Forest (List ℕ)) → AllRise F → AllFull F
rise_full empty h = tt
rise_full (tree set kids more) h = (h.0, rise_full kids h.2, rise_full more h.3)

pub size_after : (x : ℕ) (s : Spot) (F : Forest (List ℕ)) → size (after x s F) ≤ suc (size F)
size_after x join empty = omega arith
size_after x join (tree set kids more) = omega arith
size_after x (wrap n) F = let h : size (first_trees n F) + size (trees_behind n F) ≡ size F = size_split n F in omega arith
size_after x (down s) empty = omega arith
size_after x (down s) (tree set kids more) = let h : size (after x s kids) ≤ suc (size kids) = size_after x s kids in omega arith
size_after x (along s) empty = omega arith
size_after x (along s) (tree set kids more) = let h : size (after x s more) ≤ suc (size more) = size_after x s more in omega arith

-- the named step has its place
insertion_spot : (i k : ℕ) (F : Forest (List ℕ)) → i + k ≤ width F → IsSpot (insertion i k) F
insertion_spot zero k F h = omega arith
insertion_spot (suc i) k empty h = omega arith
insertion_spot (suc i) k (tree set kids more) h = insertion_spot i k more (omega arith)

pub spot_there : (s : Step) (F : Forest (List ℕ)) → AllOnce F → IsStep F s → IsSpot (spot_of s F) F
spot_there (Merge at) F once h = (joins_join at (spot_into at F) F (into_joins at F once h)).1
spot_there (Insert None from to) F once h = let a = h.0 in let b = h.1 in insertion_spot from (to - from) F (omega arith)
spot_there (Insert (Some u) from to) F once h =
    let a = h.1 in let b = h.2 in (has_kids 0 u F once h.0).spots (insertion from (to - from)) (insertion_spot from (to - from) (kids_of u F) (omega arith))

-- steps in turn
pub grown_push : (ms : List Made) (m : Made) (F : Forest (List ℕ)) → grown F (ms ++ m ∷ []) ≡ after_step m.node m.step (grown F ms)
grown_push [] m F = refl
grown_push (k ∷ ms) m F = grown_push ms m (after_step k.node k.step F)

pub IsGrown-push : (ms : List Made) (m : Made) (F : Forest (List ℕ)) → IsGrown F ms → CanMake (grown F ms) m → IsGrown F (ms ++ m ∷ [])
IsGrown-push [] m F h k = (k, tt)
IsGrown-push (j ∷ ms) m F h k = (h.0, IsGrown-push ms m (after_step j.node j.step F) h.1 k)

pub IsGrown-last : (ms : List Made) (m : Made) (F : Forest (List ℕ)) → IsGrown F (ms ++ m ∷ []) → IsGrown F ms × CanMake (grown F ms) m
IsGrown-last [] m F h = (tt, h.0)
IsGrown-last (j ∷ ms) m F h = let r = IsGrown-last ms m (after_step j.node j.step F) h.1 in ((h.0, r.0), r.1)

-- each node stands once, in a set that rises
pub record Is (F : Forest (List ℕ)) : Type 0 where
  pub once : AllOnce F
  pub rise : AllRise F

pub made_is : (m : Made) (F : Forest (List ℕ)) → CanMake F m → Is F → Is (after_step m.node m.step F)
made_is m F can is = subst (λ G. Is G) (sym (step-spot m.node m.step F is.once can.step)) (record {
  once = once_after m.node (spot_of m.step F) F is.once can.new;
  rise = rise_after m.node (spot_of m.step F) F is.rise can.new;
})

pub grown_is : (ms : List Made) (F : Forest (List ℕ)) → IsGrown F ms → Is F → Is (grown F ms)
grown_is [] F h is = is
grown_is (m ∷ ms) F h is = grown_is ms (after_step m.node m.step F) h.1 (made_is m F h.0 is)

pub steps_is : (ms : List Made) → IsGrown empty ms → Is (forest_of ms)
steps_is ms h = grown_is ms empty h (record { once = tt; rise = tt })

-- how many are false
pub free_some : (bs : List Bool) (k : ℕ) → k < length bs → get_or bs k false ≡ false → 0 < free bs
free_some [] k h e = omega arith
free_some (b ∷ bs) zero h e = rw e (omega arith)
free_some (true ∷ bs) (suc k) h e = let r : 0 < free bs = free_some bs k (omega arith) e in omega arith
free_some (false ∷ bs) (suc k) h e = omega arith

pub free_set : (bs : List Bool) (k : ℕ) → k < length bs → get_or bs k false ≡ false → free (set bs k true) + 1 ≡ free bs
free_set [] k h e = omega arith
free_set (b ∷ bs) zero h e = rw e (omega arith)
free_set (b ∷ bs) (suc k) h e = let r : free (set bs k true) + 1 ≡ free bs = free_set bs k (omega arith) e in omega arith

pub free_unset : (bs : List Bool) (k : ℕ) → k < length bs → get_or bs k false ≡ true → free (set bs k false) ≡ free bs + 1
free_unset [] k h e = omega arith
free_unset (b ∷ bs) zero h e = rw e (omega arith)
free_unset (b ∷ bs) (suc k) h e = let r : free (set bs k false) ≡ free bs + 1 = free_unset bs k (omega arith) e in omega arith

-- a node that is not there is marked so
pub here_false : (F : Forest (List ℕ)) (here : List Bool) (first behind : List ℕ) (y : ℕ) → ArePlaces F here first behind → (IsIn F y → ⊥) → get_or here y false ≡ false
here_false F here first behind y p new = false_from_ne_true (get_or here y false) (λ e. new (p.only y e))

-- a node more
pub places_put : (F G : Forest (List ℕ)) (here : List Bool) (first behind : List ℕ) (x p q : ℕ) → x < 24 → length here ≡ 24 → length first ≡ 24 → length behind ≡ 24
    → ((y : ℕ) → IsIn F y → (y < 24) × (get_or here y false ≡ true)) → ((y : ℕ) → get_or here y false ≡ true → IsIn F y)
    → ((y : ℕ) → IsIn F y → IsIn G y) → ((y : ℕ) → IsIn G y → IsIn F y ⊎ (y ≡ x)) → IsIn G x
    → ((y : ℕ) → IsIn F y → y ≢ x → IsSpan 0 G y (get_or first y 0) (get_or behind y 0)) → IsSpan 0 G x p q
    → ArePlaces G (set here x true) (set first x p) (set behind x q)
places_put F G here first behind x p q low len_here len_first len_behind there only grow from new old here_x = record {
  low = λ y i. elim (from y i) [ inl j ↦ (there y j).0 | inr e ↦ rw e low ];
  there = λ y i. elim (cases_eq y x) [
    | inl e ↦ rw e (get_or-set_same here x true false (omega arith))
    | inr ne ↦ get_or-set_other here x y true false ne ∙ elim (from y i) [ inl j ↦ (there y j).1 | inr e ↦ absurd (ne e) ]
  ];
  only = λ y e. elim (cases_eq y x) [
    | inl q ↦ rw q new
    | inr ne ↦ grow y (only y (sym (get_or-set_other here x y true false ne) ∙ e))
  ];
  spans = λ y i. elim (cases_eq y x) [
    | inl e ↦ rw (e, get_or-set_same first x p 0 (omega arith), get_or-set_same behind x q 0 (omega arith)) here_x
    | inr ne ↦ rw (get_or-set_other first x y p 0 ne, get_or-set_other behind x y q 0 ne) (old y (elim (from y i) [ inl j ↦ j | inr e ↦ absurd (ne e) ]) ne)
  ];
}

-- the new node shares the places of the one that it joins
pub places_merge : (F : Forest (List ℕ)) (here : List Bool) (first behind : List ℕ) (x at : ℕ) → AllOnce F → length here ≡ 24 → length first ≡ 24 → length behind ≡ 24
    → x < 24 → (IsIn F x → ⊥) → IsIn F at → ArePlaces F here first behind
    → ArePlaces (after x (spot_into at F) F) (set here x true) (set first x (get_or first at 0)) (set behind x (get_or behind at 0))
places_merge F here first behind x at once lh lf lb low new is p =
    let s = spot_into at F in
    let joins : JoinsAt at s F = into_joins at F once is in
    let j = joins_join at s F joins in
    let r = joins_shares 0 x at s F joins in
    let u = span_unique 0 F at r.first r.behind (get_or first at 0) (get_or behind at 0) once r.old (p.spans at is) in
    let span : IsSpan 0 (after x s F) x (get_or first at 0) (get_or behind at 0) =
    subst (λ b. IsSpan 0 (after x s F) x b (get_or behind at 0)) u.0 (subst (λ e. IsSpan 0 (after x s F) x r.first e) u.1 r.new) in
    places_put F (after x s F) here first behind x (get_or first at 0) (get_or behind at 0) low lh lf lb (λ y i. (p.low y i, p.there y i)) p.only
    (λ y i. in_after x s F y i j.1) (λ y i. in_or_new x s F y i) (after-there x s F j.1)
    (λ y i ne. span_join 0 x s F y (get_or first y 0) (get_or behind y 0) j.0 j.1 (p.spans y i)) span

-- the code's three cases are those of the forest
pub moved_shifts : (c p b e b1 e1 b2 e2 : ℕ) → Shifts c p b e b1 e1 → IsShiftedOn c p b e b2 e2 → (b1 ≡ b2) × (e1 ≡ e2)
moved_shifts c p b e b1 e1 b2 e2 (moves h i j) (moved_on k l m) = (i ∙ sym l, j ∙ sym m)
moved_shifts c p b e b1 e1 b2 e2 (moves h i j) (has_grown k l m n o) = absurd (omega arith)
moved_shifts c p b e b1 e1 b2 e2 (moves h i j) (has_stayed k l m n) = absurd (omega arith)
moved_shifts c p b e b1 e1 b2 e2 (grows h i j r s t) (moved_on k l m) = absurd (omega arith)
moved_shifts c p b e b1 e1 b2 e2 (grows h i j r s t) (has_grown k l m n o) = (s ∙ sym n, t ∙ sym o)
moved_shifts c p b e b1 e1 b2 e2 (grows h i j r s t) (has_stayed k l m n) = absurd (elim l [ inl u ↦ omega arith | inr u ↦ omega arith ])
moved_shifts c p b e b1 e1 b2 e2 (stays h i r s t) (moved_on k l m) = absurd (omega arith)
moved_shifts c p b e b1 e1 b2 e2 (stays h i r s t) (has_grown k l m n o) = absurd (elim h [ inl u ↦ omega arith | inr u ↦ omega arith ])
moved_shifts c p b e b1 e1 b2 e2 (stays h i r s t) (has_stayed k l m n) = (s ∙ sym m, t ∙ sym n)

-- an old node's places after a new tree node came in
insert_old : (F : Forest (List ℕ)) (here : List Bool) (first behind first' behind' : List ℕ) (x : ℕ) (s : Spot) (c p q : ℕ) → IsWrap 0 0 F s c p q → ArePlaces F here first behind
    → AreShiftedOn c p here first behind first' behind' → (y : ℕ) → IsIn F y → IsSpan 0 (after x s F) y (get_or first' y 0) (get_or behind' y 0)
insert_old F here first behind first' behind' x s c p q w pl moved y i =
    let b = get_or first y 0 in
    let e = get_or behind y 0 in
    let r = span_wrap 0 0 x s F c p q y b e (omega arith) w (pl.spans y i) in
    let same = moved_shifts c p b e r.first r.behind (get_or first' y 0) (get_or behind' y 0) r.shifts (moved y (pl.there y i)) in
    subst (λ k. IsSpan 0 (after x s F) y k (get_or behind' y 0)) same.0 (subst (λ k. IsSpan 0 (after x s F) y r.first k) same.1 r.is)

-- a new tree node
pub places_insert : (F : Forest (List ℕ)) (here : List Bool) (first behind first' behind' : List ℕ) (x : ℕ) (s : Spot) (c p q : ℕ) → AllOnce F
    → length here ≡ 24 → length first' ≡ 24 → length behind' ≡ 24 → x < 24 → (IsIn F x → ⊥) → IsSpot s F → IsWrap 0 0 F s c p q → ArePlaces F here first behind
    → AreShiftedOn c p here first behind first' behind' → ArePlaces (after x s F) (set here x true) (set first' x p) (set behind' x (q + 1))
places_insert F here first behind first' behind' x s c p q once lh lf lb low new at w pl moved =
    places_put F (after x s F) here first' behind' x p (q + 1) low lh lf lb (λ y i. (pl.low y i, pl.there y i)) pl.only
    (λ y i. in_after x s F y i at) (λ y i. in_or_new x s F y i) (after-there x s F at)
    (λ y i ne. insert_old F here first behind first' behind' x s c p q w pl moved y i)
    (span_new 0 0 x s F c p q w)

-- a node less
pub places_take : (F G : Forest (List ℕ)) (here : List Bool) (first behind first' behind' : List ℕ) (x : ℕ) → x < 24 → length here ≡ 24
    → ArePlaces G here first behind → (IsIn F x → ⊥) → ((y : ℕ) → IsIn F y → IsIn G y) → ((y : ℕ) → IsIn G y → IsIn F y ⊎ (y ≡ x))
    → ((y : ℕ) → IsIn F y → get_or (set here x false) y false ≡ true → IsSpan 0 F y (get_or first' y 0) (get_or behind' y 0))
    → ArePlaces F (set here x false) first' behind'
places_take F G here first behind first' behind' x low lh pl new grow from old = record {
  low = λ y i. pl.low y (grow y i);
  there = λ y i. let ne : y ≢ x = (λ (e : y ≡ x). new (subst (λ z. IsIn F z) e i)) in get_or-set_other here x y false false ne ∙ pl.there y (grow y i);
  only = λ y e. elim (cases_eq y x) [
    | inl q ↦ let f : get_or (set here x false) x false ≡ false = get_or-set_same here x false false (omega arith) in let g : get_or (set here x false) x false ≡ true = subst (λ z. get_or (set here x false) z false ≡ true) q e in absurd cc
    | inr ne ↦ elim (from y (pl.only y (sym (get_or-set_other here x y false false ne) ∙ e))) [ inl j ↦ j | inr q ↦ absurd (ne q) ]
  ];
  spans = λ y i. old y i (let ne : y ≢ x = (λ (e : y ≡ x). new (subst (λ z. IsIn F z) e i)) in get_or-set_other here x y false false ne ∙ pl.there y (grow y i));
}

unmerge_old : (F : Forest (List ℕ)) (here : List Bool) (first behind : List ℕ) (x : ℕ) (s : Spot) → AllOnce (after x s F) → IsJoin s → IsSpot s F
    → ArePlaces (after x s F) here first behind → (y : ℕ) → IsIn F y → IsSpan 0 F y (get_or first y 0) (get_or behind y 0)
unmerge_old F here first behind x s once j at pl y i =
    let r = span_of 0 F y i in
    let u = span_unique 0 (after x s F) y r.first r.behind (get_or first y 0) (get_or behind y 0) once (span_join 0 x s F y r.first r.behind j at r.is) (pl.spans y (in_after x s F y i at)) in
    subst (λ k. IsSpan 0 F y k (get_or behind y 0)) u.0 (subst (λ k. IsSpan 0 F y r.first k) u.1 r.is)

pub places_unmerge : (F : Forest (List ℕ)) (here : List Bool) (first behind : List ℕ) (x at : ℕ) → AllOnce F → length here ≡ 24 → x < 24 → (IsIn F x → ⊥) → IsIn F at
    → ArePlaces (after x (spot_into at F) F) here first behind → ArePlaces F (set here x false) first behind
places_unmerge F here first behind x at once lh low new is pl =
    let s = spot_into at F in
    let j = joins_join at s F (into_joins at F once is) in
    places_take F (after x s F) here first behind first behind x low lh pl new (λ y i. in_after x s F y i j.1) (λ y i. in_or_new x s F y i)
    (λ y i h. unmerge_old F here first behind x s (once_after x s F once new) j.0 j.1 pl y i)

pub shifts_back : (c p b e b1 e1 b2 e2 : ℕ) → Shifts c p b e b1 e1 → IsShiftedBack p b1 e1 b2 e2 → (b ≡ b2) × (e ≡ e2)
shifts_back c p b e b1 e1 b2 e2 (moves h i j) (moved_back k l m) = (omega arith, omega arith)
shifts_back c p b e b1 e1 b2 e2 (moves h i j) (has_shrunk k l m n) = absurd (omega arith)
shifts_back c p b e b1 e1 b2 e2 (moves h i j) (has_kept k l m n) = absurd (omega arith)
shifts_back c p b e b1 e1 b2 e2 (grows h i j r s t) (moved_back k l m) = absurd (omega arith)
shifts_back c p b e b1 e1 b2 e2 (grows h i j r s t) (has_shrunk k l m n) = (omega arith, omega arith)
shifts_back c p b e b1 e1 b2 e2 (grows h i j r s t) (has_kept k l m n) = absurd (omega arith)
shifts_back c p b e b1 e1 b2 e2 (stays h i r s t) (moved_back k l m) = absurd (omega arith)
shifts_back c p b e b1 e1 b2 e2 (stays h i r s t) (has_shrunk k l m n) = absurd (omega arith)
shifts_back c p b e b1 e1 b2 e2 (stays h i r s t) (has_kept k l m n) = (omega arith, omega arith)

uninsert_old : (F : Forest (List ℕ)) (here : List Bool) (first behind first' behind' : List ℕ) (x : ℕ) (s : Spot) (c p q : ℕ) → AllOnce (after x s F) → IsSpot s F → IsWrap 0 0 F s c p q
    → ArePlaces (after x s F) here first behind → AreShiftedBack (get_or first x 0) (set here x false) first behind first' behind'
    → (y : ℕ) → IsIn F y → get_or (set here x false) y false ≡ true → IsSpan 0 F y (get_or first' y 0) (get_or behind' y 0)
uninsert_old F here first behind first' behind' x s c p q once at w pl back y i h =
    let r = span_of 0 F y i in
    let t = span_wrap 0 0 x s F c p q y r.first r.behind (omega arith) w r.is in
    let u = span_unique 0 (after x s F) y t.first t.behind (get_or first y 0) (get_or behind y 0) once t.is (pl.spans y (in_after x s F y i at)) in
    let v = span_unique 0 (after x s F) x (get_or first x 0) (get_or behind x 0) p (q + 1) once (pl.spans x (after-there x s F at)) (span_new 0 0 x s F c p q w) in
    let m : IsShiftedBack p t.first t.behind (get_or first' y 0) (get_or behind' y 0) =
    subst (λ k. IsShiftedBack p k t.behind (get_or first' y 0) (get_or behind' y 0)) (sym u.0)
    (subst (λ k. IsShiftedBack p (get_or first y 0) k (get_or first' y 0) (get_or behind' y 0)) (sym u.1)
    (subst (λ k. IsShiftedBack k (get_or first y 0) (get_or behind y 0) (get_or first' y 0) (get_or behind' y 0)) v.0 (back y h))) in
    let z = shifts_back c p r.first r.behind t.first t.behind (get_or first' y 0) (get_or behind' y 0) t.shifts m in
    subst (λ k. IsSpan 0 F y k (get_or behind' y 0)) z.0 (subst (λ k. IsSpan 0 F y r.first k) z.1 r.is)

-- the numbers of a new tree node
pub record HasWrap (s : Spot) (F : Forest (List ℕ)) : Type 0 where
  pub start : ℕ
  pub place : ℕ
  pub end : ℕ
  pub is : IsWrap 0 0 F s start place end

pub insert_wraps : (F : Forest (List ℕ)) (under : Option ℕ) (from to : ℕ) → AllOnce F → IsStep F (Insert under from to) → HasWrap (spot_of (Insert under from to) F) F
insert_wraps F None from to once h = record { start = _; place = _; end = _; is = let a = h.0 in let b = h.1 in wrap_insertion 0 0 from (to - from) F (omega arith) }
insert_wraps F (Some u) from to once h =
    let r = has_kids 0 u F once h.0 in
    let a = h.1 in
    let b = h.2 in
    record { start = _; place = _; end = _; is = r.wraps 0 (insertion from (to - from)) _ _ _ (wrap_insertion (r.first + 1) (r.first + 1) from (to - from) (kids_of u F) (omega arith)) }

pub places_uninsert : (F : Forest (List ℕ)) (here : List Bool) (first behind first' behind' : List ℕ) (x : ℕ) (under : Option ℕ) (from to : ℕ) → AllOnce F → length here ≡ 24 → x < 24
    → (IsIn F x → ⊥) → IsStep F (Insert under from to) → ArePlaces (after x (spot_of (Insert under from to) F) F) here first behind
    → AreShiftedBack (get_or first x 0) (set here x false) first behind first' behind' → ArePlaces F (set here x false) first' behind'
places_uninsert F here first behind first' behind' x under from to once lh low new is pl back =
    let s = spot_of (Insert under from to) F in
    let at : IsSpot s F = spot_there (Insert under from to) F once is in
    let w = insert_wraps F under from to once is in
    places_take F (after x s F) here first behind first' behind' x low lh pl new (λ y i. in_after x s F y i at) (λ y i. in_or_new x s F y i)
    (uninsert_old F here first behind first' behind' x s w.start w.place w.end (once_after x s F once new) at w.is pl back)

-- where the children of a node begin
pub start_none : (made : List Made) → IsStart made None 0
start_none made = (starts_self 0 (forest_of made), λ s c p q w. w)

pub start_some : (made : List Made) (here : List Bool) (first behind : List ℕ) (u : ℕ) → AllOnce (forest_of made) → ArePlaces (forest_of made) here first behind → IsIn (forest_of made) u
    → IsStart made (Some u) (get_or first u 0 + 1)
start_some made here first behind u once pl i =
    let r = has_kids 0 u (forest_of made) once i in
    let v = span_unique 0 (forest_of made) u r.first r.behind (get_or first u 0) (get_or behind u 0) once r.is (pl.spans u i) in
    subst (λ k. IsStart made (Some u) (k + 1)) v.0 (r.kids, λ s c p q w. r.wraps 0 s c p q w)

-- behind some trees of a list
pub starts_skip : (n : ℕ) (F : Forest (List ℕ)) (k m : ℕ) (G : Forest (List ℕ)) → StartsAt n F m G → StartsAt n F (m + size (first_trees k G)) (trees_behind k G)
starts_skip n F zero m G h = let q : m ≡ m + 0 = omega arith in subst (λ i. StartsAt n F i G) q h
starts_skip n F (suc k) m empty h = let q : m ≡ m + 0 = omega arith in subst (λ i. StartsAt n F i empty) q h
starts_skip n F (suc k) m (tree set kids more) h =
    let q : m + 1 + size kids + size (first_trees k more) ≡ m + suc (size kids + size (first_trees k more)) = omega arith in
    subst (λ i. StartsAt n F i (trees_behind k more)) q (starts_skip n F k (m + 1 + size kids) more (starts_next n F m set kids more h))

pub record NextTree (k : ℕ) (G : Forest (List ℕ)) : Type 0 where
  pub set : List ℕ
  pub kids : Forest (List ℕ)
  pub more : Forest (List ℕ)
  pub is : trees_behind k G ≡ tree set kids more
  pub sizes : size (first_trees (suc k) G) ≡ size (first_trees k G) + 1 + size kids

pub next_tree : (k : ℕ) (G : Forest (List ℕ)) → k < width G → NextTree k G
next_tree k empty h = absurd (omega arith)
next_tree zero (tree set kids more) h = record { set = set; kids = kids; more = more; is = refl; sizes = omega arith }
next_tree (suc k) (tree set kids more) h =
    let r = next_tree k more (omega arith) in
    let s = r.sizes in
    record { set = r.set; kids = r.kids; more = r.more; is = r.is; sizes = omega arith }

-- one tree more is skipped
pub skip_more : (made : List Made) (place k at end : ℕ) → AreSkipped made place k at → IsTreeEnd made at end → AreSkipped made place (k + 1) end
skip_more made place k at end skipped ends G h low =
    let r = next_tree k G (omega arith) in
    let a : at ≡ place + size (first_trees k G) = skipped G h (omega arith) in
    let b : StartsAt 0 (forest_of made) at (tree r.set r.kids r.more) =
    subst (λ H. StartsAt 0 (forest_of made) at H) r.is (subst (λ i. StartsAt 0 (forest_of made) i (trees_behind k G)) (sym a) (starts_skip 0 (forest_of made) k place G h)) in
    let e : end ≡ at + 1 + size r.kids = ends r.set r.kids r.more b in
    let s = r.sizes in
    rw add-one (omega arith)

pub skip_none : (made : List Made) (place : ℕ) → AreSkipped made place 0 place
skip_none made place G h low = omega arith

-- the end of a tree
full_starts : (n : ℕ) (F : Forest (List ℕ)) (m : ℕ) (set : List ℕ) (kids more : Forest (List ℕ)) → AllFull F → StartsAt n F m (tree set kids more) → set ≡ [] → ⊥
full_starts n empty m set kids more full h e = let q : tree set kids more ≡ empty = h.1 in cc
full_starts n (tree a f g) m set kids more full (inl h) e = let q : tree set kids more ≡ tree a f g = h.1 in let r : set ≡ a = cc in full.0 (sym r ∙ e)
full_starts n (tree a f g) m set kids more full (inr (inl h)) e = full_starts (n + 1) f m set kids more full.1 h e
full_starts n (tree a f g) m set kids more full (inr (inr h)) e = full_starts (n + 1 + size f) g m set kids more full.2 h e

record Member (set : List ℕ) : Type 0 where
  pub node : ℕ
  pub is : IsAmong set node

member : (set : List ℕ) → (set ≡ [] → ⊥) → Member set
member [] h = absurd (h refl)
member (x ∷ xs) h = record { node = x; is = inl refl }

pub end_here : (made : List Made) (here : List Bool) (first behind : List ℕ) (y place : ℕ) → AllFull (forest_of made) → ArePlaces (forest_of made) here first behind
    → get_or here y false ≡ true → get_or first y 0 ≡ place → IsTreeEnd made place (get_or behind y 0)
end_here made here first behind y place full pl is at set kids more h =
    let F = forest_of made in
    let z = member set (full_starts 0 F place set kids more full h) in
    span_end 0 F y z.node place (get_or behind y 0) (place + 1 + size kids) (subst (λ k. IsSpan 0 F y k (get_or behind y 0)) at (pl.spans y (pl.only y is)))
    (span_starts 0 F place set kids more z.node h z.is)

pub end_none : (made : List Made) (here : List Bool) (first behind : List ℕ) (place end : ℕ) → AllOnce (forest_of made) → AllFull (forest_of made) → ArePlaces (forest_of made) here first behind
    → ((k : ℕ) → k < 24 → get_or here k false ≡ true → get_or first k 0 ≡ place → ⊥) → IsTreeEnd made place end
end_none made here first behind place end once full pl none set kids more h =
    let F = forest_of made in
    let z = member set (full_starts 0 F place set kids more full h) in
    let s : IsSpan 0 F z.node place (place + 1 + size kids) = span_starts 0 F place set kids more z.node h z.is in
    let i : IsIn F z.node = span_in 0 F z.node place (place + 1 + size kids) s in
    let u = span_unique 0 F z.node (get_or first z.node 0) (get_or behind z.node 0) place (place + 1 + size kids) once (pl.spans z.node i) s in
    absurd (none z.node (pl.low z.node i) (pl.there z.node i) u.0)

-- what the code answers for a relation
module _ (made : List Made) (here : List Bool) (first behind : List ℕ) (a b : ℕ) (pl : ArePlaces (forest_of made) here first behind) (i : IsIn (forest_of made) a) (j : IsIn (forest_of made) b) where
  pub relates_same : get_or first a 0 ≡ get_or first b 0 → RelatesIn (forest_of made) a b Same
  relates_same e = span_same 0 (forest_of made) a b (get_or first a 0) (get_or behind a 0) (get_or behind b 0) (pl.spans a i)
      (subst (λ k. IsSpan 0 (forest_of made) b k (get_or behind b 0)) (sym e) (pl.spans b j))

  pub relates_over : get_or first a 0 < get_or first b 0 → get_or first b 0 < get_or behind a 0 → RelatesIn (forest_of made) a b Over
  relates_over g h = span_over 0 (forest_of made) a b (get_or first a 0) (get_or behind a 0) (get_or first b 0) (get_or behind b 0) (pl.spans a i) (pl.spans b j) g h

  pub relates_under : get_or first b 0 < get_or first a 0 → get_or first a 0 < get_or behind b 0 → RelatesIn (forest_of made) a b Under
  relates_under g h = span_over 0 (forest_of made) b a (get_or first b 0) (get_or behind b 0) (get_or first a 0) (get_or behind a 0) (pl.spans b j) (pl.spans a i) g h

  pub relates_left : get_or behind a 0 ≤ get_or first b 0 → RelatesIn (forest_of made) a b Left
  relates_left h = span_left 0 (forest_of made) a b (get_or first a 0) (get_or behind a 0) (get_or first b 0) (get_or behind b 0) (pl.spans a i) (pl.spans b j) h

  pub relates_right : get_or behind b 0 ≤ get_or first a 0 → RelatesIn (forest_of made) a b Right
  relates_right h = span_left 0 (forest_of made) b a (get_or first b 0) (get_or behind b 0) (get_or first a 0) (get_or behind a 0) (pl.spans b j) (pl.spans a i) h
