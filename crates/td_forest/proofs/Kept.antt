-- The invariant of a forest in arrays, and what the calls make of it.
use Rattle.std.specs.Prelude.{◌≡◌, ◌≢◌, ℕ, zero, suc, ◌+◌, ◌-◌, ◌<◌, ◌≤◌, List, [], ◌∷◌, ◌++◌, Bool, true, false, Option, Some, None, length, take, refl, ◌⊎◌}
use Rattle.std.proofs.Common.{inl, inr, subst, sym, ap, ◌∙◌, arith, get_or, set}
use Rattle.std.proofs.lemmas.Bool.{cases_eq, cases_lt}
use Rattle.std.proofs.lemmas.List.{get_or-set_same, get_or-set_other, take_more_set, length-set, get_or_past}
use Rattle.std.proofs.lemmas.Grind.{take_at_read}
use Rattle.gr_base.specs.Forests.{Forest, empty, tree, size}
use Rattle.td_forest.specs.declared.Step.TheVariants.{Merge, Insert}
use Rattle.td_forest.specs.declared.Made.{Made}
use Rattle.td_forest.specs.Nodes.{IsIn, IsForest}
use Rattle.td_forest.proofs.Twins.{AllOnce, AllRise}
use Rattle.td_forest.specs.Steps.{width, first_trees, trees_behind, IsStep, CanMake, grown, forest_of, IsGrown, trees_of, after_step}
use Rattle.td_forest.specs.Spots.{after, insertion, spot_of}
use Rattle.td_forest.specs.Spans.{StartsAt, IsWrap, AreShiftedOn, AreShiftedBack, IsTreeEnd, AreSkipped, IsStart, IsEndAt, at_tree, at_none, AreEnds, IsReadAt, AreTreeEnds, IsPartly, free, ArePlaces, IsKept, IsHighest}
use Rattle.td_forest.proofs.SpanLemmas.{IsWithin, span_within}
use Rattle.td_forest.proofs.Shifting.{wrap_within}
use Rattle.td_forest.proofs.Named.{wrap_insertion}
use Rattle.td_forest.proofs.StepSpots.{step-spot}
use Rattle.td_forest.proofs.Stepping.{after-there}
use Rattle.td_forest.proofs.Forming.{is_forest}
use Rattle.td_forest.proofs.Places.{AllFull, size_after, grown_push, IsGrown-push, IsGrown-last, Is, made_is, steps_is, rise_full, spot_there, free_some, free_set, free_unset, here_false, places_merge, places_insert, places_unmerge, places_uninsert, start_some, starts_skip, end_here, end_none}

-- a step at its spot
abbrev pub after_made : Made → Forest (List ℕ) → Forest (List ℕ)
after_made m F = after m.node (spot_of m.step F) F

-- each step adds one tree node at most
grown_size : (ms : List Made) (F : Forest (List ℕ)) → IsGrown F ms → Is F → size (grown F ms) ≤ size F + length ms
grown_size [] F h is = omega arith
grown_size (m ∷ ms) F h is =
    let a : size (grown (after_step m.node m.step F) ms) ≤ size (after_step m.node m.step F) + length ms =
    grown_size ms (after_step m.node m.step F) h.1 (made_is m F h.0 is) in
    let b : size (after_made m F) ≤ suc (size F) = size_after m.node (spot_of m.step F) F in
    let c : size (after_step m.node m.step F) ≡ size (after_made m F) = ap size (step-spot m.node m.step F is.once h.0.step) in
    omega arith

width_behind : {A : Type 0} (i : ℕ) (G : Forest A) → i ≤ width G → width (trees_behind i G) + i ≡ width G
width_behind zero G h = omega arith
width_behind (suc i) empty h = omega arith
width_behind (suc i) (tree a kids more) h = let r : width (trees_behind i more) + i ≡ width more = width_behind i more (omega arith) in omega arith

-- the numbers of a step are in range
in_range : (F : Forest (List ℕ)) (under : Option ℕ) (from to : ℕ) → IsStep F (Insert under from to) → (from ≤ to) × (to ≤ width (trees_of under F))
in_range F None from to h = h
in_range F (Some u) from to h = (h.1, h.2)

-- the numbers that the code finds are those of the new tree node
pub found_wrap : (made : List Made) (under : Option ℕ) (from to start place end : ℕ) → IsStart made under start → AreSkipped made start from place → AreSkipped made place (to - from) end
    → IsStep (forest_of made) (Insert under from to) → IsWrap 0 0 (forest_of made) (spot_of (Insert under from to) (forest_of made)) start place end
found_wrap made under from to start place end starts skip1 skip2 step =
    let F = forest_of made in
    let G = trees_of under F in
    let r = in_range F under from to step in
    let r0 : from ≤ to = r.0 in
    let r1 : to ≤ width G = r.1 in
    let p : place ≡ start + size (first_trees from G) = skip1 G starts.0 (omega arith) in
    let s : StartsAt 0 F place (trees_behind from G) = subst (λ i. StartsAt 0 F i (trees_behind from G)) (sym p) (starts_skip 0 F from start G starts.0) in
    let w : width (trees_behind from G) + from ≡ width G = width_behind from G (omega arith) in
    let q : end ≡ place + size (first_trees (to - from) (trees_behind from G)) = skip2 (trees_behind from G) s (omega arith) in
    let z : IsWrap start start G (insertion from (to - from)) start (start + size (first_trees from G)) (start + size (first_trees from G) + size (first_trees (to - from) (trees_behind from G))) =
    wrap_insertion start start from (to - from) G (omega arith) in
    let y : IsWrap start start G (insertion from (to - from)) start place (place + size (first_trees (to - from) (trees_behind from G))) =
    subst (λ i. IsWrap start start G (insertion from (to - from)) start i (i + size (first_trees (to - from) (trees_behind from G)))) (sym p) z in
    starts.1 (insertion from (to - from)) start place end (subst (λ i. IsWrap start start G (insertion from (to - from)) start place i) (sym q) y)

length-take-at_most : (n : ℕ) (ms : List Made) → length (take n ms) ≤ n
length-take-at_most zero ms = omega arith
length-take-at_most (suc n) [] = omega arith
length-take-at_most (suc n) (m ∷ ms) = let r : length (take n ms) ≤ n = length-take-at_most n ms in omega arith

pub still_here : (here : List Bool) (x y : ℕ) → get_or (set here x false) y false ≡ true → get_or here y false ≡ true
still_here [] x y h = h
still_here (b ∷ bs) zero zero h = cc
still_here (b ∷ bs) zero (suc y) h = h
still_here (b ∷ bs) (suc x) zero h = h
still_here (b ∷ bs) (suc x) (suc y) h = still_here bs x y h

-- a tree begins within its forest
starts_within : (n : ℕ) (F : Forest (List ℕ)) (m : ℕ) (set : List ℕ) (kids more : Forest (List ℕ)) → StartsAt n F m (tree set kids more) → m < n + size F
starts_within n empty m set kids more h = let e : tree set kids more ≡ empty = h.1 in absurd cc
starts_within n (tree a f g) m set kids more (inl h) = let e : m ≡ n = h.0 in omega arith
starts_within n (tree a f g) m set kids more (inr (inl h)) = let l : m < n + 1 + size f = starts_within (n + 1) f m set kids more h in omega arith
starts_within n (tree a f g) m set kids more (inr (inr h)) = let l : m < n + 1 + size f + size g = starts_within (n + 1 + size f) g m set kids more h in omega arith

-- the table of ends, entry by entry
pub ends_none : (here : List Bool) (first behind ends : List ℕ) → AreEnds here first behind 0 ends
ends_none here first behind ends place low = at_none (λ j h. absurd (omega arith))

pub ends_skip : (here : List Bool) (first behind ends : List ℕ) (k : ℕ) → get_or here k false ≡ false → AreEnds here first behind k ends → AreEnds here first behind (k + 1) ends
ends_skip here first behind ends k none are place low = further (are place low)
  where
    further : IsEndAt here first behind k place (get_or ends place 0) → IsEndAt here first behind (k + 1) place (get_or ends place 0)
    further (at_tree y is at e) = at_tree y is at e
    further (at_none before) = at_none (λ j h is at. elim (cases_eq j k) [
      | inl e ↦ let f : get_or here j false ≡ false = subst (λ z. get_or here z false ≡ false) (sym e) none in cc
      | inr ne ↦ before j (omega arith) is at
    ])

pub ends_more : (here : List Bool) (first behind ends : List ℕ) (k : ℕ) → get_or here k false ≡ true → get_or first k 0 < length ends → AreEnds here first behind k ends
    → AreEnds here first behind (k + 1) (set ends (get_or first k 0) (get_or behind k 0))
ends_more here first behind ends k is_here within are place low = elim (cases_eq place (get_or first k 0)) [
  | inl e ↦ at_tree k is_here (sym e) (rw e (get_or-set_same ends (get_or first k 0) (get_or behind k 0) 0 within))
  | inr ne ↦ further (get_or-set_other ends (get_or first k 0) place (get_or behind k 0) 0 ne) ne (are place low)
]
  where
    further : get_or (set ends (get_or first k 0) (get_or behind k 0)) place 0 ≡ get_or ends place 0 → (place ≡ get_or first k 0 → ⊥) → IsEndAt here first behind k place (get_or ends place 0)
        → IsEndAt here first behind (k + 1) place (get_or (set ends (get_or first k 0) (get_or behind k 0)) place 0)
    further same ne (at_tree y is at e) = at_tree y is at (same ∙ e)
    further same ne (at_none before) = at_none (λ j h is at. elim (cases_eq j k) [
      | inl e ↦ ne (sym at ∙ ap (λ z. get_or first z 0) e)
      | inr nj ↦ before j (omega arith) is at
    ])

-- a place read from the table is the end of the tree there
pub read_end : (made : List Made) (ends : List ℕ) (place end : ℕ) → AreTreeEnds made ends → IsReadAt ends place end → IsTreeEnd made place end
read_end made ends place end are read = elim (cases_lt place 24) [
  | inl l ↦ subst (λ z. IsTreeEnd made place z) (sym (read l)) (are.within place l)
  | inr g ↦ are.beyond place end g
]

module _ (made : List Made) (count : ℕ) (here : List Bool) (first behind : List ℕ) (k : IsKept made count here first behind) where
  pub kept_once : AllOnce (forest_of (take count made))
  kept_once = (steps_is (take count made) k.grown).once

  pub kept_rise : AllRise (forest_of (take count made))
  kept_rise = (steps_is (take count made) k.grown).rise

  pub kept_full : AllFull (forest_of (take count made))
  kept_full = rise_full (forest_of (take count made)) (steps_is (take count made) k.grown).rise

  pub kept_forest : IsForest (forest_of (take count made))
  kept_forest = is_forest (forest_of (take count made)) (steps_is (take count made) k.grown)

  -- all nodes are below the highest number
  pub kept_above : (most : ℕ) → IsHighest here 24 most → (x : ℕ) → IsIn (forest_of (take count made)) x → x < most
  kept_above most h x i = h.high x (k.places.low x i) (k.places.there x i)

  pub kept_least : (most : ℕ) → IsHighest here 24 most → (most ≡ 0) ⊎ IsIn (forest_of (take count made)) (most - 1)
  kept_least most h = elim h.least [ inl e ↦ inl e | inr e ↦ inr (k.places.only (most - 1) e) ]

  -- no more tree nodes than steps
  pub kept_size : size (forest_of (take count made)) ≤ 24
  kept_size =
      let a : size (forest_of (take count made)) ≤ 0 + length (take count made) = grown_size (take count made) empty k.grown (record { once = tt; rise = tt }) in
      let b : count + free here ≡ 24 = k.room in
      let c : length (take count made) ≤ count = length-take-at_most count made in
      omega arith

  pub kept_bound : (y : ℕ) → IsIn (forest_of (take count made)) y → IsWithin 0 24 (get_or first y 0) (get_or behind y 0)
  kept_bound y i =
      let r = span_within 0 (forest_of (take count made)) y (get_or first y 0) (get_or behind y 0) (k.places.spans y i) in
      let a = r.low in
      let b = r.some in
      let c : get_or behind y 0 ≤ 0 + size (forest_of (take count made)) = r.high in
      let d : size (forest_of (take count made)) ≤ 24 = kept_size in
      record { low = a; some = b; high = omega arith }

  pub kept_room : (x : ℕ) → x < 24 → length here ≡ 24 → (IsIn (forest_of (take count made)) x → ⊥) → count < 24
  kept_room x low lh new =
      let a : 0 < free here = free_some here x (omega arith) (here_false (forest_of (take count made)) here first behind x k.places new) in
      let e : count + free here ≡ 24 = k.room in
      omega arith

  end_is : (place end : ℕ) → IsEndAt here first behind 24 place end → IsTreeEnd (take count made) place end
  end_is place end (at_tree y is at e) = subst (λ z. IsTreeEnd (take count made) place z) (sym e) (end_here (take count made) here first behind y place kept_full k.places is at)
  end_is place end (at_none none) = end_none (take count made) here first behind place end kept_once kept_full k.places none

  -- the table of ends
  pub kept_ends : (ends : List ℕ) → AreEnds here first behind 24 ends → AreTreeEnds (take count made) ends
  kept_ends ends are = record {
    within = λ place low. end_is place (get_or ends place 0) (are place low);
    beyond = λ place end far set kids more h.
        let s : place < 0 + size (forest_of (take count made)) = starts_within 0 (forest_of (take count made)) place set kids more h in
        let b : size (forest_of (take count made)) ≤ 24 = kept_size in
        absurd (omega arith);
  }

  pub kept_first : (y : ℕ) → get_or here y false ≡ true → get_or first y 0 < 24
  kept_first y h =
      let b = kept_bound y (k.places.only y h) in
      let p : get_or first y 0 < get_or behind y 0 = b.some in
      let q : get_or behind y 0 ≤ 24 = b.high in
      omega arith

  pub kept_start : (u : ℕ) → IsIn (forest_of (take count made)) u → IsStart (take count made) (Some u) (get_or first u 0 + 1)
  kept_start u i = start_some (take count made) here first behind u kept_once k.places i

  -- with a step more
  pub kept_put : (m : Made) (first' behind' : List ℕ) → length here ≡ 24 → CanMake (forest_of (take count made)) m
      → ArePlaces (after_made m (forest_of (take count made))) (set here m.node true) first' behind' → IsKept (set made count m) (count + 1) (set here m.node true) first' behind'
  kept_put m first' behind' lh can pl =
      let low : count < 24 = kept_room m.node can.low lh can.new in
      let lm : length made ≡ 24 = k.cells in
      let lt : count < length made = omega arith in
      let new : get_or here m.node false ≡ false = here_false (forest_of (take count made)) here first behind m.node k.places can.new in
      let ln : m.node < 24 = can.low in
      let f : free (set here m.node true) + 1 ≡ free here = free_set here m.node (omega arith) new in
      let e : count + free here ≡ 24 = k.room in
      let pushed : take count made ++ m ∷ [] ≡ take (count + 1) (set made count m) = sym (take_more_set made count m lt) in
      let forest : after_made m (forest_of (take count made)) ≡ forest_of (take (count + 1) (set made count m)) = sym (step-spot m.node m.step (forest_of (take count made)) kept_once can.step) ∙ sym (grown_push (take count made) m empty) ∙ ap forest_of pushed in
      record {
        cells = length-set made count m ∙ k.cells;
        room = omega arith;
        grown = subst (λ ms. IsGrown empty ms) pushed (IsGrown-push (take count made) m empty k.grown can);
        places = subst (λ G. ArePlaces G (set here m.node true) first' behind') forest pl;
      }

  pub kept_merge : (x at : ℕ) → length here ≡ 24 → length first ≡ 24 → length behind ≡ 24
      → CanMake (forest_of (take count made)) (record { node = x; step = Merge at })
      → IsKept (set made count (record { node = x; step = Merge at })) (count + 1) (set here x true) (set first x (get_or first at 0)) (set behind x (get_or behind at 0))
  kept_merge x at lh lf lb can =
      kept_put (record { node = x; step = Merge at }) (set first x (get_or first at 0)) (set behind x (get_or behind at 0)) lh can
      (places_merge (forest_of (take count made)) here first behind x at kept_once lh lf lb can.low can.new can.step k.places)

  pub kept_wrap : (under : Option ℕ) (from to start place end : ℕ) → IsStart (take count made) under start → AreSkipped (take count made) start from place
      → AreSkipped (take count made) place (to - from) end → IsStep (forest_of (take count made)) (Insert under from to) → end ≤ 24
  kept_wrap under from to start place end starts skip1 skip2 step =
      let r = wrap_within 0 0 (spot_of (Insert under from to) (forest_of (take count made))) (forest_of (take count made)) start place end (omega arith)
      (found_wrap (take count made) under from to start place end starts skip1 skip2 step) in
      let a : end ≤ 0 + size (forest_of (take count made)) = r.high in
      let b : size (forest_of (take count made)) ≤ 24 = kept_size in
      omega arith

  pub kept_insert : (x : ℕ) (under : Option ℕ) (from to start place end : ℕ) (first' behind' : List ℕ) → IsStart (take count made) under start → AreSkipped (take count made) start from place
      → AreSkipped (take count made) place (to - from) end → length here ≡ 24 → length first' ≡ 24 → length behind' ≡ 24
      → CanMake (forest_of (take count made)) (record { node = x; step = Insert under from to }) → AreShiftedOn start place here first behind first' behind'
      → IsKept (set made count (record { node = x; step = Insert under from to })) (count + 1) (set here x true) (set first' x place) (set behind' x (end + 1))
  kept_insert x under from to start place end first' behind' starts skip1 skip2 lh lf lb can moved =
      let F = forest_of (take count made) in
      kept_put (record { node = x; step = Insert under from to }) (set first' x place) (set behind' x (end + 1)) lh can
      (places_insert F here first behind first' behind' x (spot_of (Insert under from to) F) start place end kept_once lh lf lb can.low can.new
      (spot_there (Insert under from to) F kept_once can.step)
      (found_wrap (take count made) under from to start place end starts skip1 skip2 can.step) k.places moved)

  -- the last step
  pub record Last (m : Made) : Type 0 where
    pub grown : IsGrown empty (take (count - 1) made)
    pub can : CanMake (forest_of (take (count - 1) made)) m
    pub there : IsIn (forest_of (take count made)) m.node
    pub places : ArePlaces (after_made m (forest_of (take (count - 1) made))) here first behind

  pub kept_some : 0 < length (take count made) → 0 < count
  kept_some h = let a : length (take count made) ≤ count = length-take-at_most count made in omega arith

  pub kept_last : (d : Made) → 0 < count → Last (get_or made (count - 1) d)
  kept_last d some =
      let m = get_or made (count - 1) d in
      let l : length made ≡ 24 = k.cells in
      let e : count + free here ≡ 24 = k.room in
      let lt : count - 1 < length made = omega arith in
      let n : count - 1 + 1 ≡ count = omega arith in
      let t : take count made ≡ take (count - 1) made ++ m ∷ [] = subst (λ i. take i made ≡ take (count - 1) made ++ m ∷ []) n (take_at_read made (count - 1) d lt).1 in
      let g = IsGrown-last (take (count - 1) made) m empty (subst (λ ms. IsGrown empty ms) t k.grown) in
      let once : AllOnce (forest_of (take (count - 1) made)) = (steps_is (take (count - 1) made) g.0).once in
      let forest : forest_of (take count made) ≡ after_made m (forest_of (take (count - 1) made)) =
      ap forest_of t ∙ grown_push (take (count - 1) made) m empty ∙ step-spot m.node m.step (forest_of (take (count - 1) made)) once g.1.step in
      record {
        grown = g.0;
        can = g.1;
        there = subst (λ G. IsIn G m.node) (sym forest) (after-there m.node (spot_of m.step (forest_of (take (count - 1) made))) (forest_of (take (count - 1) made)) (spot_there m.step (forest_of (take (count - 1) made)) once g.1.step));
        places = subst (λ G. ArePlaces G here first behind) forest k.places;
      }

  -- without it
  pub kept_take : (m : Made) (first' behind' : List ℕ) → 0 < count → length here ≡ 24 → Last m → ArePlaces (forest_of (take (count - 1) made)) (set here m.node false) first' behind'
      → IsKept made (count - 1) (set here m.node false) first' behind'
  kept_take m first' behind' some lh last pl =
      let x : m.node < 24 = last.can.low in
      let f : free (set here m.node false) ≡ free here + 1 = free_unset here m.node (omega arith) (k.places.there m.node last.there) in
      let e : count + free here ≡ 24 = k.room in
      record { cells = k.cells; room = omega arith; grown = last.grown; places = pl }

  pub kept_unmerge : (m : Made) (at : ℕ) → 0 < count → length here ≡ 24 → Last m → m.step ≡ Merge at → IsKept made (count - 1) (set here m.node false) first behind
  kept_unmerge m at some lh last is =
      let F = forest_of (take (count - 1) made) in
      let once : AllOnce F = (steps_is (take (count - 1) made) last.grown).once in
      kept_take m first behind some lh last
      (places_unmerge F here first behind m.node at once lh last.can.low last.can.new (subst (λ s. IsStep F s) is last.can.step)
      (subst (λ s. ArePlaces (after m.node (spot_of s F) F) here first behind) is last.places))

  pub kept_uninsert : (m : Made) (under : Option ℕ) (from to : ℕ) (first' behind' : List ℕ) → 0 < count → length here ≡ 24 → Last m → m.step ≡ Insert under from to
      → AreShiftedBack (get_or first m.node 0) (set here m.node false) first behind first' behind' → IsKept made (count - 1) (set here m.node false) first' behind'
  kept_uninsert m under from to first' behind' some lh last is back =
      let F = forest_of (take (count - 1) made) in
      let once : AllOnce F = (steps_is (take (count - 1) made) last.grown).once in
      kept_take m first' behind' some lh last
      (places_uninsert F here first behind first' behind' m.node under from to once lh last.can.low last.can.new (subst (λ s. IsStep F s) is last.can.step)
      (subst (λ s. ArePlaces (after m.node (spot_of s F) F) here first behind) is last.places) back)

-- parts of arrays that are changed entry by entry
module _ (R : ℕ → ℕ → ℕ → ℕ → Type 0) (here : List Bool) (first behind : List ℕ) where
  pub partly_none : IsPartly R here first behind 0 first behind
  partly_none = record { done = λ j h i. absurd (omega arith); rest = λ j h. (refl, refl) }

  pub partly_skip : (k : ℕ) (first' behind' : List ℕ) → IsPartly R here first behind k first' behind' → get_or here k false ≡ false → IsPartly R here first behind (k + 1) first' behind'
  partly_skip k first' behind' p none = record {
    done = λ j h i. elim (cases_eq j k) [
      | inl e ↦ let f : get_or here j false ≡ false = subst (λ z. get_or here z false ≡ false) (sym e) none in absurd cc
      | inr ne ↦ p.done j (omega arith) i
    ];
    rest = λ j h. p.rest j (omega arith);
  }

  pub partly_move : (k f b : ℕ) (first' behind' : List ℕ) → k < length first' → k < length behind' → IsPartly R here first behind k first' behind'
      → R (get_or first' k 0) (get_or behind' k 0) f b → IsPartly R here first behind (k + 1) (set first' k f) (set behind' k b)
  partly_move k f b first' behind' lf lb p r =
      let at = p.rest k (omega arith) in
      let a : get_or first' k 0 ≡ get_or first k 0 = at.0 in
      let d : get_or behind' k 0 ≡ get_or behind k 0 = at.1 in
      record {
        done = λ j h i. elim (cases_eq j k) [
          | inl e ↦ rw (e, get_or-set_same first' k f 0 lf, get_or-set_same behind' k b 0 lb) (subst (λ z. R z (get_or behind k 0) f b) a (subst (λ z. R (get_or first' k 0) z f b) d r))
          | inr ne ↦ rw (get_or-set_other first' k j f 0 ne, get_or-set_other behind' k j b 0 ne) (p.done j (omega arith) i)
        ];
        rest = λ j h. let ne : j ≢ k = omega arith in (get_or-set_other first' k j f 0 ne ∙ (p.rest j (omega arith)).0, get_or-set_other behind' k j b 0 ne ∙ (p.rest j (omega arith)).1);
      }

  pub partly_all : (k : ℕ) (first' behind' : List ℕ) → length here ≤ k → IsPartly R here first behind k first' behind'
      → (j : ℕ) → get_or here j false ≡ true → R (get_or first j 0) (get_or behind j 0) (get_or first' j 0) (get_or behind' j 0)
  partly_all k first' behind' le p j i = elim (cases_lt j k) [
    | inl lt ↦ p.done j lt i
    | inr ge ↦ let f : get_or here j false ≡ false = get_or_past here j false (omega arith) in absurd cc
  ]
