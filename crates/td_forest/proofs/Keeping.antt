-- The relations of the old nodes are the same before and after a step, and so before and after a deletion.
use Rattle.std.specs.Prelude.{◌≡◌, ◌≢◌, ℕ, suc, ◌<◌, List, [], ◌∷◌, ◌↔◌, Bool, true, false, if◌then◌else◌, refl}
use Rattle.std.proofs.Common.{inl, inr, subst, sym, arith}
use Rattle.std.proofs.lemmas.Bool.{cases_eq}
use Rattle.gr_base.specs.Lists.{IsAmong, IsRising}
use Rattle.gr_base.specs.Forests.{Forest, empty, tree, beside}
use Rattle.td_forest.specs.Nodes.{IsIn}
use Rattle.td_forest.proofs.Twins.{AreSameIn, IsOverIn, IsLeftIn, AllOnce, AllRise, IsForestBelow, IsParentIn, IsNextIn}
use Rattle.td_forest.specs.Steps.{first_trees, trees_behind, put}
use Rattle.td_forest.specs.Spots.{Spot, join, wrap, down, along, after, IsSpot}
use Rattle.td_forest.specs.Without.{without, thinned, is_alone}
use Rattle.td_forest.proofs.SetLemmas.{in-put, put-old, put-new, put-once_before, put-new_before, thinned-rises, thinned-full, alone-absent, thinned-absent}
use Rattle.td_forest.proofs.Stepping.{beside-split, step_back, without-absent, after-there}
use Rattle.td_forest.proofs.Beside.{beside_once, beside_rise}
use Rattle.td_forest.proofs.Growing.{over_split, split_over, same_split, split_same, left_split, split_left, in_split, in_after, after_in, in_or_new, once_after, rise_after}

not_single : (x y : ℕ) → IsAmong (x ∷ []) y → (y ≡ x → ⊥) → ⊥
not_single x y (inl e) ne = ne e
not_single x y (inr k) ne = k

module _ (x y z : ℕ) where
  pub same_after : (s : Spot) (F : Forest (List ℕ)) → IsSpot s F → AreSameIn F y z → AreSameIn (after x s F) y z
  same_after join empty at h = h
  same_after join (tree set kids more) at (inl h) = inl (in-put x set y h.0, in-put x set z h.1)
  same_after join (tree set kids more) at (inr h) = inr h
  same_after (wrap n) F at h = inr (same_split n F y z h)
  same_after (down s) empty at h = h
  same_after (down s) (tree set kids more) at (inl h) = inl h
  same_after (down s) (tree set kids more) at (inr (inl h)) = inr (inl (same_after s kids at h))
  same_after (down s) (tree set kids more) at (inr (inr h)) = inr (inr h)
  same_after (along s) empty at h = h
  same_after (along s) (tree set kids more) at (inl h) = inl h
  same_after (along s) (tree set kids more) at (inr (inl h)) = inr (inl h)
  same_after (along s) (tree set kids more) at (inr (inr h)) = inr (inr (same_after s more at h))

  pub over_after : (s : Spot) (F : Forest (List ℕ)) → IsSpot s F → IsOverIn F y z → IsOverIn (after x s F) y z
  over_after join empty at h = h
  over_after join (tree set kids more) at (inl h) = inl (in-put x set y h.0, h.1)
  over_after join (tree set kids more) at (inr h) = inr h
  over_after (wrap n) F at h = inr (over_split n F y z h)
  over_after (down s) empty at h = h
  over_after (down s) (tree set kids more) at (inl h) = inl (h.0, in_after x s kids z h.1 at)
  over_after (down s) (tree set kids more) at (inr (inl h)) = inr (inl (over_after s kids at h))
  over_after (down s) (tree set kids more) at (inr (inr h)) = inr (inr h)
  over_after (along s) empty at h = h
  over_after (along s) (tree set kids more) at (inl h) = inl h
  over_after (along s) (tree set kids more) at (inr (inl h)) = inr (inl h)
  over_after (along s) (tree set kids more) at (inr (inr h)) = inr (inr (over_after s more at h))

  pub left_after : (s : Spot) (F : Forest (List ℕ)) → IsSpot s F → IsLeftIn F y z → IsLeftIn (after x s F) y z
  left_after join empty at h = h
  left_after join (tree set kids more) at (inl h) = inl (elim h.0 [ inl i ↦ inl (in-put x set y i) | inr i ↦ inr i ], h.1)
  left_after join (tree set kids more) at (inr h) = inr h
  left_after (wrap n) F at h = elim (left_split n F y z h) [ inl j ↦ inl (inr j.0, j.1) | inr j ↦ inr j ]
  left_after (down s) empty at h = h
  left_after (down s) (tree set kids more) at (inl h) = inl (elim h.0 [ inl i ↦ inl i | inr i ↦ inr (in_after x s kids y i at) ], h.1)
  left_after (down s) (tree set kids more) at (inr (inl h)) = inr (inl (left_after s kids at h))
  left_after (down s) (tree set kids more) at (inr (inr h)) = inr (inr h)
  left_after (along s) empty at h = h
  left_after (along s) (tree set kids more) at (inl h) = inl (h.0, in_after x s more z h.1 at)
  left_after (along s) (tree set kids more) at (inr (inl h)) = inr (inl h)
  left_after (along s) (tree set kids more) at (inr (inr h)) = inr (inr (left_after s more at h))

  pub after_same : (s : Spot) (F : Forest (List ℕ)) → y ≢ x → z ≢ x → AreSameIn (after x s F) y z → AreSameIn F y z
  after_same join empty ny nz h = h
  after_same join (tree set kids more) ny nz (inl h) = inl (put-old x set y h.0 ny, put-old x set z h.1 nz)
  after_same join (tree set kids more) ny nz (inr h) = inr h
  after_same (wrap n) F ny nz (inl h) = absurd (not_single x y h.0 ny)
  after_same (wrap n) F ny nz (inr h) = split_same n F y z h
  after_same (down s) empty ny nz h = h
  after_same (down s) (tree set kids more) ny nz (inl h) = inl h
  after_same (down s) (tree set kids more) ny nz (inr (inl h)) = inr (inl (after_same s kids ny nz h))
  after_same (down s) (tree set kids more) ny nz (inr (inr h)) = inr (inr h)
  after_same (along s) empty ny nz h = h
  after_same (along s) (tree set kids more) ny nz (inl h) = inl h
  after_same (along s) (tree set kids more) ny nz (inr (inl h)) = inr (inl h)
  after_same (along s) (tree set kids more) ny nz (inr (inr h)) = inr (inr (after_same s more ny nz h))

  pub after_over : (s : Spot) (F : Forest (List ℕ)) → y ≢ x → z ≢ x → IsOverIn (after x s F) y z → IsOverIn F y z
  after_over join empty ny nz h = h
  after_over join (tree set kids more) ny nz (inl h) = inl (put-old x set y h.0 ny, h.1)
  after_over join (tree set kids more) ny nz (inr h) = inr h
  after_over (wrap n) F ny nz (inl h) = absurd (not_single x y h.0 ny)
  after_over (wrap n) F ny nz (inr h) = split_over n F y z h
  after_over (down s) empty ny nz h = h
  after_over (down s) (tree set kids more) ny nz (inl h) = inl (h.0, after_in x s kids z h.1 nz)
  after_over (down s) (tree set kids more) ny nz (inr (inl h)) = inr (inl (after_over s kids ny nz h))
  after_over (down s) (tree set kids more) ny nz (inr (inr h)) = inr (inr h)
  after_over (along s) empty ny nz h = h
  after_over (along s) (tree set kids more) ny nz (inl h) = inl h
  after_over (along s) (tree set kids more) ny nz (inr (inl h)) = inr (inl h)
  after_over (along s) (tree set kids more) ny nz (inr (inr h)) = inr (inr (after_over s more ny nz h))

  pub after_left : (s : Spot) (F : Forest (List ℕ)) → y ≢ x → z ≢ x → IsLeftIn (after x s F) y z → IsLeftIn F y z
  after_left join empty ny nz h = h
  after_left join (tree set kids more) ny nz (inl h) = inl (elim h.0 [ inl i ↦ inl (put-old x set y i ny) | inr i ↦ inr i ], h.1)
  after_left join (tree set kids more) ny nz (inr h) = inr h
  after_left (wrap n) F ny nz (inl h) = split_left n F y z (inl (elim h.0 [ inl i ↦ absurd (not_single x y i ny) | inr i ↦ i ], h.1))
  after_left (wrap n) F ny nz (inr h) = split_left n F y z (inr h)
  after_left (down s) empty ny nz h = h
  after_left (down s) (tree set kids more) ny nz (inl h) = inl (elim h.0 [ inl i ↦ inl i | inr i ↦ inr (after_in x s kids y i ny) ], h.1)
  after_left (down s) (tree set kids more) ny nz (inr (inl h)) = inr (inl (after_left s kids ny nz h))
  after_left (down s) (tree set kids more) ny nz (inr (inr h)) = inr (inr h)
  after_left (along s) empty ny nz h = h
  after_left (along s) (tree set kids more) ny nz (inl h) = inl (h.0, after_in x s more z h.1 nz)
  after_left (along s) (tree set kids more) ny nz (inr (inl h)) = inr (inl h)
  after_left (along s) (tree set kids more) ny nz (inr (inr h)) = inr (inr (after_left s more ny nz h))

-- related nodes are there
pub over_in : (F : Forest (List ℕ)) (x y : ℕ) → IsOverIn F x y → IsIn F x × IsIn F y
over_in empty x y h = absurd h
over_in (tree set kids more) x y (inl h) = (inl h.0, inr (inl h.1))
over_in (tree set kids more) x y (inr (inl h)) = let r = over_in kids x y h in (inr (inl r.0), inr (inl r.1))
over_in (tree set kids more) x y (inr (inr h)) = let r = over_in more x y h in (inr (inr r.0), inr (inr r.1))

pub left_in : (F : Forest (List ℕ)) (x y : ℕ) → IsLeftIn F x y → IsIn F x × IsIn F y
left_in empty x y h = absurd h
left_in (tree set kids more) x y (inl h) = (elim h.0 [ inl i ↦ inl i | inr i ↦ inr (inl i) ], inr (inr h.1))
left_in (tree set kids more) x y (inr (inl h)) = let r = left_in kids x y h in (inr (inl r.0), inr (inl r.1))
left_in (tree set kids more) x y (inr (inr h)) = let r = left_in more x y h in (inr (inr r.0), inr (inr r.1))

-- what stood once after a step stood once before it
pub once_before : (x : ℕ) (s : Spot) (F : Forest (List ℕ)) → IsSpot s F → AllOnce (after x s F) → AllOnce F
once_before x join empty at h = tt
once_before x join (tree set kids more) at h =
    (put-once_before x set h.0, (λ y i j. h.1 y (in-put x set y i) j), (λ y i j. h.2 y (in-put x set y i) j), h.3, h.4, h.5)
once_before x (wrap n) F at h = subst (λ G. AllOnce G) (beside-split n F) (beside_once (first_trees n F) (trees_behind n F) (h.4, h.5, h.3))
once_before x (down s) empty at h = tt
once_before x (down s) (tree set kids more) at h =
    (h.0, (λ y i j. h.1 y i (in_after x s kids y j at)), h.2, (λ y i j. h.3 y (in_after x s kids y i at) j), once_before x s kids at h.4, h.5)
once_before x (along s) empty at h = tt
once_before x (along s) (tree set kids more) at h =
    (h.0, h.1, (λ y i j. h.2 y i (in_after x s more y j at)), (λ y i j. h.3 y i (in_after x s more y j at)), h.4, once_before x s more at h.5)

-- the node that the step adds was not there
pub new_before : (x : ℕ) (s : Spot) (F : Forest (List ℕ)) → IsSpot s F → AllOnce (after x s F) → IsIn F x → ⊥
new_before x join empty at h i = i
new_before x join (tree set kids more) at h i =
    let there : IsAmong (put x set) x = put-new x set in
    elim i [ inl j ↦ put-new_before x set h.0 j | inr j ↦ elim j [ inl k ↦ h.1 x there k | inr k ↦ h.2 x there k ] ]
new_before x (wrap n) F at h i = elim (in_split n F x i) [ inl j ↦ h.1 x (inl refl) j | inr j ↦ h.2 x (inl refl) j ]
new_before x (down s) empty at h i = i
new_before x (down s) (tree set kids more) at h i =
    let there : IsIn (after x s kids) x = after-there x s kids at in
    elim i [ inl j ↦ h.1 x j there | inr j ↦ elim j [ inl k ↦ new_before x s kids at h.4 k | inr k ↦ h.3 x there k ] ]
new_before x (along s) empty at h i = i
new_before x (along s) (tree set kids more) at h i =
    let there : IsIn (after x s more) x = after-there x s more at in
    elim i [ inl j ↦ h.2 x j there | inr j ↦ elim j [ inl k ↦ h.3 x k there | inr k ↦ new_before x s more at h.5 k ] ]

-- the sets without the node, where it is not alone
rise_here : (x : ℕ) (set : List ℕ) (kids more : Forest (List ℕ)) (b : Bool) → is_alone x set ≡ b → IsAmong set x → IsRising set → AllRise kids → AllRise more
    → AllRise (if b then beside kids more else tree (thinned x set) kids more)
rise_here x set kids more true alone i rise k m = beside_rise kids more k m
rise_here x set kids more false alone i rise k m = (thinned-full x set rise i alone, thinned-rises x set rise, k, m)

pub rise_without : (x : ℕ) (G : Forest (List ℕ)) → AllOnce G → AllRise G → IsIn G x → AllRise (without x G)
rise_without x empty once rise i = absurd i
rise_without x (tree set kids more) once rise (inl i) =
    rw (without-absent x kids (λ j. once.1 x i j), without-absent x more (λ j. once.2 x i j)) (rise_here x set kids more (is_alone x set) refl i rise.1 rise.2 rise.3)
rise_without x (tree set kids more) once rise (inr (inl i)) =
    rw (alone-absent x set (λ j. once.1 x j i), thinned-absent x set (λ j. once.1 x j i), without-absent x more (λ j. once.3 x i j))
    (rise.0, rise.1, rise_without x kids once.4 rise.2 i, rise.3)
rise_without x (tree set kids more) once rise (inr (inr i)) =
    rw (alone-absent x set (λ j. once.2 x j i), thinned-absent x set (λ j. once.2 x j i), without-absent x kids (λ j. once.3 x j i))
    (rise.0, rise.1, rise.2, rise_without x more once.5 rise.3 i)

-- a forest of m nodes and a step give one of m + 1
pub forest_after : (m : ℕ) (s : Spot) (F : Forest (List ℕ)) → IsForestBelow m F → IsSpot s F → IsForestBelow (suc m) (after m s F)
forest_after m s F f at = record {
  nodes = λ x. (
    (λ i. elim (in_or_new m s F x i) [ inl j ↦ let h : x < m = (f.nodes x).0 j in omega arith | inr e ↦ omega arith ]),
    (λ h. elim (cases_eq x m) [ inl e ↦ rw e (after-there m s F at) | inr ne ↦ in_after m s F x ((f.nodes x).1 (omega arith)) at ]),
  );
  once = once_after m s F f.once (λ i. let h : m < m = (f.nodes m).0 i in omega arith);
  sets = rise_after m s F f.sets (λ i. let h : m < m = (f.nodes m).0 i in omega arith);
}

-- what the deletion of the last node of a forest leaves
pub record Deleted (m : ℕ) (G : Forest (List ℕ)) : Type 0 where
  pub spot : Spot
  pub there : IsSpot spot (without m G)
  pub is : after m spot (without m G) ≡ G
  pub forest : IsForestBelow m (without m G)

pub deleted : (m : ℕ) (G : Forest (List ℕ)) → IsForestBelow (suc m) G → Deleted m G
deleted m G g =
    let last : IsIn G m = (g.nodes m).1 (omega arith) in
    let r = step_back m G g.once g.sets last in
    let F = without m G in
    let once : AllOnce (after m r.spot F) = subst (λ H. AllOnce H) (sym r.is) g.once in
    let new : IsIn F m → ⊥ = new_before m r.spot F r.there once in
    record {
      spot = r.spot;
      there = r.there;
      is = r.is;
      forest = record {
        nodes = λ x. (
          (λ i.
              let h : x < suc m = (g.nodes x).0 (subst (λ H. IsIn H x) r.is (in_after m r.spot F x i r.there)) in
              let ne : x ≢ m = (λ (e : x ≡ m). new (subst (λ z. IsIn F z) e i)) in
              omega arith),
          (λ h. elim (in_or_new m r.spot F x (subst (λ H. IsIn H x) (sym r.is) ((g.nodes x).1 (omega arith)))) [ inl j ↦ j | inr e ↦ absurd (omega arith) ]),
        );
        once = once_before m r.spot F r.there once;
        sets = rise_without m G g.once g.sets last;
      };
    }

-- the relations between the other nodes are the same before and after
pub record SameRelations (m : ℕ) (F G : Forest (List ℕ)) : Type 0 where
  pub same : (x y : ℕ) → x < m → y < m → AreSameIn F x y ↔ AreSameIn G x y
  pub over : (x y : ℕ) → x < m → y < m → IsOverIn F x y ↔ IsOverIn G x y
  pub left : (x y : ℕ) → x < m → y < m → IsLeftIn F x y ↔ IsLeftIn G x y

pub step_relations : (m : ℕ) (s : Spot) (F : Forest (List ℕ)) → IsSpot s F → SameRelations m F (after m s F)
step_relations m s F at = record {
  same = λ x y a b. (same_after m x y s F at, after_same m x y s F (omega arith) (omega arith));
  over = λ x y a b. (over_after m x y s F at, after_over m x y s F (omega arith) (omega arith));
  left = λ x y a b. (left_after m x y s F at, after_left m x y s F (omega arith) (omega arith));
}

pub deletion_relations : (m : ℕ) (G : Forest (List ℕ)) → IsForestBelow (suc m) G → SameRelations m (without m G) G
deletion_relations m G g = let r = deleted m G g in subst (λ H. SameRelations m (without m G) H) r.is (step_relations m r.spot (without m G) r.there)

-- so each literal survives: parents and neighbours, since nothing new comes between
pub deletion_parent : (m : ℕ) (G : Forest (List ℕ)) → IsForestBelow (suc m) G → (x y : ℕ) → x < m → y < m → IsParentIn G x y → IsParentIn (without m G) x y
deletion_parent m G g x y a b h =
    let f = (deleted m G g).forest in
    let r = deletion_relations m G g in
    ((r.over x y a b).1 h.0, λ z i j. let l : z < m = (f.nodes z).0 (over_in (without m G) z y j).0 in h.1 z ((r.over x z a l).0 i) ((r.over z y l b).0 j))

pub deletion_next : (m : ℕ) (G : Forest (List ℕ)) → IsForestBelow (suc m) G → (x y : ℕ) → x < m → y < m → IsNextIn G x y → IsNextIn (without m G) x y
deletion_next m G g x y a b h =
    let f = (deleted m G g).forest in
    let r = deletion_relations m G g in
    ((r.left x y a b).1 h.0, λ z i j. let l : z < m = (f.nodes z).0 (left_in (without m G) z y j).0 in h.1 z ((r.left x z a l).0 i) ((r.left z y l b).0 j))
