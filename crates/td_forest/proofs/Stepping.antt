-- Each forest of one node more comes from the forest without it by just one step.
use Rattle.std.specs.Prelude.{◌≡◌, ℕ, zero, suc, ◌≤◌, List, [], ◌∷◌, Bool, true, false, if◌then◌else◌, refl}
use Rattle.std.proofs.Common.{inl, inr, ap, sym, ◌∙◌, subst, arith}
use Rattle.gr_base.specs.Lists.{IsAmong}
use Rattle.gr_base.specs.Forests.{Forest, empty, tree, beside}
use Rattle.td_forest.specs.Nodes.{IsIn}
use Rattle.td_forest.proofs.Twins.{AllOnce, AllRise}
use Rattle.td_forest.specs.Steps.{width, first_trees, trees_behind, put}
use Rattle.td_forest.specs.Spots.{Spot, join, wrap, down, along, after, IsSpot}
use Rattle.td_forest.specs.Without.{is_alone, thinned, without}
use Rattle.td_forest.proofs.SetLemmas.{eqb-same, thinned-absent, thinned-put, alone-absent, alone-put, alone-is, put-new, put-alone, put-longer, put-thinned}

-- a forest without the node stays as it is
pub without-absent : (x : ℕ) (F : Forest (List ℕ)) → (IsIn F x → ⊥) → without x F ≡ F
without-absent x empty h = refl
without-absent x (tree set kids more) h =
    rw (alone-absent x set (λ i. h (inl i)), thinned-absent x set (λ i. h (inl i)), without-absent x kids (λ i. h (inr (inl i))), without-absent x more (λ i. h (inr (inr i)))) refl

pub beside-split : {A : Type 0} (n : ℕ) (F : Forest A) → beside (first_trees n F) (trees_behind n F) ≡ F
beside-split zero F = refl
beside-split (suc n) empty = refl
beside-split (suc n) (tree a kids more) = ap (λ G. tree a kids G) (beside-split n more)

pub IsIn-first : (n : ℕ) (F : Forest (List ℕ)) (y : ℕ) → IsIn (first_trees n F) y → IsIn F y
IsIn-first zero F y i = absurd i
IsIn-first (suc n) empty y i = i
IsIn-first (suc n) (tree set kids more) y (inl i) = inl i
IsIn-first (suc n) (tree set kids more) y (inr (inl i)) = inr (inl i)
IsIn-first (suc n) (tree set kids more) y (inr (inr i)) = inr (inr (IsIn-first n more y i))

pub IsIn-behind : (n : ℕ) (F : Forest (List ℕ)) (y : ℕ) → IsIn (trees_behind n F) y → IsIn F y
IsIn-behind zero F y i = i
IsIn-behind (suc n) empty y i = i
IsIn-behind (suc n) (tree set kids more) y i = inr (inr (IsIn-behind n more y i))

-- the step taken back
pub without-after : (x : ℕ) (s : Spot) (F : Forest (List ℕ)) → (IsIn F x → ⊥) → AllRise F → IsSpot s F → without x (after x s F) ≡ F
without-after x join empty h full at = refl
without-after x join (tree set kids more) h full at =
    rw (alone-put x set full.0, thinned-put x set (λ i. h (inl i)), without-absent x kids (λ i. h (inr (inl i))), without-absent x more (λ i. h (inr (inr i)))) refl
without-after x (wrap n) F h full at =
    rw (eqb-same x, without-absent x (first_trees n F) (λ i. h (IsIn-first n F x i)), without-absent x (trees_behind n F) (λ i. h (IsIn-behind n F x i))) (beside-split n F)
without-after x (down s) empty h full at = refl
without-after x (down s) (tree set kids more) h full at =
    rw (alone-absent x set (λ i. h (inl i)), thinned-absent x set (λ i. h (inl i)), without-after x s kids (λ i. h (inr (inl i))) full.2 at, without-absent x more (λ i. h (inr (inr i)))) refl
without-after x (along s) empty h full at = refl
without-after x (along s) (tree set kids more) h full at =
    rw (alone-absent x set (λ i. h (inl i)), thinned-absent x set (λ i. h (inl i)), without-absent x kids (λ i. h (inr (inl i))), without-after x s more (λ i. h (inr (inr i))) full.3 at) refl

-- the node is there after its step
pub after-there : (x : ℕ) (s : Spot) (F : Forest (List ℕ)) → IsSpot s F → IsIn (after x s F) x
after-there x join empty at = at
after-there x join (tree set kids more) at = inl (put-new x set)
after-there x (wrap n) F at = inl (inl refl)
after-there x (down s) empty at = at
after-there x (down s) (tree set kids more) at = inr (inl (after-there x s kids at))
after-there x (along s) empty at = at
after-there x (along s) (tree set kids more) at = inr (inr (after-there x s more at))

pub width-first : {A : Type 0} (n : ℕ) (F : Forest A) → n ≤ width F → width (first_trees n F) ≡ n
width-first zero F h = refl
width-first (suc n) empty h = omega arith
width-first (suc n) (tree a kids more) h = ap (λ k. suc k) (width-first n more (omega arith))

-- the parts of equal trees
pub first_label : {A : Type 0} → A → Forest A → A
first_label a empty = a
first_label a (tree b kids more) = b

pub first_kids : {A : Type 0} → Forest A → Forest A
first_kids empty = empty
first_kids (tree b kids more) = kids

pub first_more : {A : Type 0} → Forest A → Forest A
first_more empty = empty
first_more (tree b kids more) = more

-- two steps with one outcome are one step
pub after-unique : (x : ℕ) (s t : Spot) (F : Forest (List ℕ)) → (IsIn F x → ⊥) → AllRise F → IsSpot s F → IsSpot t F → after x s F ≡ after x t F → s ≡ t
after-unique x join join F h full a b e = refl
after-unique x join t empty h full a b e = absurd a
after-unique x (down s) t empty h full a b e = absurd a
after-unique x (along s) t empty h full a b e = absurd a
after-unique x s join empty h full a b e = absurd b
after-unique x s (down t) empty h full a b e = absurd b
after-unique x s (along t) empty h full a b e = absurd b
after-unique x (wrap n) (wrap k) F h full a b e =
    let f : first_trees n F ≡ first_trees k F = cc in
    ap (λ i. wrap i) (sym (width-first n F a) ∙ ap width f ∙ width-first k F b)
after-unique x join (wrap k) (tree set kids more) h full a b e = absurd (put-alone x set full.0 cc)
after-unique x (wrap n) join (tree set kids more) h full a b e = absurd (put-alone x set full.0 cc)
after-unique x join (down t) (tree set kids more) h full a b e = absurd (put-longer x set cc)
after-unique x join (along t) (tree set kids more) h full a b e = absurd (put-longer x set cc)
after-unique x (down s) join (tree set kids more) h full a b e = absurd (put-longer x set cc)
after-unique x (along s) join (tree set kids more) h full a b e = absurd (put-longer x set cc)
after-unique x (wrap n) (down t) (tree set kids more) h full a b e = let q : x ∷ [] ≡ set = cc in absurd (h (inl (subst (λ zs. IsAmong zs x) q (inl refl))))
after-unique x (wrap n) (along t) (tree set kids more) h full a b e = let q : x ∷ [] ≡ set = cc in absurd (h (inl (subst (λ zs. IsAmong zs x) q (inl refl))))
after-unique x (down s) (wrap n) (tree set kids more) h full a b e = let q : x ∷ [] ≡ set = cc in absurd (h (inl (subst (λ zs. IsAmong zs x) q (inl refl))))
after-unique x (along s) (wrap n) (tree set kids more) h full a b e = let q : x ∷ [] ≡ set = cc in absurd (h (inl (subst (λ zs. IsAmong zs x) q (inl refl))))
after-unique x (down s) (down t) (tree set kids more) h full a b e = ap (λ r. down r) (after-unique x s t kids (λ i. h (inr (inl i))) full.2 a b cc)
after-unique x (along s) (along t) (tree set kids more) h full a b e = ap (λ r. along r) (after-unique x s t more (λ i. h (inr (inr i))) full.3 a b cc)
after-unique x (down s) (along t) (tree set kids more) h full a b e =
    let q : after x s kids ≡ kids = cc in absurd (h (inr (inl (subst (λ G. IsIn G x) q (after-there x s kids a)))))
after-unique x (along s) (down t) (tree set kids more) h full a b e =
    let q : after x s more ≡ more = cc in absurd (h (inr (inr (subst (λ G. IsIn G x) q (after-there x s more a)))))

-- the step that leads from one forest to another
pub record StepBack (x : ℕ) (F G : Forest (List ℕ)) : Type 0 where
  pub spot : Spot
  pub there : IsSpot spot F
  pub is : after x spot F ≡ G

pub width-beside : {A : Type 0} (F G : Forest A) → width F ≤ width (beside F G)
width-beside empty G = omega arith
width-beside (tree a kids more) G = let h : width more ≤ width (beside more G) = width-beside more G in omega arith

pub first-beside : {A : Type 0} (F G : Forest A) → first_trees (width F) (beside F G) ≡ F
first-beside empty G = refl
first-beside (tree a kids more) G = ap (λ H. tree a kids H) (first-beside more G)

pub behind-beside : {A : Type 0} (F G : Forest A) → trees_behind (width F) (beside F G) ≡ G
behind-beside empty G = refl
behind-beside (tree a kids more) G = behind-beside more G

back_here : (x : ℕ) (set : List ℕ) (kids more : Forest (List ℕ)) (b : Bool) → is_alone x set ≡ b → put x (thinned x set) ≡ set
    → StepBack x (if b then beside kids more else tree (thinned x set) kids more) (tree set kids more)
back_here x set kids more true alone ends = record {
  spot = wrap (width kids);
  there = width-beside kids more;
  is = rw (first-beside kids more, behind-beside kids more, alone-is x set alone) refl;
}
back_here x set kids more false alone ends = record { spot = join; there = tt; is = ap (λ zs. tree zs kids more) ends }

pub step_back : (x : ℕ) (G : Forest (List ℕ)) → AllOnce G → AllRise G → IsIn G x → StepBack x (without x G) G
step_back x empty once rise i = absurd i
step_back x (tree set kids more) once rise (inl i) =
    rw (without-absent x kids (λ j. once.1 x i j), without-absent x more (λ j. once.2 x i j))
    (back_here x set kids more (is_alone x set) refl (put-thinned x set rise.1 i))
step_back x (tree set kids more) once rise (inr (inl i)) =
    let r = step_back x kids once.4 rise.2 i in
    rw (alone-absent x set (λ j. once.1 x j i), thinned-absent x set (λ j. once.1 x j i), without-absent x more (λ j. once.3 x i j))
    (record { spot = down r.spot; there = r.there; is = ap (λ K. tree set K more) r.is })
step_back x (tree set kids more) once rise (inr (inr i)) =
    let r = step_back x more once.5 rise.3 i in
    rw (alone-absent x set (λ j. once.2 x j i), thinned-absent x set (λ j. once.2 x j i), without-absent x kids (λ j. once.3 x j i))
    (record { spot = along r.spot; there = r.there; is = ap (λ K. tree set kids K) r.is })
