-- Each forest with a node comes from the forest without it by one named step, and by no other.
use Rattle.std.specs.Prelude.{◌≡◌, ◌≢◌, ℕ, suc, ◌+◌, ◌-◌, ◌<◌, List, ◌⊎◌, ◌↔◌, Some, None}
use Rattle.std.proofs.Common.{inl, inr, ap, sym, ◌∙◌, subst, arith}
use Rattle.std.proofs.lemmas.Bool.{cases_eq}
use Rattle.gr_base.specs.Forests.{Forest}
use Rattle.td_forest.specs.declared.Step.{Step}
use Rattle.td_forest.specs.declared.Step.TheVariants.{Merge, Insert}
use Rattle.td_forest.specs.declared.Relation.{Relation}
use Rattle.td_forest.specs.declared.Relation.TheVariants.{Same, Over, Under, Left, Right}
use Rattle.td_forest.specs.Nodes.{IsIn, IsForestOf, Relates}
use Rattle.td_forest.specs.Steps.{after_step, IsStep}
use Rattle.td_forest.specs.Spots.{Spot, after, IsSpot, spot_of, under_spot, insertion}
use Rattle.td_forest.specs.Names.{IsNamedStep}
use Rattle.td_forest.specs.Without.{without}
use Rattle.td_forest.proofs.Twins.{AllOnce, RelatesIn}
use Rattle.td_forest.proofs.Stepping.{step_back, without-after, after-there, after-unique}
use Rattle.td_forest.proofs.Growing.{in_after, in_or_new, once_after, rise_after}
use Rattle.td_forest.proofs.Keeping.{once_before, new_before, rise_without, same_after, over_after, left_after, after_same, after_over, after_left}
use Rattle.td_forest.proofs.StepSpots.{step-spot}
use Rattle.td_forest.proofs.Places.{Is, spot_there, rise_full}
use Rattle.td_forest.proofs.Naming.{Name, merging, inserting, name_of, named_unique, head_in}
use Rattle.td_forest.proofs.Forming.{forest_is, is_forest}
use Rattle.td_forest.proofs.Positions.{by_position, by_recursion}

-- a named step is one of the forest
pub named_step : (F : Forest (List ℕ)) (s : Step) → IsNamedStep F s → IsStep F s
named_step F (Merge at) h = head_in F at h
named_step F (Insert None from to) h = (h.1, h.2)
named_step F (Insert (Some u) from to) h = (head_in F u h.0, h.1, h.2)

-- the named step at a spot
pub record Named (F : Forest (List ℕ)) (spot : Spot) : Type 0 where
  pub step : Step
  pub named : IsNamedStep F step
  pub at : spot_of step F ≡ spot

pub named_at : (F : Forest (List ℕ)) (spot : Spot) → Is F → IsSpot spot F → Named F spot
named_at F spot is at = of_name (name_of spot F is.once (rise_full F is.rise) at)
  where
    of_name : Name spot F → Named F spot
    of_name (merging at head e) = record { step = Merge at; named = head; at = e }
    of_name (inserting under from n head fits e) =
        let d : from + n - from ≡ n = omega arith in
        record {
          step = Insert under from (from + n);
          named = (head, (omega arith), fits);
          at = ap (λ k. under_spot under (insertion from k) F) d ∙ e;
        }

-- a step of a new node makes a forest
pub step_is : (F : Forest (List ℕ)) (x : ℕ) (s : Step) → Is F → (IsIn F x → ⊥) → IsStep F s → Is (after_step x s F)
step_is F x s is new step = subst (λ G. Is G) (sym (step-spot x s F is.once step)) (record {
  once = once_after x (spot_of s F) F is.once new;
  rise = rise_after x (spot_of s F) F is.rise new;
})

-- of the old nodes and the new one
pub step_nodes : (F : Forest (List ℕ)) (x : ℕ) (s : Step) (y : ℕ) → Is F → IsStep F s → IsIn (after_step x s F) y ↔ (IsIn F y ⊎ (y ≡ x))
step_nodes F x s y is step =
    let at = spot_there s F is.once step in
    let e = step-spot x s F is.once step in (
      (λ i. in_or_new x (spot_of s F) F y (subst (λ G. IsIn G y) e i)),
      (λ i. subst (λ G. IsIn G y) (sym e) (elim i [ inl j ↦ in_after x (spot_of s F) F y j at | inr q ↦ subst (λ z. IsIn (after x (spot_of s F) F) z) (sym q) (after-there x (spot_of s F) F at) ])),
    )

-- that is taken back by taking the node out
pub step_taken_back : (F : Forest (List ℕ)) (x : ℕ) (s : Step) → Is F → (IsIn F x → ⊥) → IsStep F s → without x (after_step x s F) ≡ F
step_taken_back F x s is new step =
    ap (without x) (step-spot x s F is.once step) ∙ without-after x (spot_of s F) F new is.rise (spot_there s F is.once step)

-- two named steps to one forest are one
pub steps_one : (F : Forest (List ℕ)) (x : ℕ) (s t : Step) → Is F → (IsIn F x → ⊥) → IsNamedStep F s → IsNamedStep F t → after_step x s F ≡ after_step x t F → s ≡ t
steps_one F x s t is new a b e =
    let p = named_step F s a in
    let q = named_step F t b in
    named_unique F s t is.once a b
    (after-unique x (spot_of s F) (spot_of t F) F new is.rise (spot_there s F is.once p) (spot_there t F is.once q)
    (sym (step-spot x s F is.once p) ∙ e ∙ step-spot x t F is.once q))

-- each step is as one that is named
pub step_named : (F : Forest (List ℕ)) (s : Step) → Is F → IsStep F s → (t : Step) × IsNamedStep F t × ((x : ℕ) → after_step x t F ≡ after_step x s F)
step_named F s is step =
    let r = named_at F (spot_of s F) is (spot_there s F is.once step) in
    (r.step, r.named, λ x. step-spot x r.step F is.once (named_step F r.step r.named) ∙ ap (λ z. after x z F) r.at ∙ sym (step-spot x s F is.once step))

-- what is left of a forest without one of its nodes
pub record TakenOut (x : ℕ) (G : Forest (List ℕ)) : Type 0 where
  pub is : Is (without x G)
  pub gone : IsIn (without x G) x → ⊥
  pub spot : Spot
  pub there : IsSpot spot (without x G)
  pub back : after x spot (without x G) ≡ G

pub take_out : (x : ℕ) (G : Forest (List ℕ)) → Is G → IsIn G x → TakenOut x G
take_out x G g i =
    let r = step_back x G g.once g.rise i in
    let once : AllOnce (after x r.spot (without x G)) = subst (λ H. AllOnce H) (sym r.is) g.once in
    record {
      is = record { once = once_before x r.spot (without x G) r.there once; rise = rise_without x G g.once g.rise i };
      gone = new_before x r.spot (without x G) r.there once;
      spot = r.spot;
      there = r.there;
      back = r.is;
    }

pub without_nodes : (x : ℕ) (G : Forest (List ℕ)) (y : ℕ) → Is G → IsIn G x → IsIn (without x G) y ↔ (IsIn G y × (y ≡ x → ⊥))
without_nodes x G y g i =
    let r = take_out x G g i in (
      (λ j. (subst (λ H. IsIn H y) r.back (in_after x r.spot (without x G) y j r.there), λ e. r.gone (subst (λ z. IsIn (without x G) z) e j))),
      (λ j. elim (in_or_new x r.spot (without x G) y (subst (λ H. IsIn H y) (sym r.back) j.0)) [ inl k ↦ k | inr e ↦ absurd (j.1 e) ]),
    )

pub named_back : (x : ℕ) (G : Forest (List ℕ)) → Is G → IsIn G x → (s : Step) × IsNamedStep (without x G) s × (after_step x s (without x G) ≡ G)
named_back x G g i =
    let r = take_out x G g i in
    let n = named_at (without x G) r.spot r.is r.there in
    (n.step, n.named, step-spot x n.step (without x G) r.is.once (named_step (without x G) n.step n.named) ∙ ap (λ z. after x z (without x G)) n.at ∙ r.back)

-- old nodes stand to each other as before
spot_related : (x y z : ℕ) (s : Spot) (F : Forest (List ℕ)) (how : Relation) → IsSpot s F → (y ≡ x → ⊥) → (z ≡ x → ⊥) → RelatesIn F y z how ↔ RelatesIn (after x s F) y z how
spot_related x y z s F Same at ny nz = (same_after x y z s F at, after_same x y z s F ny nz)
spot_related x y z s F Over at ny nz = (over_after x y z s F at, after_over x y z s F ny nz)
spot_related x y z s F Under at ny nz = (over_after x z y s F at, after_over x z y s F nz ny)
spot_related x y z s F Left at ny nz = (left_after x y z s F at, after_left x y z s F ny nz)
spot_related x y z s F Right at ny nz = (left_after x z y s F at, after_left x z y s F nz ny)

pub step_related : (F : Forest (List ℕ)) (x : ℕ) (s : Step) (y z : ℕ) (how : Relation) → Is F → IsStep F s → (y ≡ x → ⊥) → (z ≡ x → ⊥)
    → Relates F y z how ↔ Relates (after_step x s F) y z how
step_related F x s y z how is step ny nz =
    let e = step-spot x s F is.once step in
    let r = spot_related x y z (spot_of s F) F how (spot_there s F is.once step) ny nz in (
      (λ h. subst (λ G. Relates G y z how) (sym e) (by_position (after x (spot_of s F) F) y z how (r.0 (by_recursion F y z how h)))),
      (λ h. by_position F y z how (r.1 (by_recursion (after x (spot_of s F) F) y z how (subst (λ G. Relates G y z how) e h)))),
    )

pub without_related : (x : ℕ) (G : Forest (List ℕ)) (y z : ℕ) (how : Relation) → Is G → IsIn G x → (y ≡ x → ⊥) → (z ≡ x → ⊥) → Relates (without x G) y z how ↔ Relates G y z how
without_related x G y z how g i ny nz =
    let t = take_out x G g i in
    let r = spot_related x y z t.spot (without x G) how t.there ny nz in (
      (λ h. by_position G y z how (subst (λ H. RelatesIn H y z how) t.back (r.0 (by_recursion (without x G) y z how h)))),
      (λ h. by_position (without x G) y z how (r.1 (subst (λ H. RelatesIn H y z how) (sym t.back) (by_recursion G y z how h)))),
    )

-- of the first nodes
pub step_below : (m : ℕ) (F : Forest (List ℕ)) (s : Step) → IsForestOf m F → IsStep F s → IsForestOf (suc m) (after_step m s F)
step_below m F s f step =
    let is = forest_is F f.forest in
    let new : IsIn F m → ⊥ = λ i. (let h : m < m = (f.nodes m).0 i in omega arith) in
    record {
      forest = is_forest (after_step m s F) (step_is F m s is new step);
      nodes = λ x. let n = step_nodes F m s x is step in (
        (λ i. elim (n.0 i) [ inl j ↦ let h : x < m = (f.nodes x).0 j in omega arith | inr e ↦ omega arith ]),
        (λ h. n.1 (elim (cases_eq x m) [ inl e ↦ inr e | inr ne ↦ inl ((f.nodes x).1 (omega arith)) ])),
      );
    }

pub without_below : (m : ℕ) (G : Forest (List ℕ)) → IsForestOf (suc m) G → IsForestOf m (without m G)
without_below m G g =
    let is = forest_is G g.forest in
    let last : IsIn G m = (g.nodes m).1 (omega arith) in
    record {
      forest = is_forest (without m G) (take_out m G is last).is;
      nodes = λ x. let n = without_nodes m G x is last in (
        (λ i. let j = n.0 i in let h : x < suc m = (g.nodes x).0 j.0 in let ne : x ≢ m = j.1 in omega arith),
        (λ h. n.1 ((g.nodes x).1 (omega arith), λ e. absurd (omega arith))),
      );
    }

pub below_back : (m : ℕ) (G : Forest (List ℕ)) → IsForestOf (suc m) G → (s : Step) × IsNamedStep (without m G) s × (after_step m s (without m G) ≡ G)
below_back m G g = named_back m G (forest_is G g.forest) ((g.nodes m).1 (omega arith))

-- the last node is new to a forest of those before it
pub last_new : (m : ℕ) (F : Forest (List ℕ)) → IsForestOf m F → IsIn F m → ⊥
last_new m F f i = let h : m < m = (f.nodes m).0 i in omega arith

pub below_once : (m : ℕ) (F E : Forest (List ℕ)) (s t : Step) → IsForestOf m F → IsForestOf m E → IsNamedStep F s → IsNamedStep E t → after_step m s F ≡ after_step m t E → (F ≡ E) × (s ≡ t)
below_once m F E s t f e a b same =
    let p : F ≡ E =
    sym (step_taken_back F m s (forest_is F f.forest) (last_new m F f) (named_step F s a)) ∙ ap (without m) same
    ∙ step_taken_back E m t (forest_is E e.forest) (last_new m E e) (named_step E t b) in
    (p, steps_one F m s t (forest_is F f.forest) (last_new m F f) a (subst (λ G. IsNamedStep G t) (sym p) b) (same ∙ ap (after_step m t) (sym p)))
