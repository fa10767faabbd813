-- Steps that what is told of parents excludes.
use Rattle.std.specs.Prelude.{◌≡◌, ℕ, zero, suc, ◌+◌, ◌-◌, ◌<◌, ◌≤◌, List, [], ◌∷◌, ◌++◌, ◌↔◌, Some, None, Bool, true, false, IsTrue, refl}
use Rattle.std.specs.Bool.{OnFalse}
use Rattle.std.proofs.Common.{inl, inr, subst, sym, ap, ◌∙◌, arith}
use Rattle.std.proofs.lemmas.Bool.{cases_eq, lt-ltb, le-ltb}
use Rattle.gr_base.specs.Forests.{Forest, empty, tree, IsOver}
use Rattle.gr_base.proofs.ListLemmas.{Each-at}
use Rattle.td_desc.specs.declared.Dominance.TheVariants.{Parent}
use Rattle.td_desc.specs.declared.Related.{Related}
use Rattle.td_desc.specs.Descriptions.{Description}
use Rattle.td_forest.specs.declared.Relation.TheVariants as rel
use Rattle.td_forest.specs.declared.Step.{Step}
use Rattle.td_forest.specs.declared.Step.TheVariants.{Merge, Insert}
use Rattle.td_forest.specs.Moves.{moved, stay, IsMoved}
use Rattle.td_forest.specs.Nodes.{IsIn, Relates, Stands}
use Rattle.td_forest.specs.Steps.{after_step, IsStep, kids_of, width}
use Rattle.td_forest.proofs.Places.{AllFull, rise_full}
use Rattle.td_forest.proofs.Twins.{AllOnce}
use Rattle.td_forest.proofs.SetLemmas.{eqb-same}
use Rattle.td_forest.proofs.Named.{has_true, has_false, has_in_true, has_in_false}
use Rattle.td_forest.proofs.Positions.{in_at, at_in, none_some, at_same, at_over, stands_once, by_position}
use Rattle.td_forest.proofs.Moving.{merge_moves, insert_moves, set_is}
use Rattle.td_forest.proofs.Forming.{forest_is}
use Rattle.td_forest.proofs.OneStep.{step_below, step_related}
use Rattle.td_colour.specs.Relations.{Holds}
use Rattle.td_colour.specs.Models.{IsForestModel}
use Rattle.td_solver.specs.Ties.{HasParent, HasParentBelow}
use Rattle.td_solver.specs.Candidates.{LeadsOn, LeadsNowhere, NoneUnder, AreTold}

-- positions with a last number
snoc_none : (p : List ℕ) (i : ℕ) → p ++ i ∷ [] ≡ [] → ⊥
snoc_none [] i e = cc
snoc_none (j ∷ p) i e = cc

snoc_front : (p q : List ℕ) (i j : ℕ) → p ++ i ∷ [] ≡ q ++ j ∷ [] → p ≡ q
snoc_front [] [] i j e = refl
snoc_front [] (k ∷ q) i j e = let f : q ++ j ∷ [] ≡ [] = cc in absurd (snoc_none q j f)
snoc_front (k ∷ p) [] i j e = let f : p ++ i ∷ [] ≡ [] = cc in absurd (snoc_none p i f)
snoc_front (k ∷ p) (l ∷ q) i j e = let a : k ≡ l = cc in let f : p ++ i ∷ [] ≡ q ++ j ∷ [] = cc in ap (λ z. z ∷ p) a ∙ ap (λ zs. l ∷ zs) (snoc_front p q i j f)

snoc_longer : (p : List ℕ) (k a b : ℕ) → p ++ k ∷ [] ≡ p ++ a ∷ b ∷ [] → ⊥
snoc_longer [] k a b e = cc
snoc_longer (i ∷ p) k a b e = let f : p ++ k ∷ [] ≡ p ++ a ∷ b ∷ [] = cc in snoc_longer p k a b f

over_more : (p : List ℕ) (k : ℕ) → IsOver p (p ++ k ∷ [])
over_more [] k = tt
over_more (i ∷ p) k = (refl, over_more p k)

over_two : (p : List ℕ) (k j : ℕ) → IsOver p (p ++ k ∷ [] ++ j ∷ [])
over_two [] k j = tt
over_two (i ∷ p) k j = (refl, over_two p k j)

-- no node stands above the roots
none_at_top : (F : Forest (List ℕ)) (y : ℕ) → Stands F y [] → ⊥
none_at_top empty y h = none_some h.0 h.1
none_at_top (tree set kids more) y h = none_some h.0 h.1

-- the base of an insertion stays, and the first tree that is taken over goes one down
moved_base : (base : List ℕ) (from to : ℕ) → moved base from to base ≡ base
moved_base [] from to = refl
moved_base (i ∷ base) from to = rw (eqb-same i) (ap (λ zs. i ∷ zs) (moved_base base from to))

moved_first : (base : List ℕ) (from to : ℕ) → from < to → moved base from to (base ++ from ∷ []) ≡ base ++ from ∷ (from - from) ∷ []
moved_first [] from to h = rw (le-ltb from from (omega arith), lt-ltb from to h) refl
moved_first (i ∷ base) from to h = rw (eqb-same i) (ap (λ zs. i ∷ zs) (moved_first base from to h))

-- some node stands at each child
root_at : (F : Forest (List ℕ)) (i : ℕ) → AllFull F → i < width F → (z : ℕ) × Stands F z (i ∷ [])
root_at empty i full h = absurd (omega arith)
root_at (tree [] kids more) i full h = absurd (full.0 refl)
root_at (tree (z ∷ set) kids more) zero full h = (z, (z ∷ set, refl, inl refl))
root_at (tree (z ∷ set) kids more) (suc i) full h = root_at more i full.2 (omega arith)

down_one : (set : List ℕ) (kids more : Forest (List ℕ)) (y i : ℕ) → Stands kids y (i ∷ []) → Stands (tree set kids more) y (zero ∷ i ∷ [])
down_one set kids more y i h = h

kid_at : (F : Forest (List ℕ)) (u : ℕ) (base : List ℕ) (i : ℕ) → AllOnce F → AllFull F → Stands F u base → i < width (kids_of u F) → (z : ℕ) × Stands F z (base ++ i ∷ [])
kid_at empty u base i once full b h = absurd (none_some b.0 b.1)
kid_at (tree set kids more) u [] i once full b h = absurd (none_some b.0 b.1)
kid_at (tree set kids more) u (zero ∷ []) i once full b h =
    let e : kids_of u (tree set kids more) ≡ kids = rw (has_true u set (set_is set u b)) refl in
    root_at kids i full.1 (subst (λ G. i < width G) e h)
kid_at (tree set kids more) u (zero ∷ c ∷ base) i once full b h =
    let j : IsIn kids u = at_in kids u (c ∷ base) b in
    let e : kids_of u (tree set kids more) ≡ kids_of u kids = rw (has_false u set (λ k. once.1 u k j), has_in_true u kids j) refl in
    kid_at kids u (c ∷ base) i once.4 full.1 b (subst (λ G. i < width G) e h)
kid_at (tree set kids more) u (suc c ∷ base) i once full b h =
    let j : IsIn more u = at_in more u (c ∷ base) b in
    let e : kids_of u (tree set kids more) ≡ kids_of u more = rw (has_false u set (λ k. once.2 u k j), has_in_false u kids (λ k. once.3 u k j)) refl in
    kid_at more u (c ∷ base) i once.5 full.2 b (subst (λ G. i < width G) e h)

module _ (d : Description ℕ ℕ) (m : ℕ) (F : Forest (List ℕ)) (model : IsForestModel d m F) where
  once : AllOnce F
  once = (forest_is F model.nodes.forest).once

  -- what is told of parents holds in a model
  parent_holds : (n : ℕ) (G : Forest (List ℕ)) (x y : ℕ) → IsForestModel d n G → HasParent d.relations x y → x < n → y < n → Holds G Parent x y
  parent_holds n G x y h told a b = Each-at (λ (r : Related). r.from < n → r.to < n → Holds G r.how r.from r.to) d.relations (record { from = x; how = Parent; to = y }) h.relations told a b

  -- two old nodes at one position afterwards were at one tree node before
  same_before : (s : Step) (x y : ℕ) (p : List ℕ) → IsStep F s → x < m → y < m → Stands (after_step m s F) x p → Stands (after_step m s F) y p → Relates F x y rel.Same
  same_before s x y p step a b h k =
      (step_related F m s x y rel.Same (forest_is F model.nodes.forest) step (λ e. (let q : x ≡ m = e in omega arith)) (λ e. (let q : y ≡ m = e in omega arith))).1
      (by_position (after_step m s F) x y rel.Same (at_same (after_step m s F) x y p h k))

  once_after : (s : Step) → IsStep F s → AllOnce (after_step m s F)
  once_after s step = (forest_is (after_step m s F) (step_below m F s model.nodes step).forest).once

  module _ (p : ℕ) (low : p < m) (told : HasParent d.relations p m) where
    told_holds : (s : Step) → LeadsOn d m F s → Holds (after_step m s F) Parent p m
    told_holds s leads = parent_holds (suc m) (after_step m s F) p m leads told (omega arith) (omega arith)

    -- a node whose parent is told goes under that
    pub under_parent : (u a b : ℕ) → IsStep F (Insert (Some u) a b) → LeadsOn d m F (Insert (Some u) a b) → Relates F u p rel.Same
    under_parent u a b step leads =
        let s : Step = Insert (Some u) a b in
        let H = after_step m s F in
        let at = in_at F u step.0 in
        let base = at.head ∷ at.rest in
        let moves : IsMoved F H (moved base a b) m (base ++ a ∷ []) = insert_moves m (Some u) a b F base once step at.is in
        let stays : Stands H u base = subst (λ q. Stands H u q) (moved_base base a b) (moves.old u base at.is) in
        let h = told_holds s leads in
        let e : h.0 ++ h.4.0 ∷ [] ≡ base ++ a ∷ [] = sym h.4.1 ∙ stands_once H m h.1 (base ++ a ∷ []) (once_after s step) h.3 moves.new in
        let e' : h.0 ≡ base = snoc_front h.0 base h.4.0 a e in
        let u_low : u < m = (model.nodes.nodes u).0 step.0 in
        same_before s u p base step u_low low stays (subst (λ q. Stands H p q) e' h.2)

    -- and not among the roots
    pub no_root : (a b : ℕ) → IsStep F (Insert None a b) → LeadsNowhere d m F (Insert None a b)
    no_root a b step leads =
        let s : Step = Insert None a b in
        let H = after_step m s F in
        let moves : IsMoved F H (moved [] a b) m (a ∷ []) = insert_moves m None a b F [] once step refl in
        let h = told_holds s leads in
        let e : h.0 ++ h.4.0 ∷ [] ≡ [] ++ a ∷ [] = sym h.4.1 ∙ stands_once H m h.1 (a ∷ []) (once_after s step) h.3 moves.new in
        let e' : h.0 ≡ [] = snoc_front h.0 [] h.4.0 a e in
        none_at_top H p (subst (λ q. Stands H p q) e' h.2)

    -- a merge goes to a node with the same parent
    module _ (at : ℕ) (here : IsIn F at) where
      place : (pos : List ℕ) × Stands F at pos
      place = let q = in_at F at here in (q.head ∷ q.rest, q.is)

      moves : IsMoved F (after_step m (Merge at) F) stay m place.0
      moves = merge_moves m at F place.0 once here place.1

      at_low : at < m
      at_low = (model.nodes.nodes at).0 here

      held : (leads : LeadsOn d m F (Merge at)) → (q : List ℕ) × (k : ℕ) × Stands (after_step m (Merge at) F) p q × (place.0 ≡ q ++ k ∷ [])
      held leads =
          let h = told_holds (Merge at) leads in
          (h.0, h.4.0, h.2, stands_once (after_step m (Merge at) F) m place.0 h.1 (once_after (Merge at) here) moves.new h.3 ∙ h.4.1)

      pub merge_over : LeadsOn d m F (Merge at) → Relates F p at rel.Over
      merge_over leads =
          let h = held leads in
          let H = after_step m (Merge at) F in
          let o : IsOver h.0 place.0 = subst (λ q. IsOver h.0 q) (sym h.3) (over_more h.0 h.1) in
          (step_related F m (Merge at) p at rel.Over (forest_is F model.nodes.forest) here (λ e. (let q : p ≡ m = e in omega arith)) (λ e. (let q : at ≡ m = e in let l : at < m = at_low in omega arith))).1
          (by_position H p at rel.Over (at_over H p at h.0 place.0 h.2 (moves.old at place.0 place.1) o))

      pub merge_same : (other : ℕ) → other < m → HasParent d.relations other at → LeadsOn d m F (Merge at) → Relates F other p rel.Same
      merge_same other less also leads =
          let h = held leads in
          let H = after_step m (Merge at) F in
          let l : at < m = at_low in
          let k = parent_holds (suc m) H other at leads also (omega arith) (omega arith) in
          let e : k.0 ++ k.4.0 ∷ [] ≡ h.0 ++ h.1 ∷ [] = sym k.4.1 ∙ stands_once H at k.1 place.0 (once_after (Merge at) here) k.3 (moves.old at place.0 place.1) ∙ h.3 in
          let e' : k.0 ≡ h.0 = snoc_front k.0 h.0 k.4.0 h.1 e in
          same_before (Merge at) other p h.0 here less low (subst (λ q. Stands H other q) e' k.2) h.2

  -- a node whose child is told goes under what is over the child
  pub under_over : (y : ℕ) (low : y < m) (told : HasParent d.relations m y) (u a b : ℕ) → IsStep F (Insert (Some u) a b) → LeadsOn d m F (Insert (Some u) a b) → Relates F u y rel.Over
  under_over y low told u a b step leads =
      let s : Step = Insert (Some u) a b in
      let H = after_step m s F in
      let at = in_at F u step.0 in
      let base = at.head ∷ at.rest in
      let moves : IsMoved F H (moved base a b) m (base ++ a ∷ []) = insert_moves m (Some u) a b F base once step at.is in
      let stays : Stands H u base = subst (λ q. Stands H u q) (moved_base base a b) (moves.old u base at.is) in
      let h = parent_holds (suc m) H m y leads told (omega arith) (omega arith) in
      let e : h.0 ≡ base ++ a ∷ [] = stands_once H m h.0 (base ++ a ∷ []) (once_after s step) h.2 moves.new in
      let o : IsOver base h.1 = subst (λ q. IsOver base q) (sym h.4.1) (subst (λ q. IsOver base (q ++ h.4.0 ∷ [])) (sym e) (over_two base a h.4.0)) in
      let u_low : u < m = (model.nodes.nodes u).0 step.0 in
      (step_related F m s u y rel.Over (forest_is F model.nodes.forest) step (λ q. (let f : u ≡ m = q in omega arith)) (λ q. (let f : y ≡ m = q in omega arith))).1
      (by_position H u y rel.Over (at_over H u y base h.1 stays h.3 o))

  -- where the parents of all nodes under u are told, a new node there takes over none of them
  pub takes_none : (u a b : ℕ) → AreTold d.relations m F u m → IsStep F (Insert (Some u) a b) → LeadsOn d m F (Insert (Some u) a b) → a ≡ b
  takes_none u a b told step leads = elim (cases_eq a b) [ inl e ↦ e | inr ne ↦ absurd (some_taken (omega (arith, step.1))) ]
    where
      some_taken : a < b → ⊥
      some_taken less =
          let s : Step = Insert (Some u) a b in
          let H = after_step m s F in
          let at = in_at F u step.0 in
          let base = at.head ∷ at.rest in
          let moves : IsMoved F H (moved base a b) m (base ++ a ∷ []) = insert_moves m (Some u) a b F base once step at.is in
          let wide : b ≤ width (kids_of u F) = step.2 in
          let z = kid_at F u base a once (rise_full F (forest_is F model.nodes.forest).rise) at.is (omega arith) in
          let z_low : z.0 < m = (model.nodes.nodes z.0).0 (at_in F z.0 (base ++ a ∷ []) z.1) in
          let over : Relates F u z.0 rel.Over = by_position F u z.0 rel.Over (at_over F u z.0 base (base ++ a ∷ []) at.is z.1 (over_more base a)) in
          let x = told z.0 z_low over in
          let x_low : x.0 < m = x.1 in
          let f = parent_holds m F x.0 z.0 model x.2 x_low z_low in
          let e : f.0 ++ f.4.0 ∷ [] ≡ base ++ a ∷ [] = sym f.4.1 ∙ stands_once F z.0 f.1 (base ++ a ∷ []) once f.3 z.1 in
          let there : Stands F x.0 base = subst (λ q. Stands F x.0 q) (snoc_front f.0 base f.4.0 a e) f.2 in
          let stays : Stands H x.0 base = subst (λ q. Stands H x.0 q) (moved_base base a b) (moves.old x.0 base there) in
          let goes : Stands H z.0 (base ++ a ∷ (a - a) ∷ []) = subst (λ q. Stands H z.0 q) (moved_first base a b less) (moves.old z.0 (base ++ a ∷ []) z.1) in
          let h = parent_holds (suc m) H x.0 z.0 leads x.2 (omega arith) (omega arith) in
          let e1 : h.0 ≡ base = stands_once H x.0 h.0 base (once_after s step) h.2 stays in
          let e2 : h.1 ≡ base ++ a ∷ (a - a) ∷ [] = stands_once H z.0 h.1 (base ++ a ∷ (a - a) ∷ []) (once_after s step) h.3 goes in
          snoc_longer base h.4.0 a (a - a) (subst (λ q. q ++ h.4.0 ∷ [] ≡ base ++ a ∷ (a - a) ∷ []) e1 (sym h.4.1 ∙ e2))

-- one node more
pub told_more : (rs : List Related) (m : ℕ) (F : Forest (List ℕ)) (u k : ℕ) → AreTold rs m F u k → (Relates F u k rel.Over → HasParentBelow rs m k) → AreTold rs m F u (k + 1)
told_more rs m F u k told last z low over = elim (cases_eq z k) [
  | inl e ↦ subst (λ y. HasParentBelow rs m y) (sym e) (last (subst (λ y. Relates F u y rel.Over) e over))
  | inr ne ↦ told z (omega arith) over
]

-- tests of what is told of parents
module _ (d : Description ℕ ℕ) (m : ℕ) (F : Forest (List ℕ)) (model : IsForestModel d m F) (p : ℕ) (low : p < m) (told : HasParent d.relations p m) (u : ℕ) where
  pub by_parent : (b : Bool) → IsTrue b ↔ Relates F u p rel.Same → OnFalse b (NoneUnder d m F u)
  by_parent true t = tt
  by_parent false t = λ i j step leads. (let e : ◌≡◌ {A = Bool} false true = t.1 (under_parent d m F model p low told u i j step leads) in cc)

  pub by_over : u < m → (b : Bool) → IsTrue b ↔ Relates F p u rel.Over → OnFalse b (LeadsNowhere d m F (Merge u))
  by_over less true t = tt
  by_over less false t = λ leads. (let e : ◌≡◌ {A = Bool} false true = t.1 (merge_over d m F model p low told u ((model.nodes.nodes u).1 less) leads) in cc)

  pub by_same : u < m → (other : ℕ) → other < m → HasParent d.relations other u → (b : Bool) → IsTrue b ↔ Relates F other p rel.Same → OnFalse b (LeadsNowhere d m F (Merge u))
  by_same less other o_low also true t = tt
  by_same less other o_low also false t = λ leads. (let e : ◌≡◌ {A = Bool} false true = t.1 (merge_same d m F model p low told u ((model.nodes.nodes u).1 less) other o_low also leads) in cc)

module _ (d : Description ℕ ℕ) (m : ℕ) (F : Forest (List ℕ)) (model : IsForestModel d m F) where
  pub by_kid : (y : ℕ) → y < m → HasParent d.relations m y → (u : ℕ) (b : Bool) → IsTrue b ↔ Relates F u y rel.Over → OnFalse b (NoneUnder d m F u)
  by_kid y low told u true t = tt
  by_kid y low told u false t = λ i j step leads. (let e : ◌≡◌ {A = Bool} false true = t.1 (under_over d m F model y low told u i j step leads) in cc)
