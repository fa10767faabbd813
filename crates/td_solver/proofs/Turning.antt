-- The turns of the loop: the trees that were added, and the list of the steps so far.
use Rattle.std.specs.Prelude.{◌≡◌, ℕ, suc, ◌+◌, ◌-◌, ◌<◌, ◌≤◌, List, [], ◌∷◌, ◌++◌, length, take, drop, refl}
use Rattle.std.proofs.Common.{inl, inr, subst, sym, ap, get_or, ◌∙◌, arith, get_or-drop, length-drop}
use Rattle.std.proofs.lemmas.Grind.{take_at_read}
use Rattle.gr_base.specs.Lists.{IsAmong, IsWithin, IsListing}
use Rattle.gr_base.specs.Forests.{Forest, IsOneTree}
use Rattle.gr_base.proofs.ListLemmas.{IsAmong-map, IsAmong-map_from}
use Rattle.td_canon.specs.TreeSets.{Entry, texts_of}
use Rattle.td_desc.specs.Descriptions.{Description}
use Rattle.td_forest.specs.declared.Step.{Step}
use Rattle.td_forest.specs.Nodes.{IsForestOf}
use Rattle.td_forest.specs.Steps.{after_step}
use Rattle.td_forest.specs.Without.{without}
use Rattle.td_colour.specs.Models.{IsForestModel}
use Rattle.td_solver.specs.Choices.{Suffices}
use Rattle.td_solver.specs.Candidates.{IsPushed}
use Rattle.td_solver.specs.Searches.{Below}
use Rattle.td_solver.specs.Solutions.{GainsSome}
use Rattle.td_solver.specs.Turns.{HasTextOf, HasAllBelow, HasAllTried}
use Rattle.td_solver.proofs.Advancing.{StepFacts, step_facts, every_tried, tried_one}

-- what a set gains, it gains step by step
module _ (texts : List (List ℕ)) (d : Description ℕ ℕ) where
  pub gains_none : (set : List Entry) → GainsSome texts d set set
  gains_none set = record { kept = λ e i. i; only = λ e i. inl i; whole = λ h. h }

  pub gains_both : (a b c : List Entry) → GainsSome texts d a b → GainsSome texts d b c → GainsSome texts d a c
  gains_both a b c f g = record {
    kept = λ e i. g.kept e (f.kept e i);
    only = λ e i. elim (g.only e i) [ inl j ↦ f.only e j | inr t ↦ inr t ];
    whole = λ h. g.whole (f.whole h);
  }

texts_within : (a b : List Entry) → IsWithin a b → IsWithin (texts_of a) (texts_of b)
texts_within a b w x i =
    let r = IsAmong-map_from (λ (e : Entry). e.text) a x i in
    subst (λ t. IsAmong (texts_of b) t) (sym r.2) (IsAmong-map (λ (e : Entry). e.text) b r.0 (w r.0 r.1))

module _ (text : ℕ → List ℕ) (d : Description ℕ ℕ) where
  has_more : (F : Forest (List ℕ)) (a b : List Entry) → IsWithin a b → HasTextOf text d F a → HasTextOf text d F b
  has_more F a b w h = (h.0, h.1, texts_within a b w h.0 h.2)

  module _ (m : ℕ) (F : Forest (List ℕ)) where
    pub tried_none : (more : ℕ) (set : List Entry) → HasAllTried text d more m F [] set
    tried_none more set G h one = absurd h.chosen.1

    pub tried_skip : (more : ℕ) (steps : List Step) (s : Step) (old new : List Entry) → (IsForestModel d (suc m) (after_step m s F) → ⊥) → IsWithin old new → HasAllTried text d more m F steps old
        → HasAllTried text d more m F (steps ++ s ∷ []) new
    tried_skip more steps s old new bad w all G h one = elim (tried_one m F steps s h.child h.chosen) [
      | inl t ↦ has_more G old new w (all G (record { most = h.most; child = h.child; rest = h.rest; long = h.long; chosen = t; model = h.model; parent = h.parent; below = h.below }) one)
      | inr e ↦ absurd (bad (subst (λ H. IsForestModel d (suc m) H) e h.model))
    ]

    pub tried_more : (more : ℕ) (steps : List Step) (s : Step) (old new : List Entry) → HasAllBelow text d more (suc m) (after_step m s F) new → IsWithin old new
        → HasAllTried text d (suc more) m F steps old → HasAllTried text d (suc more) m F (steps ++ s ∷ []) new
    tried_more more steps s old new below w all G h one = elim (tried_one m F steps s h.child h.chosen) [
      | inl t ↦ has_more G old new w (all G (record { most = h.most; child = h.child; rest = h.rest; long = h.long; chosen = t; model = h.model; parent = h.parent; below = h.below }) one)
      | inr e ↦
          let l : suc more ≡ suc h.rest = h.long in
          let r : h.rest ≡ more = omega arith in
          below G (subst (λ j. Below (IsForestModel d) without j (suc m) (after_step m s F) G) r (subst (λ H. Below (IsForestModel d) without h.rest (suc m) H G) e h.below)) one
    ]

    module _ (P : Step → Type 0) (f : IsForestOf m F) (c : Suffices d m F P) where
      pub tried_all : (more : ℕ) (steps : List Step) (set : List Entry) → IsListing P steps → HasAllTried text d (suc more) m F steps set → HasAllBelow text d (suc more) m F set
      tried_all more steps set l all G b one = all G (record {
        most = omega arith;
        child = b.0;
        rest = more;
        long = refl;
        chosen = every_tried d m F f P c steps l b.0 b.1 b.2;
        model = b.1;
        parent = b.2;
        below = b.3;
      }) one

    pub below_end : (more : ℕ) (set : List Entry) → more ≡ 0 → (IsOneTree F → HasTextOf text d F set) → HasAllBelow text d more m F set
    below_end more set e h G b one =
        let same : F ≡ G = subst (λ k. Below (IsForestModel d) without k m F G) e b in
        subst (λ H. HasTextOf text d H set) same (h (subst (λ H. IsOneTree H) (sym same) one))

-- the steps behind the first ones
drop_front : (xs ys : List Step) → drop (length xs) (xs ++ ys) ≡ ys
drop_front [] ys = drop_none ys
  where
    drop_none : (ys : List Step) → drop 0 ys ≡ ys
    drop_none [] = refl
    drop_none (y ∷ ys) = refl
drop_front (x ∷ xs) ys = drop_front xs ys

pub pushed_behind : (P : Step → Type 0) (old new : List Step) (start : ℕ) → start ≡ length old → IsPushed P old new → IsListing P (drop start new)
pushed_behind P old new start e p =
    subst (λ k. IsListing P (drop k new)) (sym e)
    (subst (λ xs. IsListing P (drop (length old) xs)) (sym p.is) (subst (λ xs. IsListing P xs) (sym (drop_front old p.more)) p.listing))

-- a turn at a place of the list
module _ (P : Step → Type 0) (items : List Step) (start at : ℕ) (x : Step) (l : IsListing P (drop start items)) (low : start ≤ at) (lt : at < length items) where
  here : start + (at - start) ≡ at
  here = omega arith

  within : at - start < length (drop start items)
  within = omega (arith, length-drop start items)

  read : get_or (drop start items) (at - start) x ≡ get_or items at x
  read = get_or-drop start items (at - start) x ∙ ap (λ k. get_or items k x) here

  pub turn_facts : StepFacts P (drop start items) (at - start) (get_or items at x)
  turn_facts = subst (λ s. StepFacts P (drop start items) (at - start) s) read (step_facts P (drop start items) (at - start) x l within)

  pub turn_next : take (at - start) (drop start items) ++ get_or items at x ∷ [] ≡ take (at + 1 - start) (drop start items)
  turn_next =
      let n : at - start + 1 ≡ at + 1 - start = omega arith in
      ap (λ s. take (at - start) (drop start items) ++ s ∷ []) (sym read) ∙ sym (take_at_read (drop start items) (at - start) x within).1
      ∙ ap (λ k. take k (drop start items)) n
