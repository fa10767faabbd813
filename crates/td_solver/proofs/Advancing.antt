-- What the loop of the search has done after each step.
use Rattle.std.specs.Prelude.{◌≡◌, ℕ, zero, suc, ◌+◌, ◌<◌, ◌≤◌, List, [], ◌∷◌, ◌++◌, ◌⊎◌, length, map, take, refl}
use Rattle.std.proofs.Common.{inl, inr, subst, sym, ap, ap₂, get_or, ◌∙◌, arith}
use Rattle.std.proofs.lemmas.List.{length-map}
use Rattle.gr_base.specs.Lists.{IsAmong, NoneTwice, Each, IsListing}
use Rattle.gr_base.specs.Forests.{Forest, empty}
use Rattle.gr_base.proofs.ListLemmas.{Each-at, IsAmong-append, IsAmong-append_left, IsAmong-append_right, IsAmong-get_or, Each-weaker}
use Rattle.td_desc.specs.Descriptions.{Description}
use Rattle.td_forest.specs.declared.Step.{Step}
use Rattle.td_forest.specs.declared.Made.{Made}
use Rattle.td_forest.specs.Nodes.{IsForestOf}
use Rattle.td_forest.specs.Steps.{after_step, CanMake, forest_of}
use Rattle.td_forest.specs.Names.{IsNamedStep}
use Rattle.td_forest.specs.Without.{without}
use Rattle.td_forest.proofs.Forming.{forest_is}
use Rattle.td_forest.proofs.Places.{grown_push}
use Rattle.td_forest.proofs.OneStep.{named_step, step_taken_back, steps_one, last_new}
use Rattle.td_colour.specs.Models.{IsForestModel}
use Rattle.td_solver.specs.declared.Solved.TheVariants.{All, Cut}
use Rattle.td_solver.specs.Choices.{Suffices}
use Rattle.td_solver.specs.Searches.{IsFoundBy}
use Rattle.td_solver.specs.Turns.{IsSpent, Tried, IsProgress}
use Rattle.td_solver.proofs.Finding.{found_none, found_skip, found_more, found_cut, found_all, part_all, found_end}

-- a named step of the last node can be made
pub can_make : (m : ℕ) (F : Forest (List ℕ)) (s : Step) → m < 24 → IsForestOf m F → IsNamedStep F s → CanMake F (record { node = m; step = s })
can_make m F s low f h = record { low = low; new = last_new m F f; step = named_step F s h }

one_more : {A : Type 0} (xs : List A) (y : A) (ys : List A) → length (xs ++ y ∷ ys) ≡ length xs + 1 + length ys
one_more [] y ys = omega arith
one_more (x ∷ xs) y ys = let r : length (xs ++ y ∷ ys) ≡ length xs + 1 + length ys = one_more xs y ys in omega arith

-- the step at a place of the list, and those before it
pub record StepFacts (P : Step → Type 0) (steps : List Step) (i : ℕ) (s : Step) : Type 0 where
  pub is : P s
  pub each : Each P (take i steps)
  pub new : IsAmong (take i steps) s → ⊥

each_take : (P : Step → Type 0) (i : ℕ) (steps : List Step) → Each P steps → Each P (take i steps)
each_take P zero steps h = tt
each_take P (suc i) [] h = tt
each_take P (suc i) (s ∷ steps) h = (h.0, each_take P i steps h.1)

new_at : (i : ℕ) (steps : List Step) (d : Step) → i < length steps → NoneTwice steps → IsAmong (take i steps) (get_or steps i d) → ⊥
new_at zero steps d h once a = a
new_at (suc i) [] d h once a = a
new_at (suc i) (s ∷ steps) d h once (inl e) = once.0 (subst (λ q. IsAmong steps q) e (IsAmong-get_or steps i d (omega arith)))
new_at (suc i) (s ∷ steps) d h once (inr a) = new_at i steps d (omega arith) once.1 a

pub step_facts : (P : Step → Type 0) (steps : List Step) (i : ℕ) (d : Step) → IsListing P steps → i < length steps → StepFacts P steps i (get_or steps i d)
step_facts P steps i d l h = record {
  is = Each-at P steps (get_or steps i d) l.only (IsAmong-get_or steps i d h);
  each = each_take P i steps l.only;
  new = new_at i steps d h l.once;
}

-- the forest after the call of a step, and the steps after it is taken back
pub made_forest : (old new : List Made) (m : ℕ) (s : Step) → new ≡ old ++ record { node = m; step = s } ∷ [] → forest_of new ≡ after_step m s (forest_of old)
made_forest old new m s is = ap forest_of is ∙ grown_push old (record { node = m; step = s }) empty

snoc_not_empty : (xs : List Made) (x : Made) → xs ++ x ∷ [] ≡ [] → ⊥
snoc_not_empty [] x e = cc
snoc_not_empty (y ∷ xs) x e = cc

pub snoc_same : (xs ys : List Made) (x y : Made) → xs ++ x ∷ [] ≡ ys ++ y ∷ [] → xs ≡ ys
snoc_same [] [] x y e = refl
snoc_same [] (z ∷ ys) x y e = let q : ys ++ y ∷ [] ≡ [] = cc in absurd (snoc_not_empty ys y q)
snoc_same (z ∷ xs) [] x y e = let q : xs ++ x ∷ [] ≡ [] = cc in absurd (snoc_not_empty xs x q)
snoc_same (z ∷ xs) (w ∷ ys) x y e = let p : z ≡ w = cc in let q : xs ≡ ys = snoc_same xs ys x y cc in ap₂ (λ (a : Made) (rest : List Made). a ∷ rest) p q

-- the steps so far and one more
module _ (m : ℕ) (F : Forest (List ℕ)) where
  tried_more : (steps : List Step) (s : Step) (H : Forest (List ℕ)) → Tried m F steps H ⊎ (H ≡ after_step m s F) → Tried m F (steps ++ s ∷ []) H
  tried_more steps s H (inl t) = (t.0, IsAmong-append_left steps (s ∷ []) t.0 t.1, t.2)
  tried_more steps s H (inr e) = (s, IsAmong-append_right steps (s ∷ []) s (inl refl), e)

  pub tried_one : (steps : List Step) (s : Step) (H : Forest (List ℕ)) → Tried m F (steps ++ s ∷ []) H → Tried m F steps H ⊎ (H ≡ after_step m s F)
  tried_one steps s H t = elim (IsAmong-append steps (s ∷ []) t.0 t.1) [
    | inl i ↦ inl (t.0, i, t.2)
    | inr i ↦ elim i [ inl e ↦ inr (t.2 ∙ ap (λ q. after_step m q F) e) | inr k ↦ absurd k ]
  ]

module _ (d : Description ℕ ℕ) (m : ℕ) (F : Forest (List ℕ)) (f : IsForestOf m F) (P : Step → Type 0) (c : Suffices d m F P) where
  -- all candidates are tried, once all steps are
  pub every_tried : (steps : List Step) → IsListing P steps → (H : Forest (List ℕ)) → IsForestModel d (suc m) H → without m H ≡ F → Tried m F steps H
  every_tried steps l H model parent = let n = c.all H model parent in (n.0, l.all n.0 n.1, n.2)

  -- a step that was not tried leads to a forest that was not tried
  not_tried : (steps : List Step) (s : Step) → Each P steps → P s → (IsAmong steps s → ⊥) → Tried m F steps (after_step m s F) → ⊥
  not_tried steps s each is new t =
      let other : P t.0 = Each-at P steps t.0 each t.1 in
      let e : s ≡ t.0 = steps_one F m s t.0 (forest_is F f.forest) (last_new m F f) (c.named s is) (c.named t.0 other) t.2 in
      new (subst (λ q. IsAmong steps q) (sym e) t.1)

  -- the forest after a step has the right parent
  parent_is : (s : Step) → P s → without m (after_step m s F) ≡ F
  parent_is s h = step_taken_back F m s (forest_is F f.forest) (last_new m F f) (named_step F s (c.named s h))

  pub progress_none : (more before : ℕ) → IsProgress d more m F [] before before
  progress_none more before = record { found = []; listing = found_none (IsForestModel d) without (Tried m F []) more m F (λ H t. t.1); spent = omega arith }

  by_other : (Q R : Forest (List ℕ) → Type 0) (more : ℕ) → ((H : Forest (List ℕ)) → Q H → R H) → (x : ℕ × Forest (List ℕ))
      → IsFoundBy (IsForestModel d) without Q more m F x → IsFoundBy (IsForestModel d) without R more m F x
  by_other Q R more q x h = record { most = h.most; child = h.child; rest = h.rest; long = h.long; chosen = q h.child h.chosen; model = h.model; parent = h.parent; below = h.below }

  listing_more : (steps : List Step) (s : Step) (more : ℕ) (xs : List (ℕ × Forest (List ℕ)))
      → IsListing (IsFoundBy (IsForestModel d) without (λ H. Tried m F steps H ⊎ (H ≡ after_step m s F)) more m F) xs
      → IsListing (IsFoundBy (IsForestModel d) without (Tried m F (steps ++ s ∷ [])) more m F) xs
  listing_more steps s more xs l = record {
    once = l.once;
    only = Each-weaker (IsFoundBy (IsForestModel d) without (λ H. Tried m F steps H ⊎ (H ≡ after_step m s F)) more m F) (IsFoundBy (IsForestModel d) without (Tried m F (steps ++ s ∷ [])) more m F)
        (by_other (λ H. Tried m F steps H ⊎ (H ≡ after_step m s F)) (Tried m F (steps ++ s ∷ [])) more (tried_more m F steps s)) xs l.only;
    all = λ x h. l.all x (by_other (Tried m F (steps ++ s ∷ [])) (λ H. Tried m F steps H ⊎ (H ≡ after_step m s F)) more (tried_one m F steps s) x h);
  }

  -- the step leads to no model
  pub progress_skip : (more before now : ℕ) (steps : List Step) (s : Step) → (IsForestModel d (suc m) (after_step m s F) → ⊥) → IsProgress d more m F steps before now
      → IsProgress d more m F (steps ++ s ∷ []) before now
  progress_skip more before now steps s bad p = record {
    found = p.found;
    listing = listing_more steps s more p.found (found_skip (IsForestModel d) without (Tried m F steps) more m F (after_step m s F) p.found bad p.listing);
    spent = p.spent;
  }

  longer : (xs ys : List (ℕ × Forest (List ℕ))) (C : Forest (List ℕ)) → length (xs ++ (1, C) ∷ map (λ z. (suc z.0, z.1)) ys) ≡ length xs + 1 + length ys
  longer xs ys C = one_more xs (1, C) (map (λ z. (suc z.0, z.1)) ys) ∙ ap (λ k. length xs + 1 + k) (length-map ys (λ (z : ℕ × Forest (List ℕ)). (suc z.0, z.1)))

  -- the step leads to a model, below which the search went through
  pub progress_more : (more before now then : ℕ) (steps : List Step) (s : Step) → Each P steps → P s → (IsAmong steps s → ⊥)
      → IsForestModel d (suc m) (after_step m s F) → IsProgress d (suc more) m F steps before (suc now) → IsSpent d more (suc m) (after_step m s F) now then All
      → IsProgress d (suc more) m F (steps ++ s ∷ []) before then
  progress_more more before now then steps s each is new model p r =
      let C = after_step m s F in
      let l = longer p.found r.0 C in
      let a : before ≡ suc now + length p.found = p.spent in
      let b : now ≡ then + length r.0 = r.2 in
      record {
        found = p.found ++ (1, C) ∷ map (λ z. (suc z.0, z.1)) r.0;
        listing = listing_more steps s (suc more) (p.found ++ (1, C) ∷ map (λ z. (suc z.0, z.1)) r.0)
            (found_more (IsForestModel d) without (Tried m F steps) more m F C p.found r.0 (not_tried steps s each is new) model (parent_is s is) p.listing r.1);
        spent = omega arith;
      }

  -- the search was cut off below the model
  pub progress_cut : (more before now then : ℕ) (steps : List Step) (s : Step) → Each P steps → P s → (IsAmong steps s → ⊥)
      → IsForestModel d (suc m) (after_step m s F) → IsProgress d (suc more) m F steps before (suc now) → IsSpent d more (suc m) (after_step m s F) now then Cut
      → IsSpent d (suc more) m F before then Cut
  progress_cut more before now then steps s each is new model p r =
      let C = after_step m s F in
      let l = longer p.found r.0 C in
      let a : before ≡ suc now + length p.found = p.spent in
      let b : now < length r.0 = r.2 in (
        p.found ++ (1, C) ∷ map (λ z. (suc z.0, z.1)) r.0,
        part_all (IsForestModel d) without (λ H. Tried m F steps H ⊎ (H ≡ C)) (suc more) m F (p.found ++ (1, C) ∷ map (λ z. (suc z.0, z.1)) r.0)
            (found_cut (IsForestModel d) without (Tried m F steps) more m F C p.found r.0 (not_tried steps s each is new) model (parent_is s is) p.listing r.1),
        omega arith,
        r.3,
      )

  -- nothing of the budget is left for the model
  pub progress_none_left : (more before now : ℕ) (steps : List Step) (s : Step) → Each P steps → P s → (IsAmong steps s → ⊥)
      → IsForestModel d (suc m) (after_step m s F) → now ≡ 0 → IsProgress d (suc more) m F steps before now → IsSpent d (suc more) m F before now Cut
  progress_none_left more before now steps s each is new model none p =
      let C = after_step m s F in
      let l = longer p.found [] C in
      let a : before ≡ now + length p.found = p.spent in (
        p.found ++ (1, C) ∷ [],
        part_all (IsForestModel d) without (λ H. Tried m F steps H ⊎ (H ≡ C)) (suc more) m F (p.found ++ (1, C) ∷ [])
            (found_cut (IsForestModel d) without (Tried m F steps) more m F C p.found [] (not_tried steps s each is new) model (parent_is s is) p.listing (record { once = tt; only = tt })),
        omega arith,
        none,
      )

  -- all steps were tried
  pub progress_all : (more before now : ℕ) (steps : List Step) → IsListing P steps → IsProgress d more m F steps before now → IsSpent d more m F before now All
  progress_all more before now steps l p = (p.found, found_all (IsForestModel d) without (Tried m F steps) more m F p.found (every_tried steps l) p.listing, p.spent)

pub spent_end : (d : Description ℕ ℕ) (more m : ℕ) (F : Forest (List ℕ)) (before : ℕ) → more ≡ 0 → IsSpent d more m F before before All
spent_end d more m F before e = subst (λ k. IsSpent d k m F before before All) (sym e) ([], found_end (IsForestModel d) without m F, omega arith)

pub take_far : (i : ℕ) (steps : List Step) → length steps ≤ i → take i steps ≡ steps
take_far zero [] h = refl
take_far zero (s ∷ steps) h = absurd (omega arith)
take_far (suc i) [] h = refl
take_far (suc i) (s ∷ steps) h = ap (λ rest. s ∷ rest) (take_far i steps (omega arith))
