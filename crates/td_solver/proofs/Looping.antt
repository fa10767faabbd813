-- The turns of the search's loop, in the numbers of the code.
use Rattle.std.specs.Prelude.{◌≡◌, ℕ, suc, ◌+◌, ◌-◌, ◌<◌, ◌≤◌, List, [], ◌∷◌, ◌++◌, length, take, drop, refl}
use Rattle.std.proofs.Common.{subst, sym, ap, get_or, ◌∙◌, arith, length-drop}
use Rattle.gr_base.specs.Lists.{IsWithin, IsListing}
use Rattle.gr_base.specs.Forests.{Forest}
use Rattle.td_canon.specs.TreeSets.{Entry}
use Rattle.td_desc.specs.Descriptions.{Description}
use Rattle.td_forest.specs.declared.Step.{Step}
use Rattle.td_forest.specs.Nodes.{IsForestOf}
use Rattle.td_forest.specs.Steps.{after_step, forest_of}
use Rattle.td_colour.specs.Models.{IsForestModel}
use Rattle.td_solver.specs.declared.Solved.{Solved}
use Rattle.td_solver.specs.declared.Solved.TheVariants.{All, Cut}
use Rattle.td_solver.specs.Choices.{Suffices}
use Rattle.td_solver.specs.declared.search.State.{State}
use Rattle.td_solver.specs.Turns.{IsSpent, IsProgress, HasAllBelow, HasAllTried}
use Rattle.td_solver.proofs.Advancing.{StepFacts, progress_none, progress_skip, progress_more, progress_cut, progress_none_left, progress_all, take_far}
use Rattle.td_solver.proofs.Turning.{tried_none, tried_skip, tried_more, tried_all, turn_facts, turn_next}

-- how far the loop is: what was spent, and the texts that the set has, by the steps before a place of the list
pub record Runs (text : ℕ → List ℕ) (d : Description ℕ ℕ) (m n : ℕ) (state : State) (start at before now : ℕ) (set : List Entry) : Type 0 where
  pub progress : IsProgress d (n - m) m (forest_of state.forest) (take (at - start) (drop start state.steps.items)) before now
  pub texts : HasAllTried text d (n - m) m (forest_of state.forest) (take (at - start) (drop start state.steps.items)) set

module _ (text : ℕ → List ℕ) (d : Description ℕ ℕ) (m n : ℕ) (less : m < n) (state : State) (f : IsForestOf m (forest_of state.forest)) (P : Step → Type 0)
    (c : Suffices d m (forest_of state.forest) P) (start : ℕ) (l : IsListing P (drop start state.steps.items)) where
  abbrev F : Forest (List ℕ)
  F = forest_of state.forest

  abbrev items : List Step
  items = state.steps.items

  abbrev tried : ℕ → List Step
  tried at = take (at - start) (drop start items)

  abbrev Reached : ℕ → ℕ → ℕ → List Entry → Type 0
  Reached at before now set = Runs text d m n state start at before now set

  rest : n - m ≡ suc (n - (m + 1))
  rest = omega arith

  later : m + 1 ≡ suc m
  later = omega arith

  none_tried : tried start ≡ []
  none_tried = let e : start - start ≡ 0 = omega arith in ap (λ k. take k (drop start items)) e ∙ take_none (drop start items)
    where
      take_none : (xs : List Step) → take 0 xs ≡ []
      take_none [] = refl
      take_none (x ∷ xs) = refl

  pub reached_none : (before : ℕ) (set : List Entry) → Reached start before before set
  reached_none before set = record {
    progress = subst (λ ss. IsProgress d (n - m) m F ss before before) (sym none_tried) (progress_none d m F f P c (n - m) before);
    texts = subst (λ ss. HasAllTried text d (n - m) m F ss set) (sym none_tried) (tried_none text d m F (n - m) set);
  }

  pub reached_all : (at before now : ℕ) (set : List Entry) → length items ≤ at → Reached at before now set → IsSpent d (n - m) m F before now All × HasAllBelow text d (n - m) m F set
  reached_all at before now set far r =
      let whole : tried at ≡ drop start items = take_far (at - start) (drop start items) (omega (arith, length-drop start items)) in (
        progress_all d m F f P c (n - m) before now (drop start items) l (subst (λ ss. IsProgress d (n - m) m F ss before now) whole r.progress),
        subst (λ k. HasAllBelow text d k m F set) (sym rest)
            (tried_all text d m F P f c (n - (m + 1)) (drop start items) set l
            (subst (λ k. HasAllTried text d k m F (drop start items) set) rest (subst (λ ss. HasAllTried text d (n - m) m F ss set) whole r.texts))),
      )

  module _ (at : ℕ) (low : start ≤ at) (lt : at < length items) (x s : Step) (s_is : s ≡ get_or items at x) where
    facts : StepFacts P (drop start items) (at - start) s
    facts = subst (λ t. StepFacts P (drop start items) (at - start) t) (sym s_is) (turn_facts P items start at x l low lt)

    pub step_is : P s
    step_is = facts.is

    next : tried at ++ s ∷ [] ≡ tried (at + 1)
    next = ap (λ t. tried at ++ t ∷ []) s_is ∙ turn_next P items start at x l low lt

    later_not : (IsForestModel d (m + 1) (after_step m s F) → ⊥) → IsForestModel d (suc m) (after_step m s F) → ⊥
    later_not bad h = bad (subst (λ k. IsForestModel d k (after_step m s F)) (sym later) h)

    later_is : IsForestModel d (m + 1) (after_step m s F) → IsForestModel d (suc m) (after_step m s F)
    later_is h = subst (λ k. IsForestModel d k (after_step m s F)) later h

    later_spent : (before now : ℕ) (r : Solved) → IsSpent d (n - (m + 1)) (m + 1) (after_step m s F) before now r → IsSpent d (n - (m + 1)) (suc m) (after_step m s F) before now r
    later_spent before now r h = subst (λ k. IsSpent d (n - (m + 1)) k (after_step m s F) before now r) later h

    -- the step leads to no model
    pub reached_skip : (before now : ℕ) (old new : List Entry) → (IsForestModel d (m + 1) (after_step m s F) → ⊥) → IsWithin old new → Reached at before now old → Reached (at + 1) before now new
    reached_skip before now old new bad w r = record {
      progress = subst (λ ss. IsProgress d (n - m) m F ss before now) next (progress_skip d m F f P c (n - m) before now (tried at) s (later_not bad) r.progress);
      texts = subst (λ ss. HasAllTried text d (n - m) m F ss new) next (tried_skip text d m F (n - m) (tried at) s old new (later_not bad) w r.texts);
    }

    module _ (model : IsForestModel d (m + 1) (after_step m s F)) (before now left then : ℕ) (old : List Entry) (r : Reached at before now old) where
      spend : now ≡ suc left → IsProgress d (suc (n - (m + 1))) m F (tried at) before (suc left)
      spend e = subst (λ b. IsProgress d (suc (n - (m + 1))) m F (tried at) before b) e (subst (λ k. IsProgress d k m F (tried at) before now) rest r.progress)

      -- the search went through all that comes of the model
      pub reached_more : (new : List Entry) → now ≡ suc left → IsSpent d (n - (m + 1)) (m + 1) (after_step m s F) left then All
          → HasAllBelow text d (n - (m + 1)) (m + 1) (after_step m s F) new → IsWithin old new → Reached (at + 1) before then new
      reached_more new e h below w = record {
        progress = subst (λ ss. IsProgress d (n - m) m F ss before then) next
            (subst (λ k. IsProgress d k m F (tried at ++ s ∷ []) before then) (sym rest)
            (progress_more d m F f P c (n - (m + 1)) before left then (tried at) s facts.each facts.is facts.new (later_is model) (spend e) (later_spent left then All h)));
        texts = subst (λ ss. HasAllTried text d (n - m) m F ss new) next
            (subst (λ k. HasAllTried text d k m F (tried at ++ s ∷ []) new) (sym rest)
            (tried_more text d m F (n - (m + 1)) (tried at) s old new
            (subst (λ k. HasAllBelow text d (n - (m + 1)) k (after_step m s F) new) later below) w
            (subst (λ k. HasAllTried text d k m F (tried at) old) rest r.texts)));
      }

      -- it was cut off there
      pub reached_cut : now ≡ suc left → IsSpent d (n - (m + 1)) (m + 1) (after_step m s F) left then Cut → IsSpent d (n - m) m F before then Cut
      reached_cut e h =
          subst (λ k. IsSpent d k m F before then Cut) (sym rest)
          (progress_cut d m F f P c (n - (m + 1)) before left then (tried at) s facts.each facts.is facts.new (later_is model) (spend e) (later_spent left then Cut h))

      -- nothing of the budget was left for it
      pub reached_none_left : now ≡ 0 → then ≡ now → IsSpent d (n - m) m F before then Cut
      reached_none_left e same =
          subst (λ b. IsSpent d (n - m) m F before b Cut) (sym same)
          (subst (λ k. IsSpent d k m F before now Cut) (sym rest)
          (progress_none_left d m F f P c (n - (m + 1)) before now (tried at) s facts.each facts.is facts.new (later_is model) e
          (subst (λ k. IsProgress d k m F (tried at) before now) rest r.progress)))
