-- One turn of the search: a step taken, what comes of it, and the step taken back.
use Rattle.std.specs.Prelude.{◌≡◌, ℕ, zero, suc, ◌+◌, ◌<◌, List, [], ◌∷◌, ◌++◌, length, take, refl}
use Rattle.std.proofs.Common.{subst, sym, ap, ◌∙◌, arith}
use Rattle.gr_store.specs.Contents.{IsEarlier, mark_of, first_part}
use Rattle.gr_store.specs.declared.room.Mark.{Mark}
use Rattle.gr_store.proofs.Growth.{first_part-grown, IsEarlier-grown}
use Rattle.td_desc.specs.declared.Description as code
use Rattle.td_desc.specs.Descriptions.{Description, description_of}
use Rattle.td_forest.specs.declared.Step.{Step}
use Rattle.td_forest.specs.declared.Made.{Made}
use Rattle.td_forest.specs.Steps.{after_step, forest_of}
use Rattle.td_colour.specs.Models.{IsForestModel}
use Rattle.td_solver.specs.declared.Solved.{Solved}
use Rattle.td_solver.specs.declared.search.State.{State}
use Rattle.td_solver.specs.Candidates.{IsPushed}
use Rattle.td_solver.specs.Tasks.{IsCandidateOf}
use Rattle.td_solver.specs.Turns.{IsTaken, IsRestored, IsSpent, Keeps}
use Rattle.td_solver.proofs.Advancing.{made_forest, snoc_same}

pub restored_none : (a : State) → IsRestored a a
restored_none a = record { forest = refl; store = refl; steps = refl }

pub restored_both : (a b c : State) → IsRestored a b → IsRestored b c → IsRestored a c
restored_both a b c f g = record { forest = g.forest ∙ f.forest; store = g.store ∙ f.store; steps = g.steps ∙ f.steps }

longer_made : (xs : List Made) (x : Made) → 0 < length (xs ++ x ∷ [])
longer_made [] x = omega arith
longer_made (y ∷ xs) x = omega arith

pub left_zero : (n : ℕ) → (0 < n → ⊥) → n ≡ 0
left_zero zero none = refl
left_zero (suc n) none = absurd (none (omega arith))

-- a turn: I is the state when the loop began, S the one when the turn began, T after the step, U after what comes of it
module _ (dd : code.Description) (m : ℕ) (s : Step) (I S : State) (same : IsRestored I S) where
  abbrev d : Description ℕ ℕ
  d = description_of dd

  pub model_here : IsForestModel d m (forest_of I.forest) → IsForestModel d m (forest_of S.forest)
  model_here h = subst (λ ms. IsForestModel d m (forest_of ms)) (sym same.forest) h

  pub keeps_here : Keeps dd m (forest_of I.forest) I.store → Keeps dd m (forest_of S.forest) S.store
  keeps_here h = subst (λ st. Keeps dd m (forest_of S.forest) st) (sym same.store) (subst (λ ms. Keeps dd m (forest_of ms) I.store) (sym same.forest) h)

  pub candidate_here : IsCandidateOf dd m (forest_of I.forest) s → IsCandidateOf dd m (forest_of S.forest) s
  candidate_here h = subst (λ ms. IsCandidateOf dd m (forest_of ms) s) (sym same.forest) h

  pub bad_here : (IsForestModel d (m + 1) (after_step m s (forest_of S.forest)) → ⊥) → IsForestModel d (m + 1) (after_step m s (forest_of I.forest)) → ⊥
  bad_here bad h = bad (subst (λ ms. IsForestModel d (m + 1) (after_step m s (forest_of ms))) (sym same.forest) h)

  module _ (T : State) (taken : IsTaken dd m s S T) where
    pub forest_then : forest_of T.forest ≡ after_step m s (forest_of I.forest)
    forest_then = made_forest S.forest T.forest m s taken.forest ∙ ap (λ ms. after_step m s (forest_of ms)) same.forest

    pub model_then : IsForestModel d (m + 1) (after_step m s (forest_of I.forest))
    model_then = subst (λ G. IsForestModel d (m + 1) G) forest_then taken.model

    pub spent_then : (more before now : ℕ) (r : Solved) → IsSpent d more (m + 1) (forest_of T.forest) before now r → IsSpent d more (m + 1) (after_step m s (forest_of I.forest)) before now r
    spent_then more before now r h = subst (λ G. IsSpent d more (m + 1) G before now r) forest_then h

    module _ (U : State) (back : IsRestored T U) where
      forest_is : U.forest ≡ S.forest ++ record { node = m; step = s } ∷ []
      forest_is = back.forest ∙ taken.forest

      pub some_last : 0 < length U.forest
      some_last = subst (λ ms. 0 < length ms) (sym forest_is) (longer_made S.forest (record { node = m; step = s }))

      pub forest_back : (V : List Made) (y : Made) → U.forest ≡ V ++ y ∷ [] → V ≡ I.forest
      forest_back V y e = snoc_same V S.forest y (record { node = m; step = s }) (sym e ∙ forest_is) ∙ same.forest

      pub store_back : (mark : Mark) → mark ≡ mark_of I.store → first_part U.store mark ≡ I.store
      store_back mark e =
          let marked : mark ≡ mark_of S.store = e ∙ ap mark_of (sym same.store) in
          ap (λ st. first_part st mark) back.store ∙ ap (first_part T.store) marked ∙ first_part-grown S.store T.store taken.grows ∙ same.store

      pub earlier_back : (mark : Mark) → mark ≡ mark_of I.store → IsEarlier I.store mark → IsEarlier U.store mark
      earlier_back mark e h =
          let marked : mark ≡ mark_of S.store = e ∙ ap mark_of (sym same.store) in
          let here : IsEarlier S.store (mark_of S.store) = subst (λ k. IsEarlier S.store k) marked (subst (λ st. IsEarlier st mark) (sym same.store) h) in
          subst (λ st. IsEarlier st mark) (sym back.store) (subst (λ k. IsEarlier T.store k) (sym marked) (IsEarlier-grown S.store T.store taken.grows here))

      pub steps_back : U.steps.items ≡ I.steps.items
      steps_back = back.steps ∙ taken.steps ∙ same.steps

-- the steps of this turn are gone from the stack
pub popped : (P : Step → Type 0) (old new now : List Step) (start : ℕ) → start ≡ length old → IsPushed P old new → now ≡ new → take start now ≡ old
popped P old new now start e p same = ap (λ k. take k now) e ∙ ap (take (length old)) (same ∙ p.is) ∙ take_front old p.more
  where
    take_front : (xs ys : List Step) → take (length xs) (xs ++ ys) ≡ xs
    take_front [] [] = refl
    take_front [] (y ∷ ys) = refl
    take_front (x ∷ xs) ys = ap (λ zs. x ∷ zs) (take_front xs ys)
