-- What the search has done after each turn of its loop.
use Rattle.std.specs.Prelude.{◌≡◌, ℕ, ◌+◌, ◌*◌, ◌-◌, ◌<◌, ◌≤◌, List, [], ◌∷◌, ◌++◌, length}
use Rattle.gr_base.specs.Lists.{IsAmong, IsListing}
use Rattle.gr_base.specs.Forests.{Forest, IsOneTree}
use Rattle.gr_store.specs.Contents.{Contents, Grows}
use Rattle.td_desc.specs.Descriptions.{Description, description_of}
use Rattle.td_desc.specs.declared.Description as code
use Rattle.td_forest.specs.declared.Step.{Step}
use Rattle.td_forest.specs.Steps.{after_step, forest_of}
use Rattle.td_forest.specs.Without.{without}
use Rattle.td_colour.specs.Models.{merged_network, IsForestModel}
use Rattle.td_solver.specs.declared.Solved.{Solved}
use Rattle.td_solver.specs.declared.Solved.TheVariants.{All, Cut}
use Rattle.td_canon.specs.TreeSets.{Entry, texts_of}
use Rattle.td_model.specs.Carrying.{Carries}
use Rattle.td_model.specs.ModelTrees.{IsModelText}
use Rattle.td_solver.specs.declared.search.State.{State}
use Rattle.td_solver.specs.Searches.{Below, IsFound, IsFoundBy, IsPartListing}

-- a model of more nodes that comes from F: how many more, and the forest
abbrev pub IsFoundIn : Description ℕ ℕ → ℕ → ℕ → Forest (List ℕ) → ℕ × Forest (List ℕ) → Type 0
IsFoundIn d more m F = IsFound (IsForestModel d) without more m F

-- All: as much of the budget was spent as there are models; Cut: there are more models than the budget had, and nothing is left
abbrev pub IsSpent : Description ℕ ℕ → ℕ → ℕ → Forest (List ℕ) → ℕ → ℕ → Solved → Type 0
IsSpent d more m F before after All = (found : List (ℕ × Forest (List ℕ))) × IsListing (IsFoundIn d more m F) found × (before ≡ after + length found)
IsSpent d more m F before after Cut =
    (found : List (ℕ × Forest (List ℕ))) × IsPartListing (IsFoundIn d more m F) found × (before < length found) × (after ≡ 0)

-- the forests that the steps of a list lead to
abbrev pub Tried : ℕ → Forest (List ℕ) → List Step → Forest (List ℕ) → Type 0
Tried m F steps H = (s : Step) × IsAmong steps s × (H ≡ after_step m s F)

-- all models through the steps so far were found, and as much was spent
pub record IsProgress (d : Description ℕ ℕ) (more m : ℕ) (F : Forest (List ℕ)) (steps : List Step) (before now : ℕ) : Type 0 where
  pub found : List (ℕ × Forest (List ℕ))
  pub listing : IsListing (IsFoundBy (IsForestModel d) without (Tried m F steps) more m F) found
  pub spent : before ≡ now + length found

-- the store has the description's slots, just the links of the merged network, and room for the links of the nodes that are left
pub record Keeps (d : code.Description) (m : ℕ) (F : Forest (List ℕ)) (c : Contents) : Type 0 where
  pub slots : c.slots ≡ d.slots
  pub carries : Carries c.accepted (merged_network (description_of d) F)
  pub room : 3 * (length d.nodes - m) ≤ c.spare.assertions

-- the set has the text of the model
abbrev pub HasTextOf : (ℕ → List ℕ) → Description ℕ ℕ → Forest (List ℕ) → List Entry → Type 0
HasTextOf text d F set = (bytes : List ℕ) × IsModelText text d F bytes × IsAmong (texts_of set) bytes

-- the set has the texts of the minimal models that come from F by so many nodes more
abbrev pub HasAllBelow : (ℕ → List ℕ) → Description ℕ ℕ → ℕ → ℕ → Forest (List ℕ) → List Entry → Type 0
HasAllBelow text d more m F set = (G : Forest (List ℕ)) → Below (IsForestModel d) without more m F G → IsOneTree G → HasTextOf text d G set

-- and of those that come from it by the steps so far
abbrev pub HasAllTried : (ℕ → List ℕ) → Description ℕ ℕ → ℕ → ℕ → Forest (List ℕ) → List Step → List Entry → Type 0
HasAllTried text d more m F steps set =
    (G : Forest (List ℕ)) → IsFoundBy (IsForestModel d) without (Tried m F steps) more m F (more, G) → IsOneTree G → HasTextOf text d G set

-- a step was made, and a forest model came of it
pub record IsTaken (d : code.Description) (m : ℕ) (step : Step) (old new : State) : Type 0 where
  pub forest : new.forest ≡ old.forest ++ record { node = m; step = step } ∷ []
  pub model : IsForestModel (description_of d) (m + 1) (forest_of new.forest)
  pub keeps : Keeps d (m + 1) (forest_of new.forest) new.store
  pub grows : Grows old.store new.store
  pub steps : new.steps.items ≡ old.steps.items

-- the forest, the store and the list of steps are as they were
pub record IsRestored (old new : State) : Type 0 where
  pub forest : new.forest ≡ old.forest
  pub store : new.store ≡ old.store
  pub steps : new.steps.items ≡ old.steps.items
