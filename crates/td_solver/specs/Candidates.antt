-- The steps that the colour of a node leaves to it, and lists of steps as they are made.
use Rattle.std.specs.Prelude.{◌≡◌, ℕ, suc, ◌+◌, ◌<◌, ◌≤◌, List, ◌++◌, ⊤, Option, Some, None}
use Rattle.gr_base.specs.Lists.{IsAmong, NoneTwice, Each, IsListing}
use Rattle.gr_base.specs.Forests.{Forest}
use Rattle.td_desc.specs.declared.Colour.{Colour}
use Rattle.td_desc.specs.declared.Colour.TheVariants.{Black, White, Red}
use Rattle.td_forest.specs.declared.Step.{Step}
use Rattle.td_forest.specs.declared.Step.TheVariants.{Merge, Insert}
use Rattle.td_forest.specs.Names.{IsHead, IsNamedStep}
use Rattle.td_desc.specs.Descriptions.{Description}
use Rattle.td_desc.specs.declared.Related.{Related}
use Rattle.td_forest.specs.declared.Relation.TheVariants.{Over}
use Rattle.td_forest.specs.Nodes.{Relates}
use Rattle.td_solver.specs.Ties.{HasParentBelow}
use Rattle.td_forest.specs.Steps.{trees_of, width, after_step, IsStep}
use Rattle.td_colour.specs.Models.{IsForestModel}

-- a white shares a tree node, and any other gets one of its own
abbrev pub Suits : Colour → Step → Type 0
Suits White (Merge at) = ⊤
Suits White (Insert under from to) = ⊥
Suits Black (Merge at) = ⊥
Suits Black (Insert under from to) = ⊤
Suits Red (Merge at) = ⊥
Suits Red (Insert under from to) = ⊤

-- the step is one of the forest, named by the first node of its tree node, and suits the colour
abbrev pub IsCandidate : Forest (List ℕ) → Colour → Step → Type 0
IsCandidate F colour s = IsNamedStep F s × Suits colour s

-- the second list is the first and a listing of what has P
pub record IsPushed (P : Step → Type 0) (old new : List Step) : Type 0 where
  pub more : List Step
  pub is : new ≡ old ++ more
  pub listing : IsListing P more

-- a forest model of one node more comes of the step
abbrev pub LeadsOn : Description ℕ ℕ → ℕ → Forest (List ℕ) → Step → Type 0
LeadsOn d m F s = IsForestModel d (suc m) (after_step m s F)

-- and none does
abbrev pub LeadsNowhere : Description ℕ ℕ → ℕ → Forest (List ℕ) → Step → Type 0
LeadsNowhere d m F s = LeadsOn d m F s → ⊥

-- no insertion under the tree node of u leads to a model
abbrev pub NoneUnder : Description ℕ ℕ → ℕ → Forest (List ℕ) → ℕ → Type 0
NoneUnder d m F u = (a b : ℕ) → IsStep F (Insert (Some u) a b) → LeadsNowhere d m F (Insert (Some u) a b)

-- of each node below k that is under the tree node of u the parent is told, and below m
abbrev pub AreTold : List Related → ℕ → Forest (List ℕ) → ℕ → ℕ → Type 0
AreTold relations m F u k = (z : ℕ) → z < k → Relates F u z Over → HasParentBelow relations m z

-- the second list is the first and steps that have P, none twice, with each of them that leads to a model
pub record IsEnough (d : Description ℕ ℕ) (m : ℕ) (F : Forest (List ℕ)) (P : Step → Type 0) (old new : List Step) : Type 0 where
  pub more : List Step
  pub is : new ≡ old ++ more
  pub once : NoneTwice more
  pub only : Each P more
  pub all : (s : Step) → P s → LeadsOn d m F s → IsAmong more s

-- the step is an insertion that takes over no tree, before the one with a number below t
abbrev pub IsPlainBelow : Option ℕ → ℕ → Step → Type 0
IsPlainBelow under t s = (a : ℕ) × (s ≡ Insert under a a) × (a < t)

-- the step is an insertion that takes over the trees from a on, up to one before t
abbrev pub IsInsertFrom : Option ℕ → ℕ → ℕ → Step → Type 0
IsInsertFrom under a t s = (b : ℕ) × (s ≡ Insert under a b) × (a ≤ b) × (b < t)

-- the step is an insertion among w trees that begins before f
abbrev pub IsInsertBelow : Option ℕ → ℕ → ℕ → Step → Type 0
IsInsertBelow under w f s = (a : ℕ) × (a < f) × IsInsertFrom under a (w + 1) s

-- the step goes into the tree node of a node below k, which is the first there
abbrev pub IsMergeBelow : Forest (List ℕ) → ℕ → Step → Type 0
IsMergeBelow F k (Merge at) = IsHead F at × (at < k)
IsMergeBelow F k (Insert under a b) = ⊥

-- the step is an insertion among the roots, or under a node below k, which is the first of its tree node
abbrev pub IsUnderBelow : Forest (List ℕ) → ℕ → Step → Type 0
IsUnderBelow F k (Merge at) = ⊥
IsUnderBelow F k (Insert None a b) = (a ≤ b) × (b ≤ width F)
IsUnderBelow F k (Insert (Some u) a b) = IsHead F u × (u < k) × (a ≤ b) × (b ≤ width (trees_of (Some u) F))
