-- One name for each step of a forest: tree nodes are named by the least of their nodes.
use Rattle.std.specs.Prelude.{◌≡◌, ℕ, ◌≤◌, List, [], ◌∷◌, ◌⊎◌, ⊤, Option, Some, None}
use Rattle.gr_base.specs.Forests.{Forest, empty, tree}
use Rattle.td_forest.specs.declared.Step.{Step}
use Rattle.td_forest.specs.declared.Step.TheVariants.{Merge, Insert}
use Rattle.td_forest.specs.Steps.{width, trees_of}

-- the node is the first of its set
abbrev pub IsHead : Forest (List ℕ) → ℕ → Type 0
IsHead empty x = ⊥
IsHead (tree [] kids more) x = IsHead kids x ⊎ IsHead more x
IsHead (tree (y ∷ ys) kids more) x = (x ≡ y) ⊎ (IsHead kids x ⊎ IsHead more x)

-- the node under which an insertion goes, if there is one, is the first of its set
abbrev pub IsHeadOr : Forest (List ℕ) → Option ℕ → Type 0
IsHeadOr F None = ⊤
IsHeadOr F (Some u) = IsHead F u

-- the step is there, and its tree node is named by the first of its set
abbrev pub IsNamedStep : Forest (List ℕ) → Step → Type 0
IsNamedStep F (Merge at) = IsHead F at
IsNamedStep F (Insert under from to) = IsHeadOr F under × (from ≤ to) × (to ≤ width (trees_of under F))
