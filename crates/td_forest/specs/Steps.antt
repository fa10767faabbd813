-- The two steps that add a node to a forest, and the forest that a list of steps makes.
use Rattle.std.specs.Prelude.{ℕ, zero, suc, ◌-◌, ◌<◌, ◌≤◌, List, [], ◌∷◌, Bool, true, false, ◌==◌, nat_lt, if◌then◌else◌, ⊤, Option, Some, None}
use Rattle.gr_base.specs.Forests.{Forest, empty, tree, beside, map_forest}
use Rattle.td_forest.specs.declared.Step.{Step}
use Rattle.td_forest.specs.declared.Step.TheVariants.{Merge, Insert}
use Rattle.td_forest.specs.declared.Made.{Made}
use Rattle.td_forest.specs.Limits.{node_limit}
use Rattle.td_forest.specs.Nodes.{IsIn}

-- how many trees the forest has
abbrev pub width : {A : Type 0} → Forest A → ℕ
width empty = zero
width (tree a kids more) = suc (width more)

-- the first n trees, and the trees behind them
abbrev pub first_trees : {A : Type 0} → ℕ → Forest A → Forest A
first_trees zero F = empty
first_trees (suc n) empty = empty
first_trees (suc n) (tree a kids more) = tree a kids (first_trees n more)

abbrev pub trees_behind : {A : Type 0} → ℕ → Forest A → Forest A
trees_behind zero F = F
trees_behind (suc n) empty = empty
trees_behind (suc n) (tree a kids more) = trees_behind n more

-- whether x is one of the set, and in some set of the forest
abbrev pub has : ℕ → List ℕ → Bool
has x [] = false
has x (y ∷ ys) = if y == x then true else has x ys

abbrev pub has_in : ℕ → Forest (List ℕ) → Bool
has_in x empty = false
has_in x (tree set kids more) = if has x set then true else if has_in x kids then true else has_in x more

-- the set with x put in, where it keeps the order
abbrev pub put : ℕ → List ℕ → List ℕ
put x [] = x ∷ []
put x (y ∷ ys) = if nat_lt x y then x ∷ y ∷ ys else y ∷ put x ys

-- the children of the tree node of u, and the roots
abbrev pub kids_of : ℕ → Forest (List ℕ) → Forest (List ℕ)
kids_of u empty = empty
kids_of u (tree set kids more) = if has u set then kids else if has_in u kids then kids_of u kids else kids_of u more

abbrev pub trees_of : Option ℕ → Forest (List ℕ) → Forest (List ℕ)
trees_of None F = F
trees_of (Some u) F = kids_of u F

-- the forest with x put into the tree node of the node `at`
abbrev pub merged : ℕ → ℕ → Forest (List ℕ) → Forest (List ℕ)
merged x at F = map_forest (λ set. if has at set then put x set else set) F

-- a new tree node of x alone among the trees of a forest, which takes those from one number up to another as its children
abbrev pub inserted : ℕ → ℕ → ℕ → Forest (List ℕ) → Forest (List ℕ)
inserted x from to F = beside (first_trees from F) (tree (x ∷ []) (first_trees (to - from) (trees_behind from F)) (trees_behind to F))

-- the forest with the trees under the tree node of u changed by f
abbrev pub change_under : ℕ → (Forest (List ℕ) → Forest (List ℕ)) → Forest (List ℕ) → Forest (List ℕ)
change_under u f empty = empty
change_under u f (tree set kids more) = if has u set then tree set (f kids) more else tree set (change_under u f kids) (change_under u f more)

-- the forest after a step of x
abbrev pub after_step : ℕ → Step → Forest (List ℕ) → Forest (List ℕ)
after_step x (Merge at) F = merged x at F
after_step x (Insert None from to) F = inserted x from to F
after_step x (Insert (Some u) from to) F = change_under u (inserted x from to) F

-- the places that the step names are there
abbrev pub IsStep : Forest (List ℕ) → Step → Type 0
IsStep F (Merge at) = IsIn F at
IsStep F (Insert None from to) = (from ≤ to) × (to ≤ width F)
IsStep F (Insert (Some u) from to) = IsIn F u × (from ≤ to) × (to ≤ width (kids_of u F))

-- a node that is not there can be added by the step
pub record CanMake (F : Forest (List ℕ)) (m : Made) : Type 0 where
  pub low : m.node < node_limit
  pub new : IsIn F m.node → ⊥
  pub step : IsStep F m.step

-- the forest after steps in turn, and that of steps from the empty forest on
abbrev pub grown : Forest (List ℕ) → List Made → Forest (List ℕ)
grown F [] = F
grown F (m ∷ ms) = grown (after_step m.node m.step F) ms

abbrev pub forest_of : List Made → Forest (List ℕ)
forest_of ms = grown empty ms

-- each step could be made in its turn
abbrev pub IsGrown : Forest (List ℕ) → List Made → Type 0
IsGrown F [] = ⊤
IsGrown F (m ∷ ms) = CanMake F m × IsGrown (after_step m.node m.step F) ms

-- the node is there, if one is named
abbrev pub IsHere : Forest (List ℕ) → Option ℕ → Type 0
IsHere F None = ⊤
IsHere F (Some u) = IsIn F u
