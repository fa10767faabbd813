-- Places of steps, each by one way down and along the forest. They serve the proofs: what is said of steps is proved along the way.
use Rattle.std.specs.Prelude.{ℕ, zero, suc, ◌-◌, ◌≤◌, List, [], ◌∷◌, ⊤, if◌then◌else◌, Option, Some, None}
use Rattle.gr_base.specs.Forests.{Forest, empty, tree}
use Rattle.td_forest.specs.declared.Step.{Step}
use Rattle.td_forest.specs.declared.Step.TheVariants.{Merge, Insert}
use Rattle.td_forest.specs.Steps.{width, first_trees, trees_behind, put, has, has_in}

-- A step in a forest: a node joins the first root, or becomes a new root before the first tree that takes over the first n trees,
-- or the step is one in the children of the first root, or in the trees to the right of the first
pub data Spot : Type 0 where
  join : Spot
  wrap : ℕ → Spot
  down : Spot → Spot
  along : Spot → Spot

-- the forest after a node's step
abbrev pub after : ℕ → Spot → Forest (List ℕ) → Forest (List ℕ)
after x join empty = empty
after x join (tree set kids more) = tree (put x set) kids more
after x (wrap n) F = tree (x ∷ []) (first_trees n F) (trees_behind n F)
after x (down s) empty = empty
after x (down s) (tree set kids more) = tree set (after x s kids) more
after x (along s) empty = empty
after x (along s) (tree set kids more) = tree set kids (after x s more)

-- the forest has the place of the step
abbrev pub IsSpot : Spot → Forest (List ℕ) → Type 0
IsSpot join empty = ⊥
IsSpot join (tree set kids more) = ⊤
IsSpot (wrap n) F = n ≤ width F
IsSpot (down s) empty = ⊥
IsSpot (down s) (tree set kids more) = IsSpot s kids
IsSpot (along s) empty = ⊥
IsSpot (along s) (tree set kids more) = IsSpot s more

-- the step into the tree node of a node
abbrev pub spot_into : ℕ → Forest (List ℕ) → Spot
spot_into at empty = join
spot_into at (tree set kids more) = if has at set then join else if has_in at kids then down (spot_into at kids) else along (spot_into at more)

-- the step among the children of the tree node of u
abbrev pub spot_under : ℕ → Spot → Forest (List ℕ) → Spot
spot_under u s empty = s
spot_under u s (tree set kids more) = if has u set then down s else if has_in u kids then down (spot_under u s kids) else along (spot_under u s more)

-- a new tree node that takes over n trees from number i on
abbrev pub insertion : ℕ → ℕ → Spot
insertion zero n = wrap n
insertion (suc i) n = along (insertion i n)

abbrev pub under_spot : Option ℕ → Spot → Forest (List ℕ) → Spot
under_spot None s F = s
under_spot (Some u) s F = spot_under u s F

abbrev pub spot_of : Step → Forest (List ℕ) → Spot
spot_of (Merge at) F = spot_into at F
spot_of (Insert under from to) F = under_spot under (insertion from (to - from)) F
