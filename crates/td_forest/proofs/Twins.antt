-- The relations between nodes, and what a forest is, by recursion on the forest: the proofs go by these words.
use Rattle.std.specs.Prelude.{◌≡◌, ℕ, ◌<◌, List, [], ◌⊎◌, ⊤, ◌↔◌}
use Rattle.gr_base.specs.Lists.{IsAmong, NoneTwice, IsRising}
use Rattle.gr_base.specs.Forests.{Forest, empty, tree}
use Rattle.td_forest.specs.declared.Relation.{Relation}
use Rattle.td_forest.specs.declared.Relation.TheVariants.{Same, Over, Under, Left, Right}
use Rattle.td_forest.specs.Nodes.{IsIn}

-- x and y are in one tree node
abbrev pub AreSameIn : Forest (List ℕ) → ℕ → ℕ → Type 0
AreSameIn empty x y = ⊥
AreSameIn (tree set kids more) x y = (IsAmong set x × IsAmong set y) ⊎ (AreSameIn kids x y ⊎ AreSameIn more x y)

-- the tree node of x is over that of y
abbrev pub IsOverIn : Forest (List ℕ) → ℕ → ℕ → Type 0
IsOverIn empty x y = ⊥
IsOverIn (tree set kids more) x y = (IsAmong set x × IsIn kids y) ⊎ (IsOverIn kids x y ⊎ IsOverIn more x y)

-- the tree node of x is to the left of that of y
abbrev pub IsLeftIn : Forest (List ℕ) → ℕ → ℕ → Type 0
IsLeftIn empty x y = ⊥
IsLeftIn (tree set kids more) x y = ((IsAmong set x ⊎ IsIn kids x) × IsIn more y) ⊎ (IsLeftIn kids x y ⊎ IsLeftIn more x y)

-- the tree node of x is the parent of that of y; no tree node stands right of that of x and left of that of y
abbrev pub IsParentIn : Forest (List ℕ) → ℕ → ℕ → Type 0
IsParentIn F x y = IsOverIn F x y × ((z : ℕ) → IsOverIn F x z → IsOverIn F z y → ⊥)

abbrev pub IsNextIn : Forest (List ℕ) → ℕ → ℕ → Type 0
IsNextIn F x y = IsLeftIn F x y × ((z : ℕ) → IsLeftIn F x z → IsLeftIn F z y → ⊥)

-- how the tree nodes of two nodes stand to each other
abbrev pub RelatesIn : Forest (List ℕ) → ℕ → ℕ → Relation → Type 0
RelatesIn F a b Same = AreSameIn F a b
RelatesIn F a b Over = IsOverIn F a b
RelatesIn F a b Under = IsOverIn F b a
RelatesIn F a b Left = IsLeftIn F a b
RelatesIn F a b Right = IsLeftIn F b a

-- each node stands once
abbrev pub AllOnce : Forest (List ℕ) → Type 0
AllOnce empty = ⊤
AllOnce (tree set kids more) =
    NoneTwice set × ((y : ℕ) → IsAmong set y → IsIn kids y → ⊥) × ((y : ℕ) → IsAmong set y → IsIn more y → ⊥) × ((y : ℕ) → IsIn kids y → IsIn more y → ⊥) × AllOnce kids
    × AllOnce more

-- no set is empty, and each rises
abbrev pub AllRise : Forest (List ℕ) → Type 0
AllRise empty = ⊤
AllRise (tree set kids more) = (set ≡ [] → ⊥) × IsRising set × AllRise kids × AllRise more

-- the forest has just the nodes below m, each in one tree node, and each tree node has one
pub record IsForestBelow (m : ℕ) (F : Forest (List ℕ)) : Type 0 where
  pub nodes : (x : ℕ) → IsIn F x ↔ (x < m)
  pub once : AllOnce F
  pub sets : AllRise F
