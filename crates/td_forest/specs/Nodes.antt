-- Forests whose tree nodes are sets of description nodes, and where nodes stand in them.
-- A set is a list of numbers that rises, so that equal sets are equal lists, and equal forests are equal.
use Rattle.std.specs.Prelude.{◌≡◌, ℕ, ◌<◌, List, [], ◌⊎◌, ◌↔◌, Some}
use Rattle.gr_base.specs.Lists.{IsAmong, NoneTwice, Each, IsRising, joined}
use Rattle.gr_base.specs.Forests.{Forest, empty, tree, labels, label_at, IsOver, IsLeftOf}
use Rattle.td_forest.specs.declared.Relation.{Relation}
use Rattle.td_forest.specs.declared.Relation.TheVariants.{Same, Over, Under, Left, Right}

-- the node x is in the tree node at the position p
abbrev pub Stands : Forest (List ℕ) → ℕ → List ℕ → Type 0
Stands F x p = (set : List ℕ) × (label_at F p ≡ Some set) × IsAmong set x

-- the node x is in some tree node
abbrev pub IsIn : Forest (List ℕ) → ℕ → Type 0
IsIn empty x = ⊥
IsIn (tree set kids more) x = IsAmong set x ⊎ (IsIn kids x ⊎ IsIn more x)

-- the list is a set of nodes that is not empty
abbrev pub IsNodeSet : List ℕ → Type 0
IsNodeSet set = (set ≡ [] → ⊥) × IsRising set

-- each tree node is a nonempty set of nodes, and each node is in one at most
pub record IsForest (F : Forest (List ℕ)) : Type 0 where
  pub sets : Each IsNodeSet (labels F)
  pub once : NoneTwice (joined (labels F))

-- the forest has just the nodes below m
pub record IsForestOf (m : ℕ) (F : Forest (List ℕ)) : Type 0 where
  pub forest : IsForest F
  pub nodes : (x : ℕ) → IsIn F x ↔ (x < m)

-- how two positions stand to each other
abbrev pub AreAt : Relation → List ℕ → List ℕ → Type 0
AreAt Same p q = p ≡ q
AreAt Over p q = IsOver p q
AreAt Under p q = IsOver q p
AreAt Left p q = IsLeftOf p q
AreAt Right p q = IsLeftOf q p

-- how the tree nodes of two nodes stand to each other
abbrev pub Relates : Forest (List ℕ) → ℕ → ℕ → Relation → Type 0
Relates F x y how = (p q : List ℕ) × Stands F x p × Stands F y q × AreAt how p q
