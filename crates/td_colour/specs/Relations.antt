-- Where a relation of a description holds in a forest, by the positions of its two nodes.
use Rattle.std.specs.Prelude.{◌≡◌, ℕ, List, [], ◌∷◌, ◌++◌, ◌⊎◌, Some}
use Rattle.gr_base.specs.Forests.{Forest, label_at, IsOver, IsLeftOf}
use Rattle.td_forest.specs.Nodes.{Stands}
use Rattle.td_desc.specs.declared.Dominance.{Dominance}
use Rattle.td_desc.specs.declared.Dominance.TheVariants.{Parent, Above, AboveOrSame, Next, Left, LeftOrSame}

-- no tree node of the forest stands right of p and left of q
abbrev pub NoneBetween : Forest (List ℕ) → List ℕ → List ℕ → Type 0
NoneBetween F p q = (set r : List ℕ) → label_at F r ≡ Some set → IsLeftOf p r → IsLeftOf r q → ⊥

-- the relation holds between the tree nodes at two positions
abbrev pub HoldsAt : Forest (List ℕ) → Dominance → List ℕ → List ℕ → Type 0
HoldsAt F Parent p q = (k : ℕ) × (q ≡ p ++ k ∷ [])
HoldsAt F Above p q = IsOver p q
HoldsAt F AboveOrSame p q = IsOver p q ⊎ (p ≡ q)
HoldsAt F Next p q = IsLeftOf p q × NoneBetween F p q
HoldsAt F Left p q = IsLeftOf p q
HoldsAt F LeftOrSame p q = IsLeftOf p q ⊎ (p ≡ q)

-- the relation holds between the tree nodes of the nodes x and y
abbrev pub Holds : Forest (List ℕ) → Dominance → ℕ → ℕ → Type 0
Holds F how x y = (p q : List ℕ) × Stands F x p × Stands F y q × HoldsAt F how p q
