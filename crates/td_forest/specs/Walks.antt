-- A forest read in preorder: which tree node has which number, counted from 0, and what stands over it.
use Rattle.std.specs.Prelude.{◌≡◌, ℕ, ◌+◌, List, [], ◌∷◌, ◌++◌, Option, Some, slice_get}
use Rattle.gr_base.specs.Lists.{IsAmong}
use Rattle.gr_base.specs.Forests.{Forest, empty, tree, labels, size}

-- the tree node with the number has the node
abbrev pub HasAt : Forest (List ℕ) → ℕ → ℕ → Type 0
HasAt F place x = (set : List ℕ) × (slice_get (labels F) place ≡ Some set) × IsAmong set x

-- the node is the first of the tree node with the number
abbrev pub IsHeadAt : Forest (List ℕ) → ℕ → ℕ → Type 0
IsHeadAt F place x = (rest : List ℕ) × (slice_get (labels F) place ≡ Some (x ∷ rest))

-- for each tree node the number of its parent, where the first tree node has the number n and the roots are under `up`
abbrev pub parents : {A : Type 0} → Option ℕ → ℕ → Forest A → List (Option ℕ)
parents up n empty = []
parents up n (tree a kids more) = up ∷ parents (Some n) (n + 1) kids ++ parents up (n + 1 + size kids) more
