-- The positions of a forest's nodes in preorder, so that the node number n has the position at place n.
use Rattle.std.specs.Prelude.{ℕ, suc, List, [], ◌∷◌, ◌++◌, map}
use Rattle.gr_base.specs.Forests.{Forest, empty, tree}

-- those of trees side by side, of which the first is child number i
abbrev pub positions_from : {A : Type 0} → ℕ → Forest A → List (List ℕ)
positions_from i empty = []
positions_from i (tree a kids more) = (i ∷ []) ∷ map (λ p. i ∷ p) (positions_from 0 kids) ++ positions_from (suc i) more

abbrev pub positions : {A : Type 0} → Forest A → List (List ℕ)
positions f = positions_from 0 f
