-- A forest without one of its nodes.
use Rattle.std.specs.Prelude.{ℕ, List, [], ◌∷◌, Bool, false, ◌==◌, if◌then◌else◌}
use Rattle.gr_base.specs.Forests.{Forest, empty, tree, beside}

-- whether the set is x alone
abbrev pub is_alone : ℕ → List ℕ → Bool
is_alone x [] = false
is_alone x (y ∷ []) = y == x
is_alone x (y ∷ z ∷ ys) = false

-- the set without x
abbrev pub thinned : ℕ → List ℕ → List ℕ
thinned x [] = []
thinned x (y ∷ ys) = if y == x then thinned x ys else y ∷ thinned x ys

-- the forest without the node x: it leaves its set, and where it was alone, its children come up in its place
abbrev pub without : ℕ → Forest (List ℕ) → Forest (List ℕ)
without x empty = empty
without x (tree set kids more) =
    if is_alone x set then beside (without x kids) (without x more) else tree (thinned x set) (without x kids) (without x more)
