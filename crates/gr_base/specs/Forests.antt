-- Ordered forests with a label at each node, positions in them, and their nodes in preorder.
use Rattle.std.specs.Prelude.{◌≡◌, ℕ, zero, suc, ◌+◌, ◌<◌, List, [], ◌∷◌, ◌++◌, ◌⊎◌, ⊤, Option, Some, None}

-- no tree, or a first tree, by its root's label and the forest of its children, and the trees to the right of it
pub data Forest (A : Type 0) : Type 0 where
  empty : Forest A
  tree : A → Forest A → Forest A → Forest A

-- the forest is one tree
abbrev pub IsOneTree : {A : Type 0} → Forest A → Type 0
IsOneTree empty = ⊥
IsOneTree (tree a kids empty) = ⊤
IsOneTree (tree a kids (tree b others more)) = ⊥

-- the labels in preorder
abbrev pub labels : {A : Type 0} → Forest A → List A
labels empty = []
labels (tree a kids more) = a ∷ labels kids ++ labels more

-- the labels of the leaves, and those of the nodes with children
abbrev pub leaf_labels : {A : Type 0} → Forest A → List A
leaf_labels empty = []
leaf_labels (tree a empty more) = a ∷ leaf_labels more
leaf_labels (tree a (tree b kids others) more) = leaf_labels (tree b kids others) ++ leaf_labels more

abbrev pub inner_labels : {A : Type 0} → Forest A → List A
inner_labels empty = []
inner_labels (tree a empty more) = inner_labels more
inner_labels (tree a (tree b kids others) more) = a ∷ inner_labels (tree b kids others) ++ inner_labels more

-- the trees of the first forest and then those of the second
abbrev pub beside : {A : Type 0} → Forest A → Forest A → Forest A
beside empty g = g
beside (tree a kids more) g = tree a kids (beside more g)

-- the same forest with f of each label
abbrev pub map_forest : {A B : Type 0} → (A → B) → Forest A → Forest B
map_forest f empty = empty
map_forest f (tree a kids more) = tree (f a) (map_forest f kids) (map_forest f more)

-- how many nodes the forest has
abbrev pub size : {A : Type 0} → Forest A → ℕ
size empty = 0
size (tree a kids more) = suc (size kids + size more)

-- the forest with each node's number in preorder, counted from n, beside its label
abbrev pub numbered : {A : Type 0} → ℕ → Forest A → Forest (ℕ × A)
numbered n empty = empty
numbered n (tree a kids more) = tree (n, a) (numbered (suc n) kids) (numbered (suc n + size kids) more)

-- the label at a position, which is the list of child numbers from the list of roots down
abbrev pub label_at : {A : Type 0} → Forest A → List ℕ → Option A
label_at empty p = None
label_at (tree a kids more) [] = None
label_at (tree a kids more) (zero ∷ []) = Some a
label_at (tree a kids more) (zero ∷ j ∷ p) = label_at kids (j ∷ p)
label_at (tree a kids more) (suc i ∷ p) = label_at more (i ∷ p)

-- the first position is a proper prefix of the second
abbrev pub IsOver : List ℕ → List ℕ → Type 0
IsOver p [] = ⊥
IsOver [] (j ∷ q) = ⊤
IsOver (i ∷ p) (j ∷ q) = (i ≡ j) × IsOver p q

-- neither position is a prefix of the other, and the first is less where they first differ
abbrev pub IsLeftOf : List ℕ → List ℕ → Type 0
IsLeftOf [] q = ⊥
IsLeftOf (i ∷ p) [] = ⊥
IsLeftOf (i ∷ p) (j ∷ q) = (i < j) ⊎ ((i ≡ j) × IsLeftOf p q)

-- two positions: the same one, one over the other, or one to the left of the other
pub data Placed (p q : List ℕ) : Type 0 where
  same : p ≡ q → Placed p q
  over : IsOver p q → Placed p q
  under : IsOver q p → Placed p q
  left : IsLeftOf p q → Placed p q
  right : IsLeftOf q p → Placed p q

-- the two forests have the same shape, and R holds of the labels node by node
abbrev pub AreAlike : {A B : Type 0} → (A → B → Type 0) → Forest A → Forest B → Type 0
AreAlike R empty empty = ⊤
AreAlike R empty (tree b kids more) = ⊥
AreAlike R (tree a kids more) empty = ⊥
AreAlike R (tree a kids more) (tree b others rest) = R a b × AreAlike R kids others × AreAlike R more rest
