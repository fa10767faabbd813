-- A map from the nodes of a description to those of a tree, and the forest of sets that it makes of the tree.
use Rattle.std.specs.Prelude.{◌≡◌, ℕ, suc, ◌+◌, ◌<◌, List, [], ◌∷◌, length, ◌==◌, if◌then◌else◌, Some, slice_get}
use Rattle.gr_base.specs.Lists.{IsAmong, Each}
use Rattle.gr_base.specs.Forests.{Forest, empty, tree, size}

-- the map sends the node x to the tree node with the number t in preorder
abbrev pub SendsTo : List ℕ → ℕ → ℕ → Type 0
SendsTo map x t = slice_get map x ≡ Some t

-- the nodes that are sent to a number, where the first one of the map is node x; they rise
abbrev pub sent_from : ℕ → ℕ → List ℕ → List ℕ
sent_from x t [] = []
sent_from x t (s ∷ map) = if s == t then (x ∷ sent_from (suc x) t map) else sent_from (suc x) t map

abbrev pub sent_to : List ℕ → ℕ → List ℕ
sent_to map t = sent_from 0 t map

-- the forest with the set of the nodes that are sent to it in place of each tree node; the first is number n in preorder
abbrev pub sets_from : {A : Type 0} → ℕ → List ℕ → Forest A → Forest (List ℕ)
sets_from n map empty = empty
sets_from n map (tree a kids more) = tree (sent_to map n) (sets_from (suc n) map kids) (sets_from (suc n + size kids) map more)

abbrev pub sets_of : {A : Type 0} → List ℕ → Forest A → Forest (List ℕ)
sets_of map f = sets_from 0 map f

-- the map has an entry for each of so many nodes, each of them the number of one of so many tree nodes, and it meets each tree node
pub record IsOnto (map : List ℕ) (nodes count : ℕ) : Type 0 where
  pub number : length map ≡ nodes
  pub within : Each (λ t. t < count) map
  pub met : (t : ℕ) → t < count → IsAmong map t
