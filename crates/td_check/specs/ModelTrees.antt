-- When a tree with lists of attributes and values is that of a network: the trees have one shape, the lists have the attributes of
-- the slots, and values are the same terms in the one exactly where they are linked in the other.
use Rattle.std.specs.Prelude.{◌≡◌, ℕ, List, ◌↔◌, ⊤, Some, length, map, slice_get}
use Rattle.gr_base.specs.Lists.{IsAmong}
use Rattle.gr_base.specs.Forests.{labels, AreAlike}
use Rattle.gr_terms.specs.Networks.{Term, Assertion, name, HasValue, AreLinked}
use Rattle.gr_terms.specs.Canonical.{Node, node_slots, Decorated, Literal, literal_terms, tree_slots}

-- the first list has x where the second one has y
abbrev pub Beside : {A B : Type 0} → List A → List B → A → B → Type 0
Beside xs ys x y = (k : ℕ) × (slice_get xs k ≡ Some x) × (slice_get ys k ≡ Some y)

-- the pairs have just the attributes that the slot has values of
pub record HaveAttributes {V W S : Type 0} (N : List (Assertion V S)) (s : S) (pairs : List (ℕ × Term W)) : Type 0 where
  pub there : (a : ℕ) (w : Term W) → IsAmong pairs (a, w) → (x : Term V) × HasValue N s a x
  pub all : (a : ℕ) (x : Term V) → HasValue N s a x → (w : Term W) × IsAmong pairs (a, w)

-- the list of pairs stands in the tree u where the slot stands in the tree t, and the value w in a literal of u where x does in t
pub data AreLists {V W S : Type 0} (t : Decorated S (Term V)) (u : Decorated (List (ℕ × Term W)) (Term W)) (s : S) (pairs : List (ℕ × Term W)) : Type 0 where
  of_node : (n : Node S) (m : Node (List (ℕ × Term W))) → Beside (labels t.nodes) (labels u.nodes) n m → Beside (node_slots n) (node_slots m) s pairs → AreLists t u s pairs
  of_interface : s ≡ t.interface → pairs ≡ u.interface → AreLists t u s pairs

pub data AreInLiterals {V W S : Type 0} (t : Decorated S (Term V)) (u : Decorated (List (ℕ × Term W)) (Term W)) (x : Term V) (w : Term W) : Type 0 where
  of_literal : (l : Literal (Term V)) (k : Literal (Term W)) → Beside t.literals u.literals l k → Beside (literal_terms l) (literal_terms k) x w → AreInLiterals t u x w

-- the value w stands in u for x: at one attribute of a list for a value of the slot, or at one place in the literals
pub data StandsFor {V W S : Type 0} (N : List (Assertion V S)) (t : Decorated S (Term V)) (u : Decorated (List (ℕ × Term W)) (Term W)) (w : Term W) (x : Term V) : Type 0 where
  in_list : (s : S) (pairs : List (ℕ × Term W)) (a : ℕ) → AreLists t u s pairs → IsAmong pairs (a, w) → HasValue N s a x → StandsFor N t u w x
  in_literal : AreInLiterals t u x w → StandsFor N t u w x

-- u is the tree t over the network, with its classes of linked values named anew
pub record IsTreeOf {V W S : Type 0} (N : List (Assertion V S)) (t : Decorated S (Term V)) (u : Decorated (List (ℕ × Term W)) (Term W)) : Type 0 where
  pub shape : AreAlike (λ n m. ⊤) t.nodes u.nodes
  pub lists : (s : S) (pairs : List (ℕ × Term W)) → AreLists t u s pairs → HaveAttributes N s pairs
  pub literals : map (λ l. length l.args) t.literals ≡ map (λ l. length l.args) u.literals
  pub values : (w v : Term W) (x y : Term V) → StandsFor N t u w x → StandsFor N t u v y → (w ≡ v) ↔ AreLinked N x y
  pub names : (w : Term W) (x : Term V) (a : ℕ) → StandsFor N t u w x → (w ≡ name a) ↔ AreLinked N x (name a)

-- each list of the tree has one value of an attribute
abbrev pub HasEachOnce : {W : Type 0} → Decorated (List (ℕ × Term W)) (Term W) → Type 0
HasEachOnce {W} u = (pairs : List (ℕ × Term W)) (a : ℕ) (x y : Term W) → IsAmong (tree_slots u) pairs → IsAmong pairs (a, x) → IsAmong pairs (a, y) → x ≡ y
