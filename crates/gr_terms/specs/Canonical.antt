-- Decorated trees, and their canonical form: each slot's attributes in byte order, and classes of linked values numbered by first meeting.
use Rattle.std.specs.Prelude.{◌≡◌, ℕ, suc, ◌<◌, ◌≤◌, List, [], ◌∷◌, ◌++◌, map, ◌⊎◌, ◌↔◌, ⊤, ◌==◌, if◌then◌else◌}
use Rattle.gr_base.specs.Lists.{IsAmong, InByteOrder, gathered}
use Rattle.gr_base.specs.Forests.{Forest, labels, AreAlike}
use Rattle.gr_terms.specs.Constants.{CAT}
use Rattle.gr_terms.specs.Networks.{Term, name, Assertion, AreLinked, HasValue}

-- a literal of flat semantics over terms, or over what stands for terms
pub record Literal (X : Type 0) : Type 0 where
  pub handle : X
  pub pred : X
  pub args : List X

abbrev pub literal_terms : {X : Type 0} → Literal X → List X
literal_terms l = l.handle ∷ l.pred ∷ l.args

abbrev pub map_literal : {X Y : Type 0} → (X → Y) → Literal X → Literal Y
map_literal f l = record { handle = f l.handle; pred = f l.pred; args = map f l.args }

-- what stands at the three slots of a node
pub record Node (X : Type 0) : Type 0 where
  pub own : X
  pub top : X
  pub bottom : X

abbrev pub node_slots : {X : Type 0} → Node X → List X
node_slots n = n.own ∷ n.top ∷ n.bottom ∷ []

-- a decorated tree: X is what stands at a slot (a slot's name, or a list of attributes with values), Y a value in a literal
pub record Decorated (X Y : Type 0) : Type 0 where
  pub nodes : Forest (Node X)
  pub interface : X
  pub literals : List (Literal Y)

-- the slots of a tree
abbrev pub tree_slots : {X Y : Type 0} → Decorated X Y → List X
tree_slots t = gathered node_slots (labels t.nodes) ++ t.interface ∷ []

-- a label of a value: a name, or the number of a class of linked values
pub data Label : Type 0 where
  named : ℕ → Label
  numbered : ℕ → Label

abbrev pub Pairs : Type 0
Pairs = List (ℕ × Label)

-- the category in a list of pairs, and the other pairs
abbrev pub category : Pairs → List Label
category [] = []
category (p ∷ ps) = if p.0 == CAT then (p.1 ∷ []) else category ps

abbrev pub properties : Pairs → Pairs
properties [] = []
properties (p ∷ ps) = if p.0 == CAT then properties ps else (p ∷ properties ps)

abbrev pub values : Pairs → List Label
values ps = map (λ p. p.1) ps

-- the values that the walk meets: at each node in preorder the category, the properties, the top and the bottom; then the interface; then the literals
abbrev pub node_values : Node Pairs → List Label
node_values n = category n.own ++ values (properties n.own) ++ values n.top ++ values n.bottom

abbrev pub walked : Decorated Pairs Label → List Label
walked t = gathered node_values (labels t.nodes) ++ values t.interface ++ gathered literal_terms t.literals

-- the numbers are given from n + 1 by first meeting
abbrev pub IsNumberedFrom : ℕ → List Label → Type 0
IsNumberedFrom n [] = ⊤
IsNumberedFrom n (named a ∷ vs) = IsNumberedFrom n vs
IsNumberedFrom n (numbered k ∷ vs) = ((0 < k) × (k ≤ n) × IsNumberedFrom n vs) ⊎ ((k ≡ suc n) × IsNumberedFrom (suc n) vs)

-- the term stands at a slot of the tree or in a literal
abbrev pub IsMet : {V S : Type 0} → List (Assertion V S) → Decorated S (Term V) → Term V → Type 0
IsMet {S = S} N t x = ((s : S) × (a : ℕ) × IsAmong (tree_slots t) s × HasValue N s a x) ⊎ IsAmong (gathered literal_terms t.literals) x

-- linked terms have one label; and of the terms that are met, two have one label only where they are linked, and one has a name exactly where it is linked with it
pub record IsExact {V S : Type 0} (N : List (Assertion V S)) (met : Term V → Type 0) (label : Term V → Label) : Type 0 where
  pub linked : (x y : Term V) → AreLinked N x y → label x ≡ label y
  pub classes : (x y : Term V) → met x → met y → label x ≡ label y → AreLinked N x y
  pub names : (x : Term V) (a : ℕ) → met x → (label x ≡ named a) ↔ AreLinked N x (name a)

module _ {V S : Type 0} (text : ℕ → List ℕ) (N : List (Assertion V S)) where
  -- the pairs are those of the slot and of the slots linked with it, in byte order of the attributes, each attribute once
  pub record ListsSlot (label : Term V → Label) (s : S) (ps : Pairs) : Type 0 where
    pub order : InByteOrder (map (λ p. text p.0) ps)
    pub pairs : (a : ℕ) (v : Label) → IsAmong ps (a, v) ↔ ((x : Term V) × HasValue N s a x × (v ≡ label x))

  pub record ListsNode (label : Term V → Label) (n : Node S) (p : Node Pairs) : Type 0 where
    pub own : ListsSlot label n.own p.own
    pub top : ListsSlot label n.top p.top
    pub bottom : ListsSlot label n.bottom p.bottom

  -- c is the canonical form of the tree t, whose slots and values are those of the network
  pub record IsCanonicalForm (t : Decorated S (Term V)) (c : Decorated Pairs Label) : Type 0 where
    pub label : Term V → Label
    pub exact : IsExact N (IsMet N t) label
    pub nodes : AreAlike (ListsNode label) t.nodes c.nodes
    pub interface : ListsSlot label t.interface c.interface
    pub literals : c.literals ≡ map (map_literal label) t.literals
    pub order : IsNumberedFrom 0 (walked c)
