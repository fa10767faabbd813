-- Forest models and minimal models of a description.
use Rattle.std.specs.Prelude.{◌≡◌, ℕ, ◌<◌, List, [], ◌∷◌, ◌++◌, Option, Some, None, length, slice_get}
use Rattle.gr_base.specs.Lists.{Each, gathered}
use Rattle.gr_base.specs.Forests.{Forest, labels, map_forest, IsOneTree}
use Rattle.gr_terms.specs.Networks.{Term, Assertion, link, Agrees}
use Rattle.gr_terms.specs.Canonical.{Node, Decorated, Pairs, Label, IsCanonicalForm}
use Rattle.td_desc.specs.declared.Related.{Related}
use Rattle.td_desc.specs.Descriptions.{Description, DescribedNode}
use Rattle.td_forest.specs.declared.Step.{Step}
use Rattle.td_forest.specs.Nodes.{IsForestOf}
use Rattle.td_forest.specs.Steps.{after_step}
use Rattle.td_forest.specs.Names.{IsNamedStep}
use Rattle.td_colour.specs.Relations.{Holds}
use Rattle.td_colour.specs.Colours.{IsLawful}

-- the links of the three slots of a node with those of another, and of those of the first node of a set with each other's
abbrev pub node_links : {V S : Type 0} → Option (DescribedNode S) → Option (DescribedNode S) → List (Assertion V S)
node_links None m = []
node_links (Some n) None = []
node_links (Some n) (Some m) = link n.slots.own m.slots.own ∷ link n.slots.top m.slots.top ∷ link n.slots.bottom m.slots.bottom ∷ []

abbrev pub set_links : {V S : Type 0} → List (DescribedNode S) → List ℕ → List (Assertion V S)
set_links nodes [] = []
set_links nodes (x ∷ xs) = gathered (λ y. node_links (slice_get nodes x) (slice_get nodes y)) xs

-- the network with the slots of nodes that share a tree node linked
abbrev pub merged_network : {V S : Type 0} → Description V S → Forest (List ℕ) → List (Assertion V S)
merged_network d F = d.network ++ gathered (set_links d.nodes) (labels F)

-- each relation between two of the first m nodes holds
abbrev pub AllHold : List Related → ℕ → Forest (List ℕ) → Type 0
AllHold relations m F = Each (λ (r : Related). r.from < m → r.to < m → Holds F r.how r.from r.to) relations

-- the forest is a model of the first m nodes: it has just these, and the relations between them hold, the colours are lawful and the network agrees
pub record IsForestModel {V S : Type 0} (d : Description V S) (m : ℕ) (F : Forest (List ℕ)) : Type 0 where
  pub nodes : IsForestOf m F
  pub relations : AllHold d.relations m F
  pub colours : Each (IsLawful d.nodes) (labels F)
  pub network : Agrees (merged_network d F)

-- the forest is one tree and a model of all nodes
pub record IsMinimalModel {V S : Type 0} (d : Description V S) (F : Forest (List ℕ)) : Type 0 where
  pub model : IsForestModel d (length d.nodes) F
  pub one : IsOneTree F

-- the slots of the first node of a set, in place of the set; those of none where it has none
abbrev pub slots_at : {S : Type 0} → List (DescribedNode S) → S → List ℕ → Node S
slots_at nodes none [] = record { own = none; top = none; bottom = none }
slots_at {S} nodes none (x ∷ xs) = elim (slice_get nodes x) [ None ↦ record { own = none; top = none; bottom = none } | Some n ↦ n.slots ]

-- the tree of a model: the slots of its tree nodes, the interface and the literals, in the network with the slots of merged nodes linked
abbrev pub model_tree : {V S : Type 0} → Description V S → Forest (List ℕ) → Decorated S (Term V)
model_tree d F = record { nodes = map_forest (slots_at d.nodes d.interface) F; interface = d.interface; literals = d.literals }

-- c is the canonical form of the tree of the model
abbrev pub HasModelForm : {V S : Type 0} → (ℕ → List ℕ) → Description V S → Forest (List ℕ) → Decorated Pairs Label → Type 0
HasModelForm text d F c = IsCanonicalForm text (merged_network d F) (model_tree d F) c

-- the text is how the canonical form of the tree of some minimal model is spelled
pub record IsModelSpelling {V S : Type 0} (text : ℕ → List ℕ) (spell : Decorated Pairs Label → List ℕ) (d : Description V S) (bytes : List ℕ) : Type 0 where
  pub forest : Forest (List ℕ)
  pub minimal : IsMinimalModel d forest
  pub form : Decorated Pairs Label
  pub canonical : HasModelForm text d forest form
  pub spells : bytes ≡ spell form

-- the forest comes by a step of node m, named by the least node of its tree node, from a model of the first m nodes
pub record ComesFrom {V S : Type 0} (d : Description V S) (m : ℕ) (G : Forest (List ℕ)) : Type 0 where
  pub before : Forest (List ℕ)
  pub model : IsForestModel d m before
  pub step : Step
  pub named : IsNamedStep before step
  pub is : after_step m step before ≡ G
