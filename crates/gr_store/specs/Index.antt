-- How the entries of a class are found: each place of the list of assertions has a node behind those of the slots, and the node of an entry is in the class of its slot.
use Rattle.std.specs.Prelude.{◌≡◌, ℕ, ◌+◌, ◌<◌, ◌≤◌, List, length, get_or, Option, Some, None, Contains}
use Rattle.gr_base.specs.Lists.{IsAmong}
use Rattle.gr_terms.specs.declared.Sym.{Sym}
use Rattle.gr_terms.specs.declared.SlotId.{SlotId}
use Rattle.gr_terms.specs.declared.Term.{Term}
use Rattle.gr_terms.specs.declared.Term.TheVariants.{Var}
use Rattle.gr_terms.specs.declared.Assertion.{Assertion}
use Rattle.gr_terms.specs.declared.Assertion.TheVariants.{Entry}
use Rattle.gr_terms.specs.Networks.{Agrees}
use Rattle.gr_terms.specs.Views.{network_of}
use Rattle.gr_store.specs.declared.bindings.Bound.{Bound}
use Rattle.gr_store.specs.Roots.{root_by, slot_root}
use Rattle.gr_store.specs.Solution.{LinkedSlots, IsPartOf, IsLinked, SlotsBelow}

-- the assertion stands at the place
abbrev pub StandsAt : List Assertion → ℕ → Assertion → Type 0
StandsAt net place x = (place < length net) × (get_or net place x ≡ x)

-- the slot is in the class of the node
abbrev pub InClass : List Bound → ℕ → SlotId → Type 0
InClass trail node s = slot_root trail s ≡ Var node

-- the node of a place is in the class of the slot of the entry there, and alone where there is no entry
pub record IsIndex (base : ℕ) (net : List Assertion) (trail : List Bound) : Type 0 where
  pub at_slot : (place : ℕ) (s : SlotId) (attr : Sym) (a : Term) → StandsAt net place (Entry s attr a) → root_by trail (Var (base + place)) ≡ slot_root trail s
  pub alone : (place : ℕ) → ((s : SlotId) (attr : Sym) (a : Term) → StandsAt net place (Entry s attr a) → ⊥)
      → (x : ℕ) → root_by trail (Var x) ≡ root_by trail (Var (base + place)) → x ≡ base + place

-- there are nodes for all slots and places, and the entries are found by them
pub record IsIndexed (base : ℕ) (net : List Assertion) (nodes : ℕ × List Bound) : Type 0 where
  pub room : base + length net ≤ nodes.0
  pub below : SlotsBelow base net
  pub index : IsIndex base net nodes.1

-- the node is that of an entry with the attribute and the value
abbrev pub IsEntryNode : ℕ → List Assertion → Sym → ℕ → Term → Type 0
IsEntryNode base net attr node value = (place : ℕ) × (node ≡ base + place) × ((s : SlotId) × StandsAt net place (Entry s attr value))

-- none of the nodes is that of an entry with the attribute
abbrev pub HasNoEntryNode : ℕ → List Assertion → Sym → List ℕ → Type 0
HasNoEntryNode base net attr nodes = (x : ℕ) (value : Term) → IsAmong nodes x → IsEntryNode base net attr x value → ⊥

-- the least of the nodes that is that of an entry with the attribute, and the value of the entry
abbrev pub IsLeastNode : ℕ → List Assertion → Sym → List ℕ → Option (ℕ × Term) → Type 0
IsLeastNode base net attr nodes None = HasNoEntryNode base net attr nodes
IsLeastNode base net attr nodes (Some found) =
    IsAmong nodes found.0 × IsEntryNode base net attr found.0 found.1
    × ((x : ℕ) (value : Term) → IsAmong nodes x → IsEntryNode base net attr x value → found.0 ≤ x)

-- f joins the value of the entry of the node with those of its attribute at the slots told
abbrev pub SharesNode : ℕ → List Assertion → (Term → Term) → (SlotId → Type 0) → ℕ → Type 0
SharesNode base net f Told node =
    (attr : Sym) (value : Term) (t : SlotId) (w : Term) → IsEntryNode base net attr node value → Told t → Contains net (Entry t attr w) → f value ≡ f w

-- the network links the slots of one class with those of another
abbrev pub LinksClasses : ℕ → List Assertion → List Bound → ℕ → ℕ → Type 0
LinksClasses base net trail one two = (s t : SlotId) → s.0 < base → t.0 < base → InClass trail one s → InClass trail two t → LinkedSlots net s t

-- beyond the old bindings of terms the new ones join only what is linked in each network that has the assertions and links the classes
abbrev pub JoinsLinked : ℕ → List Assertion → List Bound → List Bound → List Bound → ℕ → ℕ → Type 0
JoinsLinked base net trail old new one two =
    (whole : List Assertion) → IsPartOf net whole → LinksClasses base whole trail one two
    → IsLinked base whole (root_by old) (slot_root trail) → IsLinked base whole (root_by new) (slot_root trail)

-- no network that has the assertions and links the classes agrees, where the bindings join only what it links
abbrev pub KeepsApart : ℕ → List Assertion → List Bound → List Bound → ℕ → ℕ → Type 0
KeepsApart base net trail terms one two =
    (whole : List Assertion) → IsPartOf net whole → LinksClasses base whole trail one two
    → IsLinked base whole (root_by terms) (slot_root trail) → Agrees (network_of whole) → ⊥
