-- The words of the private contracts: numbers of tree nodes, colours of sets, and what passes at places of a tree.
use Rattle.std.specs.Prelude.{◌≡◌, ℕ, zero, suc, ◌+◌, ◌<◌, ◌≤◌, List, [], ◌∷◌, ◌++◌, map, ◌==◌, if◌then◌else◌, ◌⊎◌, ◌↔◌, ⊤, Bool, IsTrue, Option, Some, None, length, slice_get, slice_index}
use Rattle.gr_base.specs.Lists.{IsAmong, Each}
use Rattle.gr_base.specs.Forests.{Forest, empty, tree, size}
use Rattle.gr_terms.specs.Canonical.{Node}
use Rattle.gr_terms.specs.Networks as net
use Rattle.gr_terms.specs.Networks.{Assertion, HasValue, AreLinked}
use Rattle.gr_terms.specs.Views.{term_of}
use Rattle.gr_terms.specs.declared.Sym.{Sym}
use Rattle.gr_terms.specs.declared.SlotId.{SlotId}
use Rattle.gr_terms.specs.declared.Term.{Term}
use Rattle.gr_terms.specs.declared.Literal.{Literal}
use Rattle.gr_terms.specs.declared.Assertion as code_assertion
use Rattle.gr_terms.specs.declared.Assertion.TheVariants.{Entry, Equate, Link}
use Rattle.td_desc.specs.Descriptions as described
use Rattle.td_desc.specs.Conditions.{AreSlotsBelow, SaysOf}
use Rattle.td_desc.specs.declared.Colour.{Colour}
use Rattle.td_desc.specs.declared.Colour.TheVariants.{Black, White}
use Rattle.td_desc.specs.declared.Dominance.{Dominance}
use Rattle.td_desc.specs.declared.DescribedNode.{DescribedNode}
use Rattle.td_desc.specs.declared.Description.{Description}
use Rattle.td_tree.specs.Trees.{BagPairs, preorder}
use Rattle.td_tree.specs.declared.TreeNode.{TreeNode}
use Rattle.td_tree.specs.declared.Tree.{Tree}
use Rattle.td_forest.specs.declared.Relation.{Relation}
use Rattle.td_forest.specs.Nodes.{Relates}
use Rattle.td_colour.specs.Colours.{IsOf}
use Rattle.td_colour.specs.Models.{AllHold, node_links}
use Rattle.td_colour.specs.Relations.{Holds}
use Rattle.td_check.specs.Sets.{SendsTo, IsOnto, sent_to, sets_of}
use Rattle.td_check.specs.Shifts.{counted_from}

-- ---- numbers of tree nodes

-- the parent has this number or one behind it
abbrev pub IsFrom : ℕ → Option ℕ → Type 0
IsFrom at None = ⊥
IsFrom at (Some p) = at ≤ p

-- in a forest whose first node is number n in preorder, the tree of node number `at` ends before the number `end`
abbrev pub IsTreeAt : {A : Type 0} → ℕ → Forest A → ℕ → ℕ → Type 0
IsTreeAt n empty at end = ⊥
IsTreeAt n (tree a kids more) at end = ((at ≡ n) × (end ≡ suc n + size kids)) ⊎ (IsTreeAt (suc n) kids at end ⊎ IsTreeAt (suc n + size kids) more at end)

-- the nodes are those of the forest in preorder
abbrev pub AreLaid : List TreeNode → Forest (Node BagPairs) → Type 0
AreLaid nodes f = nodes ≡ preorder 0 None f

abbrev pub EndsAt : List TreeNode → ℕ → ℕ → Type 0
EndsAt nodes at end = (f : Forest (Node BagPairs)) → AreLaid nodes f → IsTreeAt 0 f at end

-- nodes that are sent to the tree nodes a and b stand so to each other
abbrev pub StandAt : List TreeNode → ℕ → ℕ → Relation → Type 0
StandAt nodes a b how = (f : Forest (Node BagPairs)) (map : List ℕ) (x y : ℕ) → AreLaid nodes f → SendsTo map x a → SendsTo map y b → Relates (sets_of map f) x y how

-- the answer says that of all maps onto the tree nodes; that a third tree node stands between; and that none does
abbrev pub DecidesStand : List TreeNode → ℕ → ℕ → Relation → Bool → Type 0
DecidesStand nodes a b how answer = (f : Forest (Node BagPairs)) (map : List ℕ) (m x y : ℕ) → AreLaid nodes f → IsOnto map m (length nodes) → SendsTo map x a → SendsTo map y b
    → IsTrue answer ↔ Relates (sets_of map f) x y how

abbrev pub DecidesAmid : List TreeNode → ℕ → ℕ → ℕ → Relation → Bool → Type 0
DecidesAmid nodes a r b how answer = (f : Forest (Node BagPairs)) (map : List ℕ) (m x y z : ℕ) → AreLaid nodes f → IsOnto map m (length nodes) → SendsTo map x a → SendsTo map y b → SendsTo map z r
    → IsTrue answer ↔ (Relates (sets_of map f) x z how × Relates (sets_of map f) z y how)

abbrev pub DecidesBetween : List TreeNode → ℕ → ℕ → Relation → Bool → Type 0
DecidesBetween nodes a b how answer = (f : Forest (Node BagPairs)) (map : List ℕ) (m x y : ℕ) → AreLaid nodes f → IsOnto map m (length nodes) → SendsTo map x a → SendsTo map y b
    → IsTrue answer ↔ ((z : ℕ) → Relates (sets_of map f) x z how → Relates (sets_of map f) z y how → ⊥)

abbrev pub DecidesHolds : List TreeNode → Dominance → ℕ → ℕ → Bool → Type 0
DecidesHolds nodes how a b answer = (f : Forest (Node BagPairs)) (map : List ℕ) (m x y : ℕ) → AreLaid nodes f → IsOnto map m (length nodes) → SendsTo map x a → SendsTo map y b
    → IsTrue answer ↔ Holds (sets_of map f) how x y

abbrev pub DecidesRelations : Description → List TreeNode → List ℕ → Bool → Type 0
DecidesRelations d nodes map answer = (f : Forest (Node BagPairs)) → AreLaid nodes f → IsTrue answer ↔ AllHold d.relations (length d.nodes) (sets_of map f)

-- ---- sets

-- x may be in the set of `to`, whose first node is `head`
abbrev pub GoesWith : List (described.DescribedNode ℕ) → List ℕ → ℕ → ℕ → ℕ → Type 0
GoesWith nodes map to head x = SendsTo map x to → (x ≡ head → ⊥) → IsOf nodes Black head × IsOf nodes White x

-- the sets of k tree nodes from number n on
abbrev pub set_list : List ℕ → ℕ → ℕ → List (List ℕ)
set_list map n zero = []
set_list map n (suc k) = sent_to map n ∷ set_list map (suc n) k

abbrev pub nodes_of : List DescribedNode → List (described.DescribedNode ℕ)
nodes_of nodes = map described.node_of nodes

-- the links of the first node of a set with node number x, which is sent to s, where that is in the set too
abbrev pub next_links : {V S : Type 0} → List (described.DescribedNode S) → ℕ → ℕ → ℕ → ℕ → List (Assertion V S)
next_links nodes to head x s = if s == to then (if x == head then [] else node_links (slice_get nodes head) (slice_get nodes x)) else []

-- so with all nodes of the map, the first of which is node number x
abbrev pub links_from : {V S : Type 0} → List (described.DescribedNode S) → ℕ → ℕ → ℕ → List ℕ → List (Assertion V S)
links_from nodes to head x [] = []
links_from nodes to head x (s ∷ map) = next_links nodes to head x s ++ links_from nodes to head (suc x) map

-- x is the first node that is sent to t
pub record IsFirstSent (map : List ℕ) (t x : ℕ) : Type 0 where
  pub sent : SendsTo map x t
  pub least : (y : ℕ) → y < x → SendsTo map y t → ⊥

abbrev pub AreHeads : List ℕ → ℕ → List ℕ → Type 0
AreHeads map count heads = (t : ℕ) → t < count → IsFirstSent map t (slice_index heads t)

-- ---- what passes at places

-- P holds of each element of the list and its place, and so for the first n places
abbrev pub AtEach : {A : Type 0} → List A → (ℕ → A → Type 0) → Type 0
AtEach {A} xs P = (k : ℕ) (x : A) → slice_get xs k ≡ Some x → P k x

abbrev pub AtFirst : {A : Type 0} → ℕ → List A → (ℕ → A → Type 0) → Type 0
AtFirst {A} n xs P = (k : ℕ) (x : A) → k < n → slice_get xs k ≡ Some x → P k x

-- P holds of the two elements at each place of two lists
abbrev pub AtBoth : {A B : Type 0} → List A → List B → (A → B → Type 0) → Type 0
AtBoth {A} {B} xs ys P = AtEach xs (λ k x. (y : B) → slice_get ys k ≡ Some y → P x y)

-- P holds of a value of the attribute at the slot, and the value of the pair
abbrev pub PassesPair : List (Assertion ℕ ℕ) → (net.Term ℕ → net.Term ℕ → Type 0) → ℕ → Sym × Term → Type 0
PassesPair N P s p = (x : net.Term ℕ) × HasValue N s p.0.0 x × P (term_of p.1) x

abbrev pub PassesBag : List (Assertion ℕ ℕ) → (net.Term ℕ → net.Term ℕ → Type 0) → ℕ → BagPairs → Type 0
PassesBag N P s pairs = AtEach pairs (λ k p. PassesPair N P s p)

-- the three lists of a node pass at the slots of a description's node, which count from a first one
pub record PassesNode (N : List (Assertion ℕ ℕ)) (P : net.Term ℕ → net.Term ℕ → Type 0) (first : ℕ) (n : TreeNode) (m : DescribedNode) : Type 0 where
  pub own : PassesBag N P (first + m.own.0) n.own
  pub top : PassesBag N P (first + m.top.0) n.top
  pub bot : PassesBag N P (first + m.bot.0) n.bot

abbrev pub PassesTerm : (net.Term ℕ → net.Term ℕ → Type 0) → ℕ → Term → Term → Type 0
PassesTerm P first w x = P (term_of w) (term_of (counted_from first x))

pub record PassesLiteral (P : net.Term ℕ → net.Term ℕ → Type 0) (first : ℕ) (k l : Literal) : Type 0 where
  pub number : length k.args ≡ length l.args
  pub handle : PassesTerm P first k.handle l.handle
  pub pred : PassesTerm P first k.pred l.pred
  pub args : AtBoth k.args l.args (PassesTerm P first)

abbrev pub PassesNodes : List (Assertion ℕ ℕ) → (net.Term ℕ → net.Term ℕ → Type 0) → Description → Tree → List ℕ → ℕ → Type 0
PassesNodes N P d t heads slots = AtEach t.nodes (λ k n. (m : DescribedNode) → slice_get d.nodes (slice_index heads k) ≡ Some m → PassesNode N P slots n m)

-- P holds at each place of the tree
pub record Passes (N : List (Assertion ℕ ℕ)) (P : net.Term ℕ → net.Term ℕ → Type 0) (d : Description) (t : Tree) (heads : List ℕ) (vars slots : ℕ) : Type 0 where
  pub nodes : PassesNodes N P d t heads slots
  pub interface : PassesBag N P (slots + d.iface.0) t.iface
  pub number : length t.sem ≡ length d.sem
  pub literals : AtBoth t.sem d.sem (PassesLiteral P vars)

-- two values are one in the tree exactly where they are linked in the network
abbrev pub FitsBeside : List (Assertion ℕ ℕ) → net.Term ℕ → net.Term ℕ → net.Term ℕ → net.Term ℕ → Type 0
FitsBeside N w x v y = (w ≡ v) ↔ AreLinked N x y

-- a value is a name exactly where what it stands for is linked with it
abbrev pub FitsNames : List (Assertion ℕ ℕ) → net.Term ℕ → net.Term ℕ → Type 0
FitsNames N w x = (a : ℕ) → (w ≡ net.name a) ↔ AreLinked N x (net.name a)

-- the value fits beside each value of the tree
pub record FitsAll (N : List (Assertion ℕ ℕ)) (d : Description) (t : Tree) (heads : List ℕ) (vars slots : ℕ) (w x : net.Term ℕ) : Type 0 where
  pub names : FitsNames N w x
  pub beside : Passes N (FitsBeside N w x) d t heads vars slots

-- the list has the attribute of the assertion, if that is an entry and the slot has a value of its attribute
abbrev pub ListsAttribute : List (Assertion ℕ ℕ) → ℕ → BagPairs → code_assertion.Assertion → Type 0
ListsAttribute N s pairs (Entry t a y) = (x : net.Term ℕ) → HasValue N s a.0 x → (w : Term) × IsAmong pairs (a, w)
ListsAttribute N s pairs (Equate x y) = ⊤
ListsAttribute N s pairs (Link t r) = ⊤

-- the list has each attribute that the slot has values of
abbrev pub ListsAll : List (Assertion ℕ ℕ) → ℕ → BagPairs → Type 0
ListsAll N s pairs = (a : Sym) (x : net.Term ℕ) → HasValue N s a.0 x → (w : Term) × IsAmong pairs (a, w)

pub record ListsNode (N : List (Assertion ℕ ℕ)) (first : ℕ) (n : TreeNode) (m : DescribedNode) : Type 0 where
  pub own : ListsAll N (first + m.own.0) n.own
  pub top : ListsAll N (first + m.top.0) n.top
  pub bot : ListsAll N (first + m.bot.0) n.bot

abbrev pub ListsNodes : List (Assertion ℕ ℕ) → Description → Tree → List ℕ → ℕ → Type 0
ListsNodes N d t heads slots = AtEach t.nodes (λ k n. (m : DescribedNode) → slice_get d.nodes (slice_index heads k) ≡ Some m → ListsNode N slots n m)

-- the attributes of the values at made slots are those of the description's network
abbrev pub HasAttributesOf : Description → List (Assertion ℕ ℕ) → ℕ → Type 0
HasAttributesOf d N slots = (s : ℕ) (a : Sym) (x : net.Term ℕ) → HasValue N (slots + s) a.0 x → (t : SlotId) × (y : Term) × IsAmong d.network (Entry t a y)

-- the numbers of a description fit behind the first ones
pub record AreReady (d : Description) (count : ℕ) (heads : List ℕ) (vars slots : ℕ) : Type 0 where
  pub few : count ≤ 24
  pub heads_within : (t : ℕ) → t < count → slice_index heads t < length d.nodes
  pub few_vars : vars + d.vars < 4294967296
  pub few_slots : slots + d.slots < 4294967296
  pub nodes : Each (AreSlotsBelow d.slots) d.nodes
  pub interface : d.iface.0 < d.slots
  pub literals : Each (SaysOf d.vars) d.sem
