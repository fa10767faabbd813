-- What is read off a store and a forest: attributes and tree nodes.
use Rattle.std.specs.Prelude.{◌≡◌, ℕ, List, ◌↔◌, length, Some, None, slice_get}
use Rattle.gr_base.specs.Lists.{IsAmong}
use Rattle.gr_base.specs.Forests.{Forest, labels, map_forest}
use Rattle.gr_terms.specs.Bags.{HasAttribute, IsListed}
use Rattle.gr_terms.specs.Canonical.{Node}
use Rattle.gr_terms.specs.Networks as net
use Rattle.gr_terms.specs.declared.Assertion.{Assertion}
use Rattle.gr_terms.specs.declared.Assertion.TheVariants.{Entry}
use Rattle.gr_terms.specs.declared.SlotId.{SlotId}
use Rattle.gr_terms.specs.declared.Sym.{Sym}
use Rattle.gr_terms.specs.declared.Term.{Term}
use Rattle.td_tree.specs.Trees.{BagPairs}
use Rattle.td_tree.specs.declared.TreeNode.{TreeNode}
use Rattle.td_forest.specs.Walks.{parents}
use Rattle.td_desc.specs.Descriptions.{Description}
use Rattle.td_colour.specs.Models.{slots_at}
use Rattle.td_model.specs.CanonicalTrees.{HasBags}

-- each entry's attribute is in the list
abbrev pub CoverAttributes : List Assertion → List Sym → Type 0
CoverAttributes network attributes = (s : SlotId) (a : Sym) (x : Term) → IsAmong network (Entry s a x) → IsAmong attributes a

-- the bag has the attributes of the entries
pub record HasAttributesOf (network : List Assertion) (bag : BagPairs) : Type 0 where
  pub listed : IsListed bag
  pub entries : (a : Sym) → HasAttribute bag a ↔ ((s : SlotId) × (x : Term) × IsAmong network (Entry s a x))

-- the node is the tree node with the number in preorder: it has its parent's number, and the canonical bags of its slots
pub record IsModelNode (N : List (net.Assertion ℕ ℕ)) (d : Description ℕ ℕ) (F : Forest (List ℕ)) (place : ℕ) (x : TreeNode) : Type 0 where
  pub parent : slice_get (parents None 0 F) place ≡ Some x.parent
  pub slots : Node ℕ
  pub there : slice_get (labels (map_forest (slots_at d.nodes d.interface) F)) place ≡ Some slots
  pub bags : HasBags N slots (record { own = x.own; top = x.top; bottom = x.bot })

-- the nodes are the first tree nodes in preorder
pub record AreModelNodes (N : List (net.Assertion ℕ ℕ)) (d : Description ℕ ℕ) (F : Forest (List ℕ)) (count : ℕ) (nodes : List TreeNode) : Type 0 where
  pub as_many : length nodes ≡ count
  pub each : (place : ℕ) (x : TreeNode) → slice_get nodes place ≡ Some x → IsModelNode N d F place x
