-- A tree and an entry, written with what stands for each value in a network of equations.
use Rattle.std.specs.Prelude.{◌≡◌, ℕ, List, [], ◌++◌, ◌⊎◌, ◌↔◌, ◌==◌, if◌then◌else◌, length, map, slice_get, Some}
use Rattle.std.specs.List.{AllZip}
use Rattle.gr_base.specs.Lists.{IsAmong, Each}
use Rattle.gr_terms.specs.Bags.{IsListed, LacksAttribute}
use Rattle.gr_terms.specs.LiteralViews.{literals_of}
use Rattle.gr_terms.specs.Networks as net
use Rattle.gr_terms.specs.Networks.{AreLinked}
use Rattle.gr_terms.specs.Views.{term_of}
use Rattle.gr_terms.specs.declared.Literal.{Literal}
use Rattle.gr_terms.specs.declared.Sym.{Sym}
use Rattle.gr_terms.specs.declared.Term.{Term}
use Rattle.gr_feats.specs.CanonicalBags.{StandsFor}
use Rattle.gr_feats.specs.Loading.{counted_from}
use Rattle.td_tree.specs.Trees.{BagPairs}
use Rattle.td_tree.specs.declared.Tree.{Tree}
use Rattle.td_tree.specs.declared.TreeNode.{TreeNode}
use Rattle.td_model.specs.CanonicalTrees.{StandsForLiteral}
use Rattle.lx_lexicon.specs.declared.entry.Entry.{Entry}
use Rattle.lx_anchor.specs.Counts.{IsBagBelow, IsLiteralBelow, IsTreeBelow}
use Rattle.lx_anchor.specs.Sharing.{counted_pairs}

-- the literals with their variables counted from the first one
abbrev pub counted_literal : ℕ → Literal → Literal
counted_literal first l = record { handle = counted_from first l.handle; pred = counted_from first l.pred; args = map (counted_from first) l.args }

abbrev pub counted_literals : ℕ → List Literal → List Literal
counted_literals first literals = map (counted_literal first) literals

-- what is added to node number n
abbrev pub added_at : ℕ → ℕ → BagPairs → BagPairs
added_at anchor n pairs = if n == anchor then pairs else []

module _ (N : List (net.Assertion ℕ ℕ)) where
  -- an attribute's value in a list of pairs stands there as v
  abbrev pub Writes : BagPairs → Sym → Term → Type 0
  Writes pairs attr v = (x : Term) × IsAmong pairs (attr, x) × StandsFor N (term_of x) v

  -- the bag has more: the pairs of a list whose attributes it lacked
  pub record HasMore (put old new : BagPairs) : Type 0 where
    pub put_listed : IsListed put
    pub listed : IsListed new
    pub pairs : (attr : Sym) (v : Term) → IsAmong new (attr, v) ↔ (IsAmong old (attr, v) ⊎ (LacksAttribute old attr × Writes put attr v))

  -- two lists give an attribute that both have linked values
  abbrev pub AreJoined : BagPairs → BagPairs → Type 0
  AreJoined bag added = (attr : Sym) (x y : Term) → IsAmong bag (attr, x) → IsAmong added (attr, y) → AreLinked N (term_of x) (term_of y)

  -- the bag has the attributes of the two lists, each once
  pub record IsJoint (bag added joint : BagPairs) : Type 0 where
    pub bag_listed : IsListed bag
    pub added_listed : IsListed added
    pub listed : IsListed joint
    pub pairs : (attr : Sym) (v : Term) → IsAmong joint (attr, v) ↔ (Writes bag attr v ⊎ Writes added attr v)

  -- the node with pairs that are added at the bottom
  pub record IsJointNode (old : TreeNode) (added : BagPairs) (new : TreeNode) : Type 0 where
    pub parent : new.parent ≡ old.parent
    pub own : IsJoint old.own [] new.own
    pub top : IsJoint old.top [] new.top
    pub bot : IsJoint old.bot added new.bot

  -- the first nodes, where pairs are added at the anchor
  pub record AreJointNodes (old : List TreeNode) (anchor : ℕ) (added : BagPairs) (count : ℕ) (new : List TreeNode) : Type 0 where
    pub as_many : length new ≡ count
    pub each : (n : ℕ) (x y : TreeNode) → slice_get old n ≡ Some x → slice_get new n ≡ Some y → IsJointNode x (added_at anchor n added) y

  -- the tree with what the entry adds
  pub record IsJointTree (t : Tree) (e : Entry) (first anchor : ℕ) (new : Tree) : Type 0 where
    pub nodes : AreJointNodes t.nodes anchor (counted_pairs first e.anchor) (length t.nodes) new.nodes
    pub interface : IsJoint t.iface (counted_pairs first e.iface) new.iface
    pub literals : AllZip (StandsForLiteral N) (literals_of (t.sem ++ counted_literals first e.sem)) new.sem

  -- The numbers of the tree's variables and of the entry's, counted from the first one, fit, and values of the same attributes are linked
  pub record IsReady (t : Tree) (e : Entry) (first anchor : ℕ) : Type 0 where
    pub tree : IsTreeBelow 4294967295 t
    pub iface : IsBagBelow 4294967295 (counted_pairs first e.iface)
    pub anchor_bag : IsBagBelow 4294967295 (counted_pairs first e.anchor)
    pub sem : Each (IsLiteralBelow 4294967295) (counted_literals first e.sem)
    pub interface : AreJoined t.iface (counted_pairs first e.iface)
    pub bottom : (x : TreeNode) → slice_get t.nodes anchor ≡ Some x → AreJoined x.bot (counted_pairs first e.anchor)
