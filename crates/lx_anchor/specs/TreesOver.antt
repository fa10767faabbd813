-- Trees of the code that have the canonical bags of a decorated tree over a network, whatever its variables and slots are.
use Rattle.std.specs.Prelude.{◌≡◌, ℕ, List, ◌↔◌, map}
use Rattle.gr_base.specs.Lists.{IsAmong}
use Rattle.gr_base.specs.Forests.{AreAlike}
use Rattle.gr_terms.specs.BagViews.{pairs_of}
use Rattle.gr_terms.specs.Bags.{IsListed}
use Rattle.gr_terms.specs.Canonical.{Node, Decorated, IsMet, map_literal}
use Rattle.gr_terms.specs.LiteralViews.{literals_of}
use Rattle.gr_terms.specs.Networks.{Term, Assertion, name, variable, AreLinked, HasValue, put_term}
use Rattle.td_tree.specs.Trees.{AreTreeNodes, BagPairs}
use Rattle.td_tree.specs.declared.Tree.{Tree}

module _ {V S : Type 0} (N : List (Assertion V S)) where
  -- What each term is written as. Linked terms are written alike; of those that are met, two are written alike only where they are linked,
  -- and one is written as a name exactly where it is linked with it. A variable that one is written as stands for a variable of its class
  pub record AreWritten (met : Term V → Type 0) (written : Term V → Term ℕ) : Type 0 where
    pub linked : (x y : Term V) → AreLinked N x y → written x ≡ written y
    pub classes : (x y : Term V) → met x → met y → written x ≡ written y → AreLinked N x y
    pub names : (x : Term V) (a : ℕ) → met x → (written x ≡ name a) ↔ AreLinked N x (name a)
    pub origin : ℕ → V
    pub home : (x : Term V) → met x → AreLinked N x (put_term (λ v. variable (origin v)) (written x))

  -- the bag has the attributes of the slot and of those linked with it, each once, with what their values are written as
  pub record ListsSlot (written : Term V → Term ℕ) (s : S) (bag : BagPairs) : Type 0 where
    pub listed : IsListed bag
    pub pairs : (a : ℕ) (v : Term ℕ) → IsAmong (pairs_of bag) (a, v) ↔ ((x : Term V) × HasValue N s a x × (v ≡ written x))

  -- the three bags are those of the three slots
  pub record ListsNode (written : Term V → Term ℕ) (slots : Node S) (bags : Node BagPairs) : Type 0 where
    pub own : ListsSlot written slots.own bags.own
    pub top : ListsSlot written slots.top bags.top
    pub bottom : ListsSlot written slots.bottom bags.bottom

  -- the tree has the bags of the slots, and the literals with what their terms are written as
  pub record IsTreeOver (u : Decorated S (Term V)) (t : Tree) : Type 0 where
    pub written : Term V → Term ℕ
    pub exact : AreWritten (IsMet N u) written
    pub nodes : AreTreeNodes t.nodes
    pub bags : AreAlike (ListsNode written) u.nodes nodes.forest
    pub interface : ListsSlot written u.interface t.iface
    pub literals : literals_of t.sem ≡ map (map_literal written) u.literals
