-- Trees of the code whose lists are the canonical bags of slots, and whose literals have what stands for their terms.
use Rattle.std.specs.Prelude.{ℕ, List, ◌↔◌, map}
use Rattle.std.specs.List.{AllZip}
use Rattle.gr_base.specs.Lists.{IsAmong, IsRising}
use Rattle.gr_base.specs.Forests.{AreAlike}
use Rattle.gr_terms.specs.Canonical as canonical
use Rattle.gr_terms.specs.Canonical.{Node, Decorated}
use Rattle.gr_terms.specs.Networks as net
use Rattle.gr_terms.specs.declared.Assertion.{Assertion}
use Rattle.gr_terms.specs.declared.Assertion.TheVariants.{Entry}
use Rattle.gr_terms.specs.declared.Literal.{Literal}
use Rattle.gr_terms.specs.declared.SlotId.{SlotId}
use Rattle.gr_terms.specs.declared.Sym.{Sym}
use Rattle.gr_terms.specs.declared.Term.{Term}
use Rattle.gr_feats.specs.CanonicalBags.{IsCanonicalBag, StandsFor}
use Rattle.td_tree.specs.Trees.{AreTreeNodes, BagPairs}
use Rattle.td_tree.specs.declared.Tree.{Tree}

-- the list has the attributes of the entries, each once, by rising number
pub record AreAttributes (network : List Assertion) (attributes : List Sym) : Type 0 where
  pub rising : IsRising (map (λ a. a.0) attributes)
  pub entries : (a : Sym) → IsAmong attributes a ↔ ((s : SlotId) × (x : Term) × IsAmong network (Entry s a x))

module _ (N : List (net.Assertion ℕ ℕ)) where
  -- the three bags are those of the three slots
  pub record HasBags (slots : Node ℕ) (bags : Node BagPairs) : Type 0 where
    pub own : IsCanonicalBag N slots.own bags.own
    pub top : IsCanonicalBag N slots.top bags.top
    pub bottom : IsCanonicalBag N slots.bottom bags.bottom

  -- the literal has what stands for each term
  pub record StandsForLiteral (l : canonical.Literal (net.Term ℕ)) (k : Literal) : Type 0 where
    pub handle : StandsFor N l.handle k.handle
    pub pred : StandsFor N l.pred k.pred
    pub args : AllZip (StandsFor N) l.args k.args

  -- the tree has the canonical bag of each slot, and literals of what stands for their terms
  pub record IsCanonicalTree (u : Decorated ℕ (net.Term ℕ)) (t : Tree) : Type 0 where
    pub nodes : AreTreeNodes t.nodes
    pub bags : AreAlike HasBags u.nodes nodes.forest
    pub interface : IsCanonicalBag N u.interface t.iface
    pub literals : AllZip StandsForLiteral u.literals t.sem
