-- Descriptions over any variables and slots, and the numbered ones of the code read as such.
use Rattle.std.specs.Prelude.{ℕ, List, map}
use Rattle.gr_terms.specs.Networks as net
use Rattle.gr_terms.specs.Canonical as canonical
use Rattle.gr_terms.specs.Views.{network_of}
use Rattle.gr_terms.specs.LiteralViews.{literals_of}
use Rattle.td_desc.specs.declared.Colour.{Colour}
use Rattle.td_desc.specs.declared.Related.{Related}
use Rattle.td_desc.specs.declared.DescribedNode as code_node
use Rattle.td_desc.specs.declared.Description as code

-- a node: its colour, and its own slot and those of its top and bottom
pub record DescribedNode (S : Type 0) : Type 0 where
  pub colour : Colour
  pub slots : canonical.Node S

-- nodes in search order, relations between them by their places, a network, the slot of the interface, and literals
pub record Description (V S : Type 0) : Type 0 where
  pub nodes : List (DescribedNode S)
  pub relations : List Related
  pub network : List (net.Assertion V S)
  pub interface : S
  pub literals : List (canonical.Literal (net.Term V))

abbrev pub node_of : code_node.DescribedNode → DescribedNode ℕ
node_of n = record { colour = n.colour; slots = record { own = n.own.0; top = n.top.0; bottom = n.bot.0 } }

abbrev pub description_of : code.Description → Description ℕ ℕ
description_of d = record {
  nodes = map node_of d.nodes;
  relations = d.relations;
  network = network_of d.network;
  interface = d.iface.0;
  literals = literals_of d.sem;
}
