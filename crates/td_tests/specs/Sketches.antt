-- What the tests' small descriptions are made of.
use Rattle.std.specs.Prelude.{◌≡◌, ◌≤◌, List, ◌++◌, length}
use Rattle.gr_base.specs.Lists.{Each}
use Rattle.td_desc.specs.declared.Colour.{Colour}
use Rattle.td_desc.specs.declared.DescribedNode.{DescribedNode}
use Rattle.td_desc.specs.Conditions.{AreOfColour, AreSlotsBelow}

-- nodes of the colour were added, so that there are at most 24
pub record AddsNodes (c : Colour) (old new : List DescribedNode) : Type 0 where
  pub more : List DescribedNode
  pub is : new ≡ old ++ more
  pub colour : AreOfColour c more
  pub slots : Each (AreSlotsBelow 73) more
  pub few : length new ≤ 24
