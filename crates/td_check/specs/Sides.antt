-- What the two sides of a comparison say.
use Rattle.std.specs.Prelude.{ℕ, ◌+◌, List, length}
use Rattle.gr_terms.specs.Networks as net
use Rattle.gr_terms.specs.Networks.{Assertion}
use Rattle.gr_terms.specs.Views.{network_of}
use Rattle.td_check.specs.declared.sides.Sides.{Sides}
use Rattle.td_check.specs.Places.{FitsBeside, FitsAll, Passes, ListsAll, ListsNodes, AreReady, HasAttributesOf}

-- the network of the store
abbrev pub network_in : Sides → List (Assertion ℕ ℕ)
network_in s = network_of s.store.now.accepted

-- one value beside another, and a value beside all
abbrev pub Fits : Sides → net.Term ℕ → net.Term ℕ → net.Term ℕ → net.Term ℕ → Type 0
Fits s w x = FitsBeside (network_in s) w x

abbrev pub IsFitting : Sides → net.Term ℕ → net.Term ℕ → Type 0
IsFitting s w x = FitsAll (network_in s) s.d.now s.tree.now s.heads s.vars s.slots w x

-- numbers fit, and the store has no other attributes at the description's slots
pub record IsSet (s : Sides) : Type 0 where
  pub ready : AreReady s.d.now (length s.tree.now.nodes) s.heads s.vars s.slots
  pub attributes : HasAttributesOf s.d.now (network_in s) s.slots

-- the tree has the attributes of the slots, and each of its values fits
pub record AreAlike (s : Sides) : Type 0 where
  pub nodes : ListsNodes (network_in s) s.d.now s.tree.now s.heads s.slots
  pub interface : ListsAll (network_in s) (s.slots + s.d.now.iface.0) s.tree.now.iface
  pub values : Passes (network_in s) (IsFitting s) s.d.now s.tree.now s.heads s.vars s.slots
