-- What an expansion says of its variables, and how the types of the code are read as such.
use Rattle.std.specs.Prelude.{ℕ, List}
use Rattle.gr_terms.specs.Networks.{Term, name, variable}
use Rattle.gr_terms.specs.Canonical as canonical
use Rattle.td_desc.specs.declared.Colour.{Colour}
use Rattle.td_desc.specs.declared.Dominance.{Dominance}
use Rattle.mg_facts.specs.declared.variable.Variable.{Variable}
use Rattle.mg_facts.specs.declared.variable.Place.{Place}
use Rattle.mg_facts.specs.declared.variable.Place.TheVariants as place
use Rattle.mg_facts.specs.declared.variable.Value.{Value}
use Rattle.mg_facts.specs.declared.variable.Value.TheVariants as value

pub data Slot : Type 0 where
  own_of : Variable → Slot
  top_of : Variable → Slot
  bottom_of : Variable → Slot
  the_interface : Slot

-- a node block of x; a relation of x and y; x and y are one node; x and y are one variable; x is this name; x has this colour;
-- a slot has this attribute with this value; a literal
pub data Said : Type 0 where
  block : Variable → Said
  related : Variable → Dominance → Variable → Said
  one_node : Variable → Variable → Said
  identified : Variable → Variable → Said
  is_name : Variable → ℕ → Said
  coloured : Variable → Colour → Said
  paired : Slot → ℕ → Term Variable → Said
  says : canonical.Literal (Term Variable) → Said

abbrev pub slot_of : Place → Slot
slot_of (place.Own x) = own_of x
slot_of (place.Top x) = top_of x
slot_of (place.Bottom x) = bottom_of x
slot_of place.Interface = the_interface

abbrev pub term_of : Value → Term Variable
term_of (value.Variable x) = variable x
term_of (value.Name a) = name a.0
