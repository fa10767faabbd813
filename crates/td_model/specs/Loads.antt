-- A description's network in a store, with its variables and slots counted from the first ones that are made for it.
use Rattle.std.specs.Prelude.{◌≡◌, ℕ, ◌+◌, ◌-◌, ◌*◌, ◌<◌, ◌≤◌, List, [], ◌∷◌, ◌++◌, map, length}
use Rattle.gr_terms.specs.declared.SlotId.{SlotId}
use Rattle.gr_terms.specs.declared.Assertion.{Assertion}
use Rattle.gr_terms.specs.declared.Assertion.TheVariants.{Entry, Equate, Link}
use Rattle.gr_terms.specs.Networks.{Agrees}
use Rattle.gr_terms.specs.Views.{network_of}
use Rattle.gr_store.specs.Contents.{Contents, entry_count}
use Rattle.gr_feats.specs.Loading.{counted_from}
use Rattle.td_desc.specs.declared.DescribedNode.{DescribedNode}
use Rattle.td_desc.specs.declared.Description.{Description}

-- the slot, and an assertion, counted from the first slot and the first variable
abbrev pub slot_from : ℕ → SlotId → SlotId
slot_from first s = record { 0 = first + s.0 }

abbrev pub counted_assertion : ℕ → ℕ → Assertion → Assertion
counted_assertion vars slots (Entry s a x) = Entry (slot_from slots s) a (counted_from vars x)
counted_assertion vars slots (Equate x y) = Equate (counted_from vars x) (counted_from vars y)
counted_assertion vars slots (Link s t) = Link (slot_from slots s) (slot_from slots t)

abbrev pub counted_network : ℕ → ℕ → List Assertion → List Assertion
counted_network vars slots list = map (counted_assertion vars slots) list

-- the store has room for the description
pub record HasRoom (c : Contents) (d : Description) : Type 0 where
  pub vars : d.vars ≤ c.spare.vars
  pub slots : d.slots ≤ c.spare.slots
  pub entries : entry_count d.network ≤ c.spare.entries
  pub assertions : length d.network ≤ c.spare.assertions

-- the store with the variables, the slots and the network of the description more, which take their room
abbrev pub with_description : Contents → Description → Contents
with_description c d = record {
  vars = c.vars + d.vars;
  slots = c.slots + d.slots;
  accepted = c.accepted ++ counted_network c.vars c.slots d.network;
  spare = record {
    vars = c.spare.vars - d.vars;
    slots = c.spare.slots - d.slots;
    entries = c.spare.entries - entry_count d.network;
    assertions = c.spare.assertions - length d.network;
  };
}

-- the store has just the description, with the same numbers, and room for three links for each of its nodes
pub record IsLoaded (d : Description) (c : Contents) : Type 0 where
  pub vars : c.vars ≡ d.vars
  pub slots : c.slots ≡ d.slots
  pub accepted : c.accepted ≡ d.network
  pub room : c.spare.assertions ≡ 3 * length d.nodes
  pub agrees : Agrees (network_of d.network)

-- the links of the three slots of one node with those of another
abbrev pub slot_links : ℕ → DescribedNode → DescribedNode → List Assertion
slot_links first n m = Link (slot_from first n.own) (slot_from first m.own) ∷ Link (slot_from first n.top) (slot_from first m.top) ∷ Link (slot_from first n.bot) (slot_from first m.bot) ∷ []

-- the slots of the node, counted from the first slot, were made
pub record AreSlotsMade (first slots : ℕ) (n : DescribedNode) : Type 0 where
  pub own : first + n.own.0 < slots
  pub top : first + n.top.0 < slots
  pub bot : first + n.bot.0 < slots

-- the store with these links more
abbrev pub with_links : Contents → List Assertion → Contents
with_links c links = record c {
  accepted = c.accepted ++ links;
  spare = record c.spare { assertions = c.spare.assertions - length links };
}
