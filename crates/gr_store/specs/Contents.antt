-- What a store is for its callers.
use Rattle.std.specs.Prelude.{◌≡◌, ℕ, ◌+◌, ◌-◌, ◌^◌, ◌<◌, ◌≤◌, List, [], ◌∷◌, ◌++◌, length, take}
use Rattle.gr_base.specs.Lists.{IsAmong, Each}
use Rattle.gr_terms.specs.declared.Sym.{Sym}
use Rattle.gr_terms.specs.declared.Term.{Term}
use Rattle.gr_terms.specs.declared.Term.TheVariants.{Const, Var}
use Rattle.gr_terms.specs.declared.Assertion.{Assertion}
use Rattle.gr_terms.specs.declared.Assertion.TheVariants.{Entry, Equate, Link}
use Rattle.gr_terms.specs.Networks as net
use Rattle.gr_store.specs.declared.room.Room.{Room}
use Rattle.gr_store.specs.declared.room.Mark.{Mark}

-- the numbers of variables and slots made, the accepted assertions and the spare room
pub record Contents : Type 0 where
  pub vars : ℕ
  pub slots : ℕ
  pub accepted : List Assertion
  pub spare : Room

-- 0 for a name, else one more than the variable's number
abbrev pub rank : Term → ℕ
rank (Const p) = 0
rank (Var i) = i + 1

-- a term that is a name or one of the first variables
abbrev pub IsMade : ℕ → Term → Type 0
IsMade vars t = rank t ≤ vars

-- an assertion of made slots and terms
abbrev pub Mentions : ℕ → ℕ → Assertion → Type 0
Mentions vars slots (Entry s attr a) = (s.0 < slots) × IsMade vars a
Mentions vars slots (Equate a b) = IsMade vars a × IsMade vars b
Mentions vars slots (Link s t) = (s.0 < slots) × (t.0 < slots)

-- each assertion of the list is of made slots and terms
abbrev pub MentionsAll : ℕ → ℕ → List Assertion → Type 0
MentionsAll vars slots list = Each (Mentions vars slots) list

-- the attributes of the entries, in order
abbrev pub entry_attributes : List Assertion → List Sym
entry_attributes [] = []
entry_attributes (Entry s attr a ∷ list) = attr ∷ entry_attributes list
entry_attributes (Equate a b ∷ list) = entry_attributes list
entry_attributes (Link s t ∷ list) = entry_attributes list

-- how many of the assertions are entries
abbrev pub entry_count : List Assertion → ℕ
entry_count list = length (entry_attributes list)

-- the entry of the attribute that stands first in the network among those at slots linked with s has the value x
pub record IsFirstValue {V S : Type 0} (N : List (net.Assertion V S)) (s : S) (a : ℕ) (x : net.Term V) : Type 0 where
  pub before : List (net.Assertion V S)
  pub after : List (net.Assertion V S)
  pub from : S
  pub parts : N ≡ before ++ net.entry from a x ∷ after
  pub is_linked : net.AreLinkedSlots N s from
  pub first : (t : S) (y : net.Term V) → net.AreLinkedSlots N s t → IsAmong before (net.entry t a y) → ⊥

-- the numbers that a store uses now
abbrev pub mark_of : Contents → Mark
mark_of c = record { vars = c.vars; slots = c.slots; entries = entry_count c.accepted; assertions = length c.accepted }

-- how many variables, slots, entries and assertions there are fits 32 bits each
pub record Fits (c : Contents) : Type 0 where
  pub vars : c.vars < 2 ^ 32
  pub slots : c.slots < 2 ^ 32
  pub entries : entry_count c.accepted < 2 ^ 32
  pub assertions : length c.accepted < 2 ^ 32

-- the mark is of a first part of the store
pub record IsEarlier (c : Contents) (m : Mark) : Type 0 where
  pub vars : m.vars ≤ c.vars
  pub slots : m.slots ≤ c.slots
  pub assertions : m.assertions ≤ length c.accepted
  pub entries : entry_count (take m.assertions c.accepted) ≡ m.entries
  pub mentions : MentionsAll m.vars m.slots (take m.assertions c.accepted)

-- the first part, with the room of the rest spare again
abbrev pub first_part : Contents → Mark → Contents
first_part c m = record {
  vars = m.vars;
  slots = m.slots;
  accepted = take m.assertions c.accepted;
  spare = record {
    vars = c.spare.vars + (c.vars - m.vars);
    slots = c.spare.slots + (c.slots - m.slots);
    entries = c.spare.entries + (entry_count c.accepted - m.entries);
    assertions = c.spare.assertions + (length c.accepted - m.assertions);
  };
}

-- the store with one more assertion, which takes its room
abbrev pub accepting : Contents → Assertion → Contents
accepting c (Entry s attr a) = record c {
  accepted = c.accepted ++ Entry s attr a ∷ [];
  spare = record c.spare { entries = c.spare.entries - 1; assertions = c.spare.assertions - 1 };
}
accepting c (Equate a b) = record c {
  accepted = c.accepted ++ Equate a b ∷ [];
  spare = record c.spare { assertions = c.spare.assertions - 1 };
}
accepting c (Link s t) = record c {
  accepted = c.accepted ++ Link s t ∷ [];
  spare = record c.spare { assertions = c.spare.assertions - 1 };
}

-- the store went on from the old one: nothing was taken back
pub record Grows (old new : Contents) : Type 0 where
  pub vars : old.vars ≤ new.vars
  pub slots : old.slots ≤ new.slots
  pub longer : length old.accepted ≤ length new.accepted
  pub accepted : take (length old.accepted) new.accepted ≡ old.accepted
  pub var_room : new.vars + new.spare.vars ≡ old.vars + old.spare.vars
  pub slot_room : new.slots + new.spare.slots ≡ old.slots + old.spare.slots
  pub entry_room : entry_count new.accepted + new.spare.entries ≡ entry_count old.accepted + old.spare.entries
  pub assertion_room : length new.accepted + new.spare.assertions ≡ length old.accepted + old.spare.assertions
