-- What a ledger is for its callers, and the room of its store.
use Rattle.std.specs.Prelude.{◌≡◌, ℕ, ◌+◌, ◌-◌, ◌^◌, ◌<◌, ◌≤◌, List, length, take}
use Rattle.gr_terms.specs.declared.Assertion.{Assertion}
use Rattle.gr_store.specs.declared.room.Room.{Room}
use Rattle.gr_store.specs.declared.room.Mark.{Mark}
use Rattle.gr_store.specs.Contents.{Contents, entry_count, MentionsAll}

-- the numbers of variables and slots, and the accepted assertions
pub record Kept : Type 0 where
  pub vars : ℕ
  pub slots : ℕ
  pub accepted : List Assertion

abbrev pub kept_of : Contents → Kept
kept_of c = record { vars = c.vars; slots = c.slots; accepted = c.accepted }

-- what is used and what is spare of each kind is not nothing
pub record HasTotal (c : Contents) : Type 0 where
  pub vars : 0 < c.vars + c.spare.vars
  pub slots : 0 < c.slots + c.spare.slots
  pub entries : 0 < entry_count c.accepted + c.spare.entries
  pub assertions : 0 < length c.accepted + c.spare.assertions

-- there is room for one more of each kind
pub record HasSpare (c : Contents) : Type 0 where
  pub vars : 0 < c.spare.vars
  pub slots : 0 < c.spare.slots
  pub entries : 0 < c.spare.entries
  pub assertions : 0 < c.spare.assertions

-- the room takes what is used
pub record Holds (room : Room) (v s : ℕ) (list : List Assertion) : Type 0 where
  pub vars : v ≤ room.vars
  pub slots : s ≤ room.slots
  pub entries : entry_count list ≤ room.entries
  pub assertions : length list ≤ room.assertions

-- a store of this room that holds so much
abbrev pub filled : Room → ℕ → ℕ → List Assertion → Contents
filled room vars slots list = record {
  vars = vars;
  slots = slots;
  accepted = list;
  spare = record {
    vars = room.vars - vars;
    slots = room.slots - slots;
    entries = room.entries - entry_count list;
    assertions = room.assertions - length list;
  };
}

-- how many variables and slots there are fits 32 bits each
pub record Fits (k : Kept) : Type 0 where
  pub vars : k.vars < 2 ^ 32
  pub slots : k.slots < 2 ^ 32

abbrev pub kept_mark : Kept → Mark
kept_mark k = record { vars = k.vars; slots = k.slots; entries = entry_count k.accepted; assertions = length k.accepted }

-- the mark is of a first part
pub record IsMarked (k : Kept) (m : Mark) : Type 0 where
  pub vars : m.vars ≤ k.vars
  pub slots : m.slots ≤ k.slots
  pub assertions : m.assertions ≤ length k.accepted
  pub entries : entry_count (take m.assertions k.accepted) ≡ m.entries
  pub mentions : MentionsAll m.vars m.slots (take m.assertions k.accepted)

abbrev pub kept_part : Kept → Mark → Kept
kept_part k m = record { vars = m.vars; slots = m.slots; accepted = take m.assertions k.accepted }
