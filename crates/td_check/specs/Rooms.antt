-- The room that a store must have for a description.
use Rattle.std.specs.Prelude.{◌+◌, ◌*◌, ◌≤◌, length}
use Rattle.gr_store.specs.Contents.{Contents}
use Rattle.td_desc.specs.declared.Description.{Description}

-- spare room for the description's variables and slots, for its network, and for three links of each node
pub record HasRoom (c : Contents) (d : Description) : Type 0 where
  pub vars : d.vars ≤ c.spare.vars
  pub slots : d.slots ≤ c.spare.slots
  pub entries : length d.network ≤ c.spare.entries
  pub assertions : length d.network + 3 * length d.nodes ≤ c.spare.assertions
