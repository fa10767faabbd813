-- How the network, the classes and the marks stand to the facts in numbers.
use Rattle.std.specs.Prelude.{◌≡◌, ℕ, ◌+◌, ◌*◌, ◌<◌, ◌≤◌, List, length, take, Some, slice_get, ◌⊎◌}
use Rattle.gr_base.specs.Lists.{Each}
use Rattle.gr_terms.specs.Networks.{Agrees}
use Rattle.gr_terms.specs.Views.{network_of}
use Rattle.gr_store.specs.Contents.{entry_count}
use Rattle.mg_facts.specs.declared.variable.Variable.{Variable}
use Rattle.mg_facts.specs.declared.fact.Fact.{Fact}
use Rattle.mg_facts.specs.declared.marks.Past.{Past}
use Rattle.mg_facts.specs.Ledgers.{Kept}
use Rattle.mg_facts.specs.Numbered.{IsBelow, AreMet, all_asserted, all_joined}

-- the less of two numbers
pub record IsLess (part k n : ℕ) : Type 0 where
  pub first : part ≤ k
  pub second : part ≤ n
  pub either : (part ≡ k) ⊎ (part ≡ n)

-- what there was before fact number k, where the network has the first facts, as many as `fed`
pub record IsPast (facts : List Fact) (fed k : ℕ) (p : Past) : Type 0 where
  pub part : ℕ
  pub less : IsLess part k fed
  pub below : Each (IsBelow p.names) (take k facts)
  pub met : AreMet p.names (take k facts)
  pub assertions : p.assertions ≡ length (all_asserted (take part facts))
  pub entries : p.entries ≡ entry_count (all_asserted (take part facts))
  pub joins : p.joins ≡ length (all_joined (take k facts))

-- more variables and slots, and the same assertions
pub record HasMoreRoom (old new : Kept) : Type 0 where
  pub vars : old.vars ≤ new.vars
  pub slots : old.slots ≤ new.slots
  pub accepted : new.accepted ≡ old.accepted

-- the network has the first facts up to the first that it doesn't agree with, and the classes those of all facts
pub record IsStated (names : List Variable) (used : ℕ) (facts : List Fact) (past : List Past) (network classes : Kept) (fed : ℕ) : Type 0 where
  pub count : length past ≡ length facts
  pub part : fed ≤ length facts
  pub named : used ≤ length names
  pub below : Each (IsBelow used) facts
  pub met : AreMet used facts
  pub vars : length names ≤ network.vars
  pub slots : 3 * length names + 1 ≤ network.slots
  pub class_vars : length names ≤ classes.vars
  pub asserted : network.accepted ≡ all_asserted (take fed facts)
  pub joined : classes.accepted ≡ all_joined facts
  pub clash : fed < length facts → Agrees (network_of (all_asserted (take (fed + 1) facts))) → ⊥
  pub history : (k : ℕ) (p : Past) → slice_get past k ≡ Some p → IsPast facts fed k p
