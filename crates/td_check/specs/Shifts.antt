-- Networks with their variables and slots counted from first ones, and what a store gains by them.
use Rattle.std.specs.Prelude.{◌≡◌, ℕ, ◌+◌, ◌-◌, ◌<◌, ◌≤◌, List, ◌++◌, length}
use Rattle.gr_terms.specs.Canonical.{Node, Decorated, map_literal}
use Rattle.gr_terms.specs.Networks as net
use Rattle.gr_terms.specs.Networks.{variable, put_term, put_network}
use Rattle.gr_terms.specs.Views.{network_of}
use Rattle.gr_terms.specs.declared.Term.{Term}
use Rattle.gr_terms.specs.declared.Term.TheVariants.{Const, Var}
use Rattle.gr_store.specs.Contents.{Contents, Grows}

-- the term with its variable counted from the first one
abbrev pub counted_from : ℕ → Term → Term
counted_from first (Const p) = Const p
counted_from first (Var v) = Var (first + v)

-- variables and slots counted from first ones
abbrev pub later_var : ℕ → ℕ → net.Term ℕ
later_var vars v = variable (vars + v)

abbrev pub later_slot : ℕ → ℕ → ℕ
later_slot slots s = slots + s

abbrev pub moved : ℕ → ℕ → List (net.Assertion ℕ ℕ) → List (net.Assertion ℕ ℕ)
moved vars slots N = put_network (later_var vars) (later_slot slots) N

-- the store has accepted these assertions more, each with room for at most one of them
pub record Gains (old new : Contents) (list : List (net.Assertion ℕ ℕ)) : Type 0 where
  pub vars : new.vars ≡ old.vars
  pub slots : new.slots ≡ old.slots
  pub accepted : network_of new.accepted ≡ network_of old.accepted ++ list
  pub entries : old.spare.entries ≤ new.spare.entries + length list
  pub assertions : old.spare.assertions ≤ new.spare.assertions + length list
  pub grows : Grows old new
