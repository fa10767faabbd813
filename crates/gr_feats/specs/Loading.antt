-- What the pairs of a bag say of a slot of a store.
use Rattle.std.specs.Prelude.{ℕ, ◌+◌, ◌-◌, List, ◌++◌, map, length}
use Rattle.gr_terms.specs.declared.Sym.{Sym}
use Rattle.gr_terms.specs.declared.Term.{Term}
use Rattle.gr_terms.specs.declared.Term.TheVariants.{Const, Var}
use Rattle.gr_terms.specs.declared.SlotId.{SlotId}
use Rattle.gr_terms.specs.declared.Assertion.{Assertion}
use Rattle.gr_terms.specs.declared.Assertion.TheVariants.{Entry}
use Rattle.gr_store.specs.Contents.{Contents}

-- the term with its variable counted from the first one
abbrev pub counted_from : ℕ → Term → Term
counted_from first (Const p) = Const p
counted_from first (Var v) = Var (first + v)

-- the slot has each pair as an entry
abbrev pub entries_of : SlotId → ℕ → List (Sym × Term) → List Assertion
entries_of slot first pairs = map (λ p. Entry slot p.0 (counted_from first p.1)) pairs

-- the store with all of these entries more, which take their room
abbrev pub with_entries : Contents → SlotId → ℕ → List (Sym × Term) → Contents
with_entries c slot first pairs = record c {
  accepted = c.accepted ++ entries_of slot first pairs;
  spare = record c.spare { entries = c.spare.entries - length pairs; assertions = c.spare.assertions - length pairs };
}
