-- How the fields of a store stand to its accepted assertions.
use Rattle.std.specs.Prelude.{◌≡◌, ℕ, ◌+◌, ◌^◌, ◌<◌, ◌≤◌, List, length, take, map, get_or}
use Rattle.gr_terms.specs.declared.Sym.{Sym}
use Rattle.gr_terms.specs.declared.Assertion.{Assertion}
use Rattle.gr_store.specs.declared.bindings.Bound.{Bound}
use Rattle.gr_store.specs.declared.room.Room.{Room}
use Rattle.gr_store.specs.declared.room.Mark.{Mark}
use Rattle.gr_store.specs.declared.kept.Kept.{Kept}
use Rattle.gr_store.specs.Roots.{root_by, slot_root}
use Rattle.gr_store.specs.Solution.{Solves}
use Rattle.gr_store.specs.Index.{IsIndex}
use Rattle.gr_store.specs.Contents.{MentionsAll, entry_attributes}

abbrev pub assertions_of : List Kept → List Assertion
assertions_of kept = map (λ e. e.assertion) kept

-- how many bindings of terms and how many joins of nodes stood before each assertion
abbrev pub terms_before : List Kept → List ℕ
terms_before kept = map (λ e. e.terms) kept

abbrev pub joins_before : List Kept → List ℕ
joins_before kept = map (λ e. e.joins) kept

-- the bindings that stood after the first k assertions
abbrev pub first_bound : List ℕ → List Bound → ℕ → List Bound
first_bound before trail k = take (get_or before k (length trail)) trail

-- the numbers, and then n, don't fall
abbrev pub IsRising : List ℕ → ℕ → Type 0
IsRising before n = (j k : ℕ) → j ≤ k → get_or before j n ≤ get_or before k n

-- the bindings solve each first part of the assertions, and the joined nodes find its entries
pub record IsHistory (base : ℕ) (kept : List Kept) (terms nodes : List Bound) : Type 0 where
  pub terms_rise : IsRising (terms_before kept) (length terms)
  pub joins_rise : IsRising (joins_before kept) (length nodes)
  pub solves : (k : ℕ) → k ≤ length kept
      → Solves base (take k (assertions_of kept)) (root_by (first_bound (terms_before kept) terms k)) (slot_root (first_bound (joins_before kept) nodes k))
  pub index : (k : ℕ) → k ≤ length kept → IsIndex base (take k (assertions_of kept)) (first_bound (joins_before kept) nodes k)

-- the bindings are those of the kept assertions, and the numbers are right
pub record IsState (terms nodes : ℕ × List Bound) (base : ℕ) (kept : List Kept) (attributes : List Sym) (used : Mark) (spare : Room) : Type 0 where
  pub var_room : used.vars + spare.vars ≡ terms.0
  pub slot_room : used.slots + spare.slots ≡ base
  pub node_room : base + length kept ≡ nodes.0
  pub kept_room : used.assertions + spare.assertions ≡ length kept
  pub entry_room : used.entries + spare.entries ≡ length attributes
  pub vars_fit : terms.0 < 2 ^ 32
  pub nodes_fit : nodes.0 < 2 ^ 32
  pub entries_fit : length attributes < 2 ^ 32
  pub entries : take used.entries attributes ≡ entry_attributes (assertions_of (take used.assertions kept))
  pub mentions : MentionsAll used.vars used.slots (assertions_of (take used.assertions kept))
  pub history : IsHistory base (take used.assertions kept) terms.1 nodes.1
