-- What the fields of a set of trees keep true: trees as they came, and their places by rising text.
use Rattle.std.specs.Prelude.{◌≡◌, ℕ, ◌<◌, ◌≤◌, List, [], ◌∷◌, ◌++◌, take, drop, length, slice_get, Option, Some, None, string_bytes}
use Rattle.gr_base.specs.Lists.{Each, IsBefore}
use Rattle.td_canon.specs.TreeSets.{Entry, IsTreeSet}
use Rattle.td_canon.specs.declared.tree_set.Held.{Held}

abbrev pub entry_of : Held → Entry
entry_of h = record { tree = h.tree; text = string_bytes h.text }

abbrev pub some_entry : Option Held → List Entry
some_entry None = []
some_entry (Some h) = entry_of h ∷ []

-- what stands at the places
abbrev pub entries_by : List Held → List ℕ → List Entry
entries_by held [] = []
entries_by held (i ∷ places) = some_entry (slice_get held i) ++ entries_by held places

-- the places are there and small, and what stands at them is a set
pub record KeepsOrder (held : List Held) (order : List ℕ) : Type 0 where
  pub within : Each (λ i. i < length held) order
  pub as_many : length order ≤ length held
  pub few : length held ≤ 4294967295
  pub set : IsTreeSet (entries_by held order)

-- the text stands at the place
abbrev pub HasTextAt : List Entry → ℕ → List ℕ → Type 0
HasTextAt set at bytes = (e : Entry) × (slice_get set at ≡ Some e) × (e.text ≡ bytes)

-- the texts before a place are lower than this one, and those from there on are higher
pub record SplitsAt (set : List Entry) (place : ℕ) (bytes : List ℕ) : Type 0 where
  pub within : place ≤ length set
  pub lower : Each (λ (e : Entry). IsBefore e.text bytes) (take place set)
  pub higher : Each (λ (e : Entry). IsBefore bytes e.text) (drop place set)
