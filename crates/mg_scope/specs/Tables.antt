-- Tables by names: what was put at a name in the round that runs.
use Rattle.std.specs.Prelude.{◌≡◌, ℕ, ◌<◌, ◌≤◌, List, Option, Some, None, ◌==◌, if◌then◌else◌, get_or}
use Rattle.gr_terms.specs.declared.Sym.{Sym}
use Rattle.mg_scope.specs.declared.table.Cell.{Cell}

-- the number of the round, and the cells by the numbers of names
abbrev pub Cells : Type 0
Cells = ℕ × List Cell

-- a cell of no round
abbrev pub no_cell : Cell
no_cell = record { round = 0; value = 0 }

abbrev pub cell_value : ℕ → Cell → Option ℕ
cell_value round cell = if cell.round == round then Some cell.value else None

-- what stands at the name
unfoldable pub value_at : Cells → Sym → Option ℕ
value_at t x = cell_value t.0 (get_or t.1 x.0 no_cell)

-- no cell is of a later round
abbrev pub IsTable : Cells → Type 0
IsTable t = (0 < t.0) × ((k : ℕ) → (get_or t.1 k no_cell).round ≤ t.0)

abbrev pub IsBlank : Cells → Type 0
IsBlank t = (x : Sym) → value_at t x ≡ None

-- the new table has the value at this name, and else what the old one has
abbrev pub Puts : Cells → Cells → Sym → ℕ → Type 0
Puts old new y v = (x : Sym) → value_at new x ≡ (if x.0 == y.0 then Some v else value_at old x)

-- the tables have the same at each name
abbrev pub AreSame : Cells → Cells → Type 0
AreSame old new = (x : Sym) → value_at new x ≡ value_at old x
