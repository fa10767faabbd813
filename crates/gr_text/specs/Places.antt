-- Lines and columns, both counted from 1. A column counts bytes, and only LF, the byte 10, ends a line.
use Rattle.std.specs.Prelude.{ℕ, ◌+◌, Bool, ◌==◌, List, length}
use Rattle.std.specs.List.{count_by, after_last}
use Rattle.gr_text.specs.declared.Place.{Place}

-- whether the byte is LF
abbrev pub is_line_feed : ℕ → Bool
is_line_feed b = b == 10

-- the line of the place after these bytes: one more than they have LFs
unfoldable pub line_after : List ℕ → ℕ
line_after bytes = 1 + count_by is_line_feed bytes

-- the column of the place after these bytes: one more than they have bytes behind their last LF
unfoldable pub column_after : List ℕ → ℕ
column_after bytes = 1 + length (after_last is_line_feed bytes)

-- the place after these bytes
abbrev pub place_after : List ℕ → Place
place_after bytes = record { line = line_after bytes; column = column_after bytes }
