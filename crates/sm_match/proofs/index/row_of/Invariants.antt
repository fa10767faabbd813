use Rattle.std.proofs.Common.{◌≡◌, take}
use Rattle.gr_base.specs.Lists.{IsAmong}
use Rattle.sm_match.specs.declared.index.Row.{Row}
use Rattle.sm_match.proofs.index.row_of.Given as goal

abbrev pub invariant-loop-row : goal.invariant-loop-row
invariant-loop-row l = (r : Row) → IsAmong (take l.row-index l.rows) r → r.pred ≡ l.pred → r.arity ≡ l.arity → ⊥
