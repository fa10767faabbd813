use Rattle.std.proofs.Common.{◌≡◌, take}
use Rattle.std.specs.Prelude.{filter}
use Rattle.td_solver.specs.Ties.{is_tight_before}
use Rattle.td_solver.proofs.ties.tight.Given as goal

abbrev pub invariant-loop-related : goal.invariant-loop-related
invariant-loop-related l = l.tight ≡ filter (is_tight_before l.node) (take l.related-index l.relations)
