use Rattle.std.proofs.Common.{◌≡◌, take}
use Rattle.std.specs.Prelude.{filter}
use Rattle.td_solver.specs.Ties.{is_of}
use Rattle.td_solver.proofs.ties.ties.Given as goal

abbrev pub invariant-loop-related : goal.invariant-loop-related
invariant-loop-related l = l.ties ≡ filter (is_of l.node) (take l.related-index l.relations)
