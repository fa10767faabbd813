use Rattle.std.proofs.Common.{◌≡◌, ◌++◌, drop}
use Rattle.sm_match.specs.Index.{suiting}
use Rattle.sm_match.proofs.index.suiting.Given as goal

abbrev pub invariant-loop-place : goal.invariant-loop-place
invariant-loop-place l = l.places.items ++ suiting l.place l.pred l.arity (drop l.place l.input) ≡ suiting 0 l.pred l.arity l.input
