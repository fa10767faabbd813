use Rattle.std.proofs.Common.{◌≡◌, drop}
use Rattle.sm_match.specs.Bindings.{name_of}
use Rattle.sm_match.proofs.bindings.name_of.Given as goal

abbrev pub invariant-loop-bound : goal.invariant-loop-bound
invariant-loop-bound l = name_of (drop l.bound-index l.bindings) l.var ≡ name_of l.bindings l.var
