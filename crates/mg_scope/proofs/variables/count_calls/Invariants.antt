use Rattle.std.proofs.Common.{take}
use Rattle.mg_scope.specs.Variables.{AreCalls}
use Rattle.mg_scope.proofs.variables.count_calls.Given as goal

abbrev pub invariant-loop-place : goal.invariant-loop-place
invariant-loop-place l = AreCalls l.calls l.statements (take l.place l.uses)
