use Rattle.mg_scope.specs.Checks.{AreRightTo}
use Rattle.mg_scope.proofs.check.check.Given as goal

abbrev pub invariant-loop-place : goal.invariant-loop-place
invariant-loop-place l = AreRightTo l.items l.place
