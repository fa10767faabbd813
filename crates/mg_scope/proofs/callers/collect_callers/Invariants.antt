use Rattle.std.proofs.Common.{take}
use Rattle.mg_scope.specs.Classes.{mentioned}
use Rattle.mg_scope.specs.Orders.{AreCallersIn}
use Rattle.mg_scope.proofs.callers.collect_callers.Given as goal

abbrev pub invariant-loop-place : goal.invariant-loop-place
invariant-loop-place l = AreCallersIn (mentioned l.directory) l.all (take l.place l.directory)
