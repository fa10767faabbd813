use Rattle.std.proofs.Common.{take}
use Rattle.mg_scope.specs.Classes.{mentioned}
use Rattle.mg_scope.specs.Orders.{AreRanksIn}
use Rattle.mg_scope.proofs.ranks.all_fall.Given as goal

abbrev pub invariant-loop-place : goal.invariant-loop-place
invariant-loop-place l = AreRanksIn (mentioned l.directory) l.ranks (take l.place l.directory)
