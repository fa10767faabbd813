use Rattle.std.proofs.Common.{length}
use Rattle.mg_scope.proofs.ranks.Walk.join.Given as goal

abbrev pub decreases-loop-first : goal.decreases-loop-first
decreases-loop-first l = length l.self.firsts.items
