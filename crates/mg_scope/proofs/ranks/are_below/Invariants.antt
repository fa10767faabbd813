use Rattle.std.proofs.Common.{take, ◌<◌, ◌≤◌}
use Rattle.gr_base.specs.Lists.{Each}
use Rattle.mg_scope.specs.Orders.{rank_of}
use Rattle.mg_scope.proofs.ranks.are_below.Given as goal

abbrev pub invariant-loop-name : goal.invariant-loop-name
invariant-loop-name l = Each (λ x. rank_of l.ranks x < l.rank_above) (take l.name-index l.names)
