use Rattle.std.proofs.Common.{◌≡◌, ◌++◌, take}
use Rattle.gr_base.specs.Lists.{gathered}
use Rattle.mg_scope.specs.Uses.{side_uses}
use Rattle.mg_scope.proofs.uses.push_sides.Given as goal

abbrev pub invariant-loop-side : goal.invariant-loop-side
invariant-loop-side l = l.uses.items ≡ l.initial.uses.items ++ gathered side_uses (take l.side-index l.sides)
