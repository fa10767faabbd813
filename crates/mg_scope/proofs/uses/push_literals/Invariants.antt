use Rattle.std.proofs.Common.{◌≡◌, ◌++◌, take}
use Rattle.gr_base.specs.Lists.{gathered}
use Rattle.mg_scope.specs.Uses.{literal_uses}
use Rattle.mg_scope.proofs.uses.push_literals.Given as goal

abbrev pub invariant-loop-literal : goal.invariant-loop-literal
invariant-loop-literal l = l.uses.items ≡ l.initial.uses.items ++ gathered literal_uses (take l.literal-index l.literals)
