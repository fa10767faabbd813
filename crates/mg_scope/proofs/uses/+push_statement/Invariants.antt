use Rattle.std.proofs.Common.{◌≡◌, ◌++◌, take}
use Rattle.gr_base.specs.Lists.{gathered}
use Rattle.mg_scope.specs.Uses.{statement_uses}
use Rattle.mg_scope.proofs.uses.+push_statement.Given as goal

abbrev pub invariant-loop-inner : goal.invariant-loop-inner
invariant-loop-inner l = l.uses.items ≡ l.initial.uses.items ++ gathered statement_uses (take l.inner-index l.inner-items)

abbrev pub invariant-loop-alternative : goal.invariant-loop-alternative
invariant-loop-alternative l = l.uses.items ≡ l.initial.uses.items ++ gathered (gathered statement_uses) (take l.alternative-index l.alternative-items)
