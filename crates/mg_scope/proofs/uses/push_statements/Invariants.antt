use Rattle.std.proofs.Common.{◌≡◌, ◌++◌, take}
use Rattle.gr_base.specs.Lists.{gathered}
use Rattle.mg_scope.specs.Uses.{statement_uses}
use Rattle.mg_scope.proofs.uses.push_statements.Given as goal

abbrev pub invariant-loop-statement : goal.invariant-loop-statement
invariant-loop-statement l = l.uses.items ≡ l.initial.uses.items ++ gathered statement_uses (take l.statement-index l.statements)
