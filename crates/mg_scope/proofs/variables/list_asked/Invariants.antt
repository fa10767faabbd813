use Rattle.std.proofs.Common.{◌≡◌, ◌++◌, map, take}
use Rattle.mg_scope.specs.Variables.{variable_in}
use Rattle.mg_scope.proofs.variables.list_asked.Given as goal

abbrev pub invariant-loop-one : goal.invariant-loop-one
invariant-loop-one l = l.asked.items ≡ l.exports ++ map variable_in (take l.one-index l.uses)
