use Rattle.std.proofs.Common.{take}
use Rattle.mg_scope.specs.Variables.{Marks}
use Rattle.mg_scope.proofs.variables.mark.Given as goal

abbrev pub invariant-loop-name : goal.invariant-loop-name
invariant-loop-name l = Marks l.initial.table l.table (take l.name-index l.names)
