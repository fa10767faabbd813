use Rattle.std.proofs.Common.{take}
use Rattle.mg_scope.specs.Classes.{exports_of}
use Rattle.mg_scope.specs.Variables.{MarksAsked}
use Rattle.mg_scope.proofs.variables.mark_exported.Given as goal

abbrev pub invariant-loop-name : goal.invariant-loop-name
invariant-loop-name l = MarksAsked l.initial.table l.table (exports_of l.directory l.class) (take l.name-index l.names)
