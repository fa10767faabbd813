use Rattle.std.proofs.Common.{take}
use Rattle.mg_scope.specs.Variables.{HasImported}
use Rattle.mg_scope.proofs.variables.mark_imports.Given as goal

abbrev pub invariant-loop-class : goal.invariant-loop-class
invariant-loop-class l = HasImported l.directory l.initial.table l.table l.imported (take l.class-index l.classes) l.asked
