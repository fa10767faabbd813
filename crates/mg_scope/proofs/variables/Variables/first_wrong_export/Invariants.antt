use Rattle.std.proofs.Common.{take, List, ◌≡◌}
use Rattle.gr_base.specs.Lists.{Each}
use Rattle.mg_syntax.specs.declared.item.Class.{Class}
use Rattle.mg_syntax.specs.declared.item.Item.{Item}
use Rattle.mg_scope.specs.Faults.{IsRightExport}
use Rattle.mg_scope.specs.Variables.{AreVariables}
use Rattle.mg_scope.proofs.variables.Variables.first_wrong_export.Given as goal

abbrev pub invariant-loop-export : goal.invariant-loop-export
invariant-loop-export l = (m : List Item) (k : Class) → AreVariables m k l.self → l.exports ≡ k.exports → Each (IsRightExport m k) (take l.export-index l.exports)
