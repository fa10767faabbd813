use Rattle.std.proofs.Common.{take, List, ◌≡◌}
use Rattle.gr_base.specs.Lists.{Each}
use Rattle.mg_syntax.specs.declared.item.Class.{Class}
use Rattle.mg_scope.specs.Classes.{uses_of}
use Rattle.mg_scope.specs.Faults.{IsRightUse, IsRightDot}
use Rattle.mg_scope.specs.Variables.{AreVariables}
use Rattle.mg_scope.proofs.variables.Variables.first_wrong_dot.Given as goal

abbrev pub invariant-loop-one : goal.invariant-loop-one
invariant-loop-one l =
    (k : Class) → AreVariables l.directory k l.self → l.uses ≡ uses_of k → Each (IsRightUse l.directory k) l.uses → Each (IsRightDot l.directory k) (take l.one-index l.uses)
