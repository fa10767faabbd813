use Rattle.std.proofs.Common.{take}
use Rattle.gr_base.specs.Lists.{Each}
use Rattle.mg_scope.specs.Faults.{IsThere}
use Rattle.mg_scope.proofs.check.first_unknown.Given as goal

abbrev pub invariant-loop-name : goal.invariant-loop-name
invariant-loop-name l = Each (IsThere l.directory) (take l.name-index l.names)
