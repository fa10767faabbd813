use Rattle.std.proofs.Common.{◌≡◌, ◌++◌, take}
use Rattle.gr_base.specs.Lists.{gathered}
use Rattle.mg_scope.specs.Classes.{called_class}
use Rattle.mg_scope.proofs.directory.push_called.Given as goal

abbrev pub invariant-loop-place : goal.invariant-loop-place
invariant-loop-place l = l.classes.items ≡ l.initial.classes.items ++ gathered called_class (take l.place-index l.uses)
