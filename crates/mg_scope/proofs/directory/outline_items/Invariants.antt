use Rattle.std.proofs.Common.{take}
use Rattle.mg_scope.specs.Directories.{AreOutlines}
use Rattle.mg_scope.proofs.directory.outline_items.Given as goal

abbrev pub invariant-loop-item : goal.invariant-loop-item
invariant-loop-item l = AreOutlines (take l.item-index l.items) l.all.items
