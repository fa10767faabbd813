use Rattle.std.proofs.Common.{◌≡◌, take}
use Rattle.mg_scope.specs.Classes.{firsts}
use Rattle.mg_expand.proofs.exports.note_all.Given as goal

abbrev pub invariant-loop-name : goal.invariant-loop-name
invariant-loop-name l = l.names.items ≡ firsts (take l.name-index l.exports)
