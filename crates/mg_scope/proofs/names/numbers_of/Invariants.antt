use Rattle.std.proofs.Common.{◌≡◌, map, take}
use Rattle.mg_scope.specs.Names.{number_of}
use Rattle.mg_scope.proofs.names.numbers_of.Given as goal

abbrev pub invariant-loop-name : goal.invariant-loop-name
invariant-loop-name l = l.numbers.items ≡ map number_of (take l.name-index l.names)
