use Rattle.std.proofs.Common.{take}
use Rattle.mg_scope.specs.Directories.{ArePlaces}
use Rattle.mg_scope.proofs.places.first_places.Given as goal

abbrev pub invariant-loop-place : goal.invariant-loop-place
invariant-loop-place l = ArePlaces (take l.place l.items) l.places
