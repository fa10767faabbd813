use Rattle.std.proofs.Common.{take}
use Rattle.tg_grammar.specs.Places.{ArePlaces}
use Rattle.tg_grammar.proofs.grammar.first_places.Given as goal

abbrev pub invariant-loop-place : goal.invariant-loop-place
invariant-loop-place l = ArePlaces (take l.place l.classes) l.places
