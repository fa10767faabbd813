use Rattle.std.proofs.Common.{map, drop}
use Rattle.mg_deeds.specs.Fronts.{HasLeft}
use Rattle.mg_deeds.specs.Sayings.{dot_said}
use Rattle.mg_deeds.proofs.calls.say_dots.Given as goal

abbrev pub invariant-loop-name : goal.invariant-loop-name
invariant-loop-name l = HasLeft l.initial.facts l.facts (map (dot_said l.bound l.here l.there) l.names) (map (dot_said l.bound l.here l.there) (drop l.name-index l.names))
