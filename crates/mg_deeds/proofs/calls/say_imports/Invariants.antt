use Rattle.std.proofs.Common.{map, drop}
use Rattle.mg_deeds.specs.Fronts.{HasLeft}
use Rattle.mg_deeds.specs.Sayings.{import_said}
use Rattle.mg_deeds.proofs.calls.say_imports.Given as goal

abbrev pub invariant-loop-name : goal.invariant-loop-name
invariant-loop-name l = HasLeft l.initial.facts l.facts (map (import_said l.here l.there) l.names) (map (import_said l.here l.there) (drop l.name-index l.names))
