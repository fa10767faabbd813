use Rattle.std.proofs.Common.{drop}
use Rattle.mg_facts.specs.Said.{slot_of}
use Rattle.mg_deeds.specs.Fronts.{HasLeft}
use Rattle.mg_deeds.specs.Sayings.{bag_said}
use Rattle.mg_deeds.proofs.blocks.say_bag.Given as goal

abbrev pub invariant-loop-pair : goal.invariant-loop-pair
invariant-loop-pair l = HasLeft l.initial.facts l.facts (bag_said l.here (slot_of l.place) l.pair-items) (bag_said l.here (slot_of l.place) (drop l.pair-index l.pair-items))
