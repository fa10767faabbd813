use Rattle.gr_base.specs.Lists.{Each}
use Rattle.td_desc.specs.Conditions.{ArePlacesBelow}
use Rattle.td_tests.proofs.sketch.relations.Given as goal

abbrev pub invariant-loop-word : goal.invariant-loop-word
invariant-loop-word l = Each (ArePlacesBelow l.count) l.all
