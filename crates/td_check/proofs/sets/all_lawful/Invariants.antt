use Rattle.td_check.specs.Places.{nodes_of}
use Rattle.td_check.proofs.Lawfulness.{FirstLawful}
use Rattle.td_check.proofs.sets.all_lawful.Given as goal

abbrev pub invariant-loop-to : goal.invariant-loop-to
invariant-loop-to l = FirstLawful (nodes_of l.d.nodes) l.map l.to
