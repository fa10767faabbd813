use Rattle.std.proofs.Common.{◌-◌}
use Rattle.td_canon.proofs.SetLemmas.{Narrows}
use Rattle.td_canon.proofs.tree_set.TreeSet.find.Given as goal

abbrev pub invariant-loop-low : goal.invariant-loop-low
invariant-loop-low l = Narrows l.self l.low l.high l.text

abbrev pub decreases-loop-low : goal.decreases-loop-low
decreases-loop-low l = l.high - l.low
