use Rattle.td_check.specs.Places.{nodes_of}
use Rattle.td_check.proofs.Gaining.{HasGained}
use Rattle.td_check.proofs.Sharing.{sets_moved}
use Rattle.td_check.proofs.load.link_sets.Given as goal

abbrev pub invariant-loop-to : goal.invariant-loop-to
invariant-loop-to l = HasGained l.fn.store l.store (sets_moved l.slots (nodes_of l.nodes) l.map l.to)
