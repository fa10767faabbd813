use Rattle.td_check.proofs.Gaining.{HasGained, first_moved}
use Rattle.td_check.proofs.load.load_network.Given as goal

abbrev pub invariant-loop-place : goal.invariant-loop-place
invariant-loop-place l = HasGained l.fn.store l.store (first_moved l.vars l.slots l.network l.place)
