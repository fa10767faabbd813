use Rattle.td_check.proofs.Standing.{FirstHold}
use Rattle.td_check.proofs.shape.all_hold.Given as goal

abbrev pub invariant-loop-place : goal.invariant-loop-place
invariant-loop-place l = FirstHold l.d l.nodes l.map l.place
