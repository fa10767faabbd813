use Rattle.td_check.proofs.Standing.{NoneAmid}
use Rattle.td_check.proofs.shape.none_between.Given as goal

abbrev pub invariant-loop-middle : goal.invariant-loop-middle
invariant-loop-middle l = NoneAmid l.nodes l.a l.b l.how l.middle
