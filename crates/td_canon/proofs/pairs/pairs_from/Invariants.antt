use Rattle.td_canon.proofs.PairLemmas.{Collected}
use Rattle.td_canon.proofs.pairs.pairs_from.Given as goal

abbrev pub invariant-loop-place : goal.invariant-loop-place
invariant-loop-place l = Collected l.symbols l.bag l.from l.place l.pairs.items
