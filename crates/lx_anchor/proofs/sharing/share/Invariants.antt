use Rattle.lx_anchor.proofs.SharingLemmas.{HasCome}
use Rattle.lx_anchor.proofs.sharing.share.Given as goal

abbrev pub invariant-pairs : goal.invariant-pairs
invariant-pairs l = HasCome l.bag l.added l.first l.fn.store l.place l.store
