use Rattle.std.proofs.Common.{take}
use Rattle.gr_feats.proofs.LoadLemmas.{IsLoaded}
use Rattle.gr_feats.proofs.load.load_bag.Given as goal

abbrev pub invariant-pairs : goal.invariant-pairs
invariant-pairs l = IsLoaded l.fn.store l.slot l.first (take l.place l.bag) l.store
