use Rattle.std.proofs.Common.{take}
use Rattle.gr_base.specs.Lists.{Each}
use Rattle.gr_store.specs.Contents.{IsMade}
use Rattle.gr_feats.specs.Loading.{counted_from}
use Rattle.gr_tests.proofs.feats.are_made.Given as goal

abbrev pub invariant-pairs : goal.invariant-pairs
invariant-pairs l = Each (λ p. IsMade l.vars (counted_from l.first p.1)) (take l.place l.bag)
