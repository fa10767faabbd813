use Rattle.std.proofs.Common.{◌≡◌, take}
use Rattle.td_canon.specs.Renaming.{rename_bag}
use Rattle.tg_model.specs.DenseTrees.{bag_terms}
use Rattle.lx_anchor.specs.Numberings.{IsNumbered}
use Rattle.lx_anchor.proofs.NumberingLemmas.{attributes}
use Rattle.lx_anchor.proofs.numbering.Numbering.bag.Given as goal

abbrev pub invariant-pairs : goal.invariant-pairs
invariant-pairs l = IsNumbered l.fn.self l.self (bag_terms (take l.place l.bag)) (λ f. rename_bag f (take l.place l.bag)) l.numbered × (attributes l.numbered ≡ attributes (take l.place l.bag))
