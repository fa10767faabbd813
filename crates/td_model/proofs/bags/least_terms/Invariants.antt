use Rattle.std.specs.List.{AllZip}
use Rattle.std.proofs.Common.{map, take}
use Rattle.gr_terms.specs.Views.{network_of, term_of}
use Rattle.gr_feats.specs.CanonicalBags.{StandsFor}
use Rattle.td_model.proofs.bags.least_terms.Given as goal

abbrev pub invariant-terms : goal.invariant-terms
invariant-terms l = AllZip (StandsFor (network_of l.store.accepted)) (map term_of (take l.place l.terms)) l.least.items
