use Rattle.std.specs.List.{AllZip}
use Rattle.std.proofs.Common.{map, take}
use Rattle.gr_terms.specs.Views.{network_of, term_of}
use Rattle.gr_feats.specs.CanonicalBags.{StandsFor}
use Rattle.gr_feats.specs.Loading.{counted_from}
use Rattle.lx_anchor.proofs.writing.written_terms.Given as goal

abbrev pub invariant-terms : goal.invariant-terms
invariant-terms l = AllZip (StandsFor (network_of l.store.accepted)) (map (λ x. term_of (counted_from l.first x)) (take l.place l.terms)) l.written.items
