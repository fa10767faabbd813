use Rattle.std.proofs.Common.{take}
use Rattle.gr_terms.specs.Views.{network_of}
use Rattle.gr_feats.proofs.CanonicalLemmas.{IsCollected}
use Rattle.td_model.proofs.bags.bag_of.Given as goal

abbrev pub invariant-attributes : goal.invariant-attributes
invariant-attributes l = IsCollected (network_of l.store.accepted) l.slot.0 (take l.place l.attributes) l.bag
