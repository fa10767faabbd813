use Rattle.std.proofs.Common.{take}
use Rattle.gr_terms.specs.Views.{network_of}
use Rattle.gr_store.specs.Contents.{entry_attributes}
use Rattle.gr_feats.proofs.CanonicalLemmas.{IsCollected}
use Rattle.gr_feats.proofs.canonical.canonical_bag.Given as goal

abbrev pub invariant-entries : goal.invariant-entries
invariant-entries l = IsCollected (network_of l.store.accepted) l.slot.0 (take l.at (entry_attributes l.store.accepted)) l.bag
