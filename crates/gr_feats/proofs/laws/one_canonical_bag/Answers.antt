use Rattle.gr_feats.proofs.CanonicalLemmas.{one_canonical_bag}
use Rattle.gr_feats.proofs.laws.one_canonical_bag.Goals as goal

pub returns : goal.returns
returns c = one_canonical_bag
