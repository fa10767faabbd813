use Rattle.gr_feats.proofs.LoadLemmas.{bag_counted}
use Rattle.gr_feats.proofs.laws.counted_variables_are_made.Goals as goal

pub returns : goal.returns
returns c = bag_counted
