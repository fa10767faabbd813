use Rattle.gr_feats.proofs.StayLemmas.{again_inside}
use Rattle.gr_feats.proofs.laws.second_place_is_inside.Goals as goal

pub returns : goal.returns
returns c = again_inside
