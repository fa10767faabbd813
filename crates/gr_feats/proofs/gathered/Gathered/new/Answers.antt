use Rattle.gr_feats.proofs.GatherLemmas.{Gathers-none}
use Rattle.gr_feats.proofs.gathered.Gathered.new.Goals as goal

pub returns : goal.returns
returns c = rw c.new.ensures Gathers-none
