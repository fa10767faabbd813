use Rattle.gr_feats.proofs.MadeLemmas.{bag_made, literals_made}
use Rattle.gr_feats.proofs.laws.variables_were_given.Goals as goal

pub returns : goal.returns
returns c = record {
  bag = λ texts before ws g after is h. bag_made texts before ws g after is h;
  literals = λ texts before ws xs after is h. literals_made texts before ws xs after is h;
}
