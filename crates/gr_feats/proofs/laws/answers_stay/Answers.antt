use Rattle.gr_feats.proofs.StayLemmas.{bag_reading_stays, literals_reading_stays}
use Rattle.gr_feats.proofs.laws.answers_stay.Goals as goal

pub returns : goal.returns
returns c = record {
  bag = λ texts later grows bytes tokens at before after x h. bag_reading_stays texts later grows bytes tokens at before after x h;
  literals = λ texts later grows bytes tokens at before after x h. literals_reading_stays texts later grows bytes tokens at before after x h;
}
