use Rattle.gr_feats.proofs.OneAnswer.{one_bag_reading, one_bag_at}
use Rattle.gr_feats.proofs.OneTable.{bag_behind}
use Rattle.gr_feats.proofs.laws.one_bag_reading.Goals as goal

pub returns : goal.returns
returns c = record {
  answer = λ bytes tokens at texts once before is m n x y p q h k. one_bag_reading bytes tokens at texts once before is m n x y p q h k;
  numbering = λ bytes tokens at texts once before is m n x y h k. (one_bag_at bytes tokens at texts once before is m n x y h k).1;
  behind = λ bytes tokens at old new before after x h. bag_behind bytes tokens at old new before after x h;
}
