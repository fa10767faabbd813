use Rattle.gr_feats.proofs.OneTable.{one_bag_answer, one_bag_behind, one_bag_table}
use Rattle.gr_feats.proofs.laws.one_bag_answer.Goals as goal

pub returns : goal.returns
returns c = record {
  answer = λ bytes tokens at old once before is new later m n x y p q h k. one_bag_answer bytes tokens at old once before is new later m n x y p q h k;
  numbering = λ bytes tokens at old once before is new later m n x y h k. (one_bag_behind bytes tokens at old once before is new later m n x y h k).1;
  table = λ bytes tokens at old new later before m n x y h k. one_bag_table bytes tokens at old new later h.1 k.1;
}
