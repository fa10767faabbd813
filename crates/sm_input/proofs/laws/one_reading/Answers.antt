use Rattle.sm_input.proofs.LawLemmas.{one_reading, reading_of}
use Rattle.sm_input.proofs.laws.one_reading.Goals as goal

pub returns : goal.returns
returns c = record {
  one = λ bytes texts once x y m n h k. one_reading bytes texts once x y m n h k;
  behind = λ bytes old new x h. reading_of bytes old new x h;
}
