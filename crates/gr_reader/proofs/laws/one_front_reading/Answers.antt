use Rattle.gr_reader.proofs.Fronts.{one_front, some_front}
use Rattle.gr_reader.proofs.laws.one_front_reading.Goals as goal

pub returns : goal.returns
returns g c = record {
  one = λ set S K h clear value ts x y p q. one_front S h value K clear set ts x y p q;
  some = λ S K h clear value ts. some_front S h value K clear ts;
}
