use Rattle.gr_reader.proofs.Fronts.{only_front, none_begins}
use Rattle.gr_reader.proofs.laws.fronts_are_texts.Goals as goal

pub returns : goal.returns
returns g c = record {
  one = λ S K h clear ends ts r s m n. only_front S h K clear ends ts r s m n;
  none = λ S K h clear ends ts rest n f m. none_begins S h K clear ends ts rest n f m;
}
