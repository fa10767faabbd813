use Rattle.std.proofs.Common.{refl}
use Rattle.gr_reader.proofs.Fronts.{front_took, front_failed}
use Rattle.gr_reader.proofs.laws.run_reads_front.Goals as goal

pub returns : goal.returns
returns g c = record {
  taken = λ S K h clear value ts rest n l r. front_took S K h clear value n l r refl;
  stopped = λ S K h clear ts rest n l r. front_failed S K h clear n l r;
}
