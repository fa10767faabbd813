use Rattle.gr_reader.proofs.Fronts.{front_run, no_front_run}
use Rattle.gr_reader.proofs.laws.fronts_are_runs.Goals as goal

pub returns : goal.returns
returns g c = record {
  taken = λ set S K h clear value ts a n f. front_run S K h clear value set ts a n f;
  stopped = λ S K h clear ts n f. no_front_run S K h clear ts n f;
}
