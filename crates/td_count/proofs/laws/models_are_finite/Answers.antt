use Rattle.td_count.proofs.Counting.{models_listed, models_counted, minimal_listed}
use Rattle.td_count.proofs.laws.models_are_finite.Goals as goal

pub returns : goal.returns
returns g c = record {
  models = λ variables slots d m. models_listed variables slots d m;
  count = λ variables slots d m. models_counted variables slots d m;
  minimal = λ variables slots d. minimal_listed variables slots d;
}
