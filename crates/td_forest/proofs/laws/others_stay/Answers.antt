use Rattle.td_forest.proofs.Forming.{forest_is}
use Rattle.td_forest.proofs.OneStep.{step_related, without_related}
use Rattle.td_forest.proofs.laws.others_stay.Goals as goal

pub returns : goal.returns
returns c = record {
  step = λ F x s y z how f. step_related F x s y z how (forest_is F f);
  less = λ x G y z how g. without_related x G y z how (forest_is G g);
}
