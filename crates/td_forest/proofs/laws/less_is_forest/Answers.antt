use Rattle.td_forest.specs.Without.{without}
use Rattle.td_forest.proofs.Forming.{is_forest, forest_is}
use Rattle.td_forest.proofs.OneStep.{take_out, without_nodes}
use Rattle.td_forest.proofs.laws.less_is_forest.Goals as goal

pub returns : goal.returns
returns c = record {
  forest = λ x G g i. is_forest (without x G) (take_out x G (forest_is G g) i).is;
  nodes = λ x G y g i. without_nodes x G y (forest_is G g) i;
}
