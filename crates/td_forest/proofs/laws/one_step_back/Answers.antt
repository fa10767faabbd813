use Rattle.td_forest.proofs.Forming.{forest_is}
use Rattle.td_forest.proofs.OneStep.{named_back}
use Rattle.td_forest.proofs.laws.one_step_back.Goals as goal

pub returns : goal.returns
returns c x G g i = named_back x G (forest_is G g) i
