use Rattle.td_forest.proofs.OneStep.{step_below, without_below, below_back, below_once}
use Rattle.td_forest.proofs.laws.one_node_more.Goals as goal

pub returns : goal.returns
returns c = record { forth = step_below; back = λ m G g. (without_below m G g, below_back m G g); once = below_once }
