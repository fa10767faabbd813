use Rattle.td_forest.proofs.Forming.{forest_is}
use Rattle.td_forest.proofs.OneStep.{step_taken_back}
use Rattle.td_forest.proofs.laws.step_taken_back.Goals as goal

pub returns : goal.returns
returns c F x s f new step = step_taken_back F x s (forest_is F f) new step
