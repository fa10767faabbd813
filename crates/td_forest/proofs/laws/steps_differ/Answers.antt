use Rattle.td_forest.proofs.Forming.{forest_is}
use Rattle.td_forest.proofs.OneStep.{steps_one}
use Rattle.td_forest.proofs.laws.steps_differ.Goals as goal

pub returns : goal.returns
returns c F x s t f = steps_one F x s t (forest_is F f)
