use Rattle.td_forest.proofs.Forming.{forest_is}
use Rattle.td_forest.proofs.OneStep.{step_named, named_step}
use Rattle.td_forest.proofs.laws.named_steps.Goals as goal

pub returns : goal.returns
returns c = record { named = λ F s f. step_named F s (forest_is F f); steps = named_step }
