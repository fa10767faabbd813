use Rattle.gr_base.specs.Forests.{empty}
use Rattle.td_forest.specs.Steps.{forest_of, after_step}
use Rattle.td_forest.proofs.Places.{steps_is, grown_push}
use Rattle.td_forest.proofs.Forming.{is_forest, forest_is}
use Rattle.td_forest.proofs.OneStep.{step_is, step_nodes}
use Rattle.td_forest.proofs.laws.steps_make_forests.Goals as goal

pub returns : goal.returns
returns c = record {
  all = λ made h. is_forest (forest_of made) (steps_is made h);
  push = λ made m. grown_push made m empty;
  step = λ F x s f new step. is_forest (after_step x s F) (step_is F x s (forest_is F f) new step);
  nodes = λ F x s y f step. step_nodes F x s y (forest_is F f) step;
}
