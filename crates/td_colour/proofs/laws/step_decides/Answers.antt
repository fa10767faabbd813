use Rattle.td_colour.proofs.Modelling.{step_decides}
use Rattle.td_colour.proofs.laws.step_decides.Goals as goal

pub returns : goal.returns
returns c d m F s f step = step_decides d m F s f step
