use Rattle.td_colour.proofs.Modelling.{model_none}
use Rattle.td_colour.proofs.laws.no_nodes.Goals as goal

pub returns : goal.returns
returns c d F = model_none d F
