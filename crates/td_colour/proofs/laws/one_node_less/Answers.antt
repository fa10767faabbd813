use Rattle.td_colour.proofs.Modelling.{model_without}
use Rattle.td_colour.proofs.laws.one_node_less.Goals as goal

pub returns : goal.returns
returns c d m G first h = model_without d first m G h
