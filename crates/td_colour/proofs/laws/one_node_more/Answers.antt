use Rattle.td_colour.proofs.Modelling.{model_back, model_once}
use Rattle.td_colour.proofs.laws.one_node_more.Goals as goal

pub returns : goal.returns
returns c = record {
  there = λ d m G first h. model_back d first m G h;
  before = λ d m G a b. (model_once d m G a b).0;
  step = λ d m G a b. (model_once d m G a b).1;
}
