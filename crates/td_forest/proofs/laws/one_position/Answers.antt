use Rattle.td_forest.proofs.Forming.{in_stands, forest_is}
use Rattle.td_forest.proofs.Positions.{at_in, stands_once}
use Rattle.td_forest.proofs.laws.one_position.Goals as goal

pub returns : goal.returns
returns c = record { there = in_stands; only = at_in; one = λ F x p q f. stands_once F x p q (forest_is F f).once }
