use Rattle.td_forest.proofs.Forming.{some_relation, relation_once}
use Rattle.td_forest.proofs.laws.one_relation.Goals as goal

pub returns : goal.returns
returns c = record { some = some_relation; one = relation_once }
