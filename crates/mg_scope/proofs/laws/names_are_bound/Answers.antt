use Rattle.mg_scope.proofs.AnswerLaws.{first_of_name, mentioned_there}
use Rattle.mg_scope.proofs.laws.names_are_bound.Goals as goal

pub returns : goal.returns
returns c = record { first = first_of_name; mentioned = mentioned_there }
