use Rattle.mg_scope.proofs.AnswerLaws.{one_fault, no_fault}
use Rattle.mg_scope.proofs.AnsweredLaws.{answered}
use Rattle.mg_scope.proofs.laws.one_answer.Goals as goal

pub returns : goal.returns
returns c = record { either = answered; one = one_fault; none = no_fault }
