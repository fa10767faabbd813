use Rattle.gr_tokens.proofs.SomeAnswer.{some_answer}
use Rattle.gr_tokens.proofs.laws.some_answer.Goals as goal

pub returns : goal.returns
returns c = some_answer
