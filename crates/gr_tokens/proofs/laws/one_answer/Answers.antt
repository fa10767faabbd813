use Rattle.gr_tokens.proofs.OneAnswer.{same_answer}
use Rattle.gr_tokens.proofs.laws.one_answer.Goals as goal

pub returns : goal.returns
returns c = same_answer
