use Rattle.sm_match.proofs.LawLemmas.{one_answer}
use Rattle.sm_match.proofs.laws.one_answer.Goals as goal

pub returns : goal.returns
returns c = one_answer
