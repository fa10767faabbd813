use Rattle.mg_reader.proofs.SomeAnswer.{answer_there}
use Rattle.mg_reader.proofs.laws.some_answer.Goals as goal

pub returns : goal.returns
returns c bytes old new h = answer_there bytes new old h
