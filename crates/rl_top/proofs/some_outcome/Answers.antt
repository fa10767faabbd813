use Rattle.rl_top.proofs.SomeOutcome.{some_outcome}
use Rattle.rl_top.proofs.some_outcome.Goals as goal

pub returns : goal.returns
returns c bytes models = some_outcome c.one_table.ensures.apart c.some_answer.ensures c.one_table.ensures.some c.one_answer.ensures.either c.each_class_has_an_answer.ensures bytes models
