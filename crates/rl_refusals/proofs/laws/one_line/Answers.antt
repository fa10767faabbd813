use Rattle.rl_refusals.proofs.OneLine.{one_line}
use Rattle.rl_refusals.proofs.laws.one_line.Goals as goal

pub returns : goal.returns
returns c = one_line
