use Rattle.td_count.proofs.Counting.{forests_listed}
use Rattle.td_count.proofs.laws.forests_are_finite.Goals as goal

pub returns : goal.returns
returns c m = forests_listed m
