use Rattle.mg_count.proofs.Describing.{described}
use Rattle.mg_count.proofs.laws.facts_are_described.Goals as goal

pub returns : goal.returns
returns c all = described all
