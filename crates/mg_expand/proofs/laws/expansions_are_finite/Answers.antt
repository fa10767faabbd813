use Rattle.mg_expand.proofs.FiniteLemmas.{expansions_exist}
use Rattle.mg_expand.proofs.laws.expansions_are_finite.Goals as goal

pub returns : goal.returns
returns c = expansions_exist
