use Rattle.mg_expand.proofs.WalkLemmas.{one_list}
use Rattle.mg_expand.proofs.laws.expansions_are_one_list.Goals as goal

pub returns : goal.returns
returns c = one_list
