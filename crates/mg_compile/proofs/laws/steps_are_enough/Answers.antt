use Rattle.mg_compile.proofs.Uniqueness.{whole_list}
use Rattle.mg_compile.proofs.laws.steps_are_enough.Goals as goal

pub returns : goal.returns
returns c = whole_list
