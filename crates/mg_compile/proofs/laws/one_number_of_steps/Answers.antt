use Rattle.mg_compile.proofs.Uniqueness.{same_steps}
use Rattle.mg_compile.proofs.laws.one_number_of_steps.Goals as goal

pub returns : goal.returns
returns c = same_steps c.one_description.ensures
