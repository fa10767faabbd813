use Rattle.sm_input.proofs.VariableLemmas.{two_is_variable}
use Rattle.sm_input.proofs.read.is_variable.Goals as goal

pub returns : goal.returns
returns c = λ bytes. two_is_variable bytes c.args.token.now c.number.result c.number.ensures
