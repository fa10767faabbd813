use Rattle.sm_input.proofs.Spelled.{none_own}
use Rattle.sm_input.proofs.laws.own_names_are_unspelled.Goals as goal

pub returns : goal.returns
returns c = λ bytes tokens are. none_own bytes tokens are
