use Rattle.td_tree.proofs.SameForms.{carried_form}
use Rattle.td_tree.proofs.laws.forms_are_carried.Goals as goal

pub returns : goal.returns
returns c = carried_form
