use Rattle.td_colour.specs.Models.{merged_network, model_tree}
use Rattle.td_model.proofs.TreeForms.{same_forms}
use Rattle.td_model.proofs.laws.forms_do_not_depend_on_the_network.Goals as goal

pub returns : goal.returns
returns c = record { trees = same_forms; models = λ d F t agrees is text c. same_forms (merged_network d F) (model_tree d F) t agrees is text c }
