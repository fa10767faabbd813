use Rattle.td_model.proofs.ModelLemmas.{one_tree}
use Rattle.td_model.proofs.laws.one_canonical_tree.Goals as goal

pub returns : goal.returns
returns c = λ N u t other agrees. one_tree N agrees u t other
