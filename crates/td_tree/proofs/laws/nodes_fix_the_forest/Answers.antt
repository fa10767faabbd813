use Rattle.td_tree.proofs.PreorderLemmas.{preorder-unique}
use Rattle.td_tree.proofs.laws.nodes_fix_the_forest.Goals as goal

pub returns : goal.returns
returns c = preorder-unique
