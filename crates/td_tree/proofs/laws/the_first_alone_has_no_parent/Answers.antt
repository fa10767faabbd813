use Rattle.td_tree.proofs.PreorderLemmas.{some_node, no_parent_of_root, parent_before}
use Rattle.td_tree.proofs.laws.the_first_alone_has_no_parent.Goals as goal

pub returns : goal.returns
returns c = record { there = some_node; root = no_parent_of_root; parents = parent_before }
