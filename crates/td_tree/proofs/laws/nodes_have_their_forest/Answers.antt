use Rattle.td_tree.proofs.FlatTreeLemmas.{forest-of_nodes, forest-in_nodes}
use Rattle.td_tree.proofs.laws.nodes_have_their_forest.Goals as goal

pub returns : goal.returns
returns c = record { forest = forest-of_nodes; lists = forest-in_nodes }
