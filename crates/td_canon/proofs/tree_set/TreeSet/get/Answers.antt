use Rattle.td_canon.proofs.SetLemmas.{nodes_at, tree_at}
use Rattle.td_canon.proofs.tree_set.TreeSet.get.Goals as goal

pub returns-clause-nodes : goal.returns-clause-nodes
returns-clause-nodes c = nodes_at c.args.self.now c.args.at c.at.result.now.tree c.at.ensures.set (tree_at c.args.self.now c.args.at c.at.result.now c.at.ensures.held)
