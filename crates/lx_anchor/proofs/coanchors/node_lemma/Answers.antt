use Rattle.lx_anchor.proofs.CoanchorLemmas.{node-lemma}
use Rattle.lx_anchor.proofs.coanchors.node_lemma.Goals as goal

pub returns-in-Some : goal.returns-in-Some
returns-in-Some c = node-lemma c.args.node.now c.args.coanchors.now c.in-Some.name c.lemma_of.result c.in-Some.ensures c.lemma_of.ensures
