use Rattle.lx_anchor.proofs.CoanchorLemmas.{AreFirstLemmas}
use Rattle.lx_anchor.proofs.coanchors.leaf_lemmas.Given as goal

abbrev pub invariant-nodes : goal.invariant-nodes
invariant-nodes l = AreFirstLemmas l.tree l.entry l.number l.lemmas
