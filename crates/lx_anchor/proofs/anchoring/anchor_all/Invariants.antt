use Rattle.lx_anchor.specs.Rows.{AreDone}
use Rattle.lx_anchor.specs.Sharing.{CanServeAll}
use Rattle.lx_anchor.proofs.anchoring.anchor_all.Given as goal

abbrev pub invariant-entries : goal.invariant-entries
invariant-entries l = CanServeAll l.lexicon l.first l.store × AreDone l.grammar l.lexicon l.number 0 l.trees
