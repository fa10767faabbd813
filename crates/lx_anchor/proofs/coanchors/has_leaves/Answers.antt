use Rattle.std.proofs.Common.{refl}
use Rattle.lx_anchor.specs.Anchoring.{HasLeaf}
use Rattle.tg_grammar.proofs.GrammarLemmas.{Each-take_more}
use Rattle.lx_anchor.proofs.coanchors.has_leaves.Goals as goal

pub names-preserved : goal.names-preserved
names-preserved c =
    Each-take_more (λ d. HasLeaf c.args.tree.now d.0.0) c.args.coanchors.now c.names.place c.get.result.now c.get.ensures c.names.invariant (c.if-not-has_leaf.ensures.0 refl)
