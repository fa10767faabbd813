use Rattle.std.proofs.Common.{refl, arith}
use Rattle.std.proofs.lemmas.Bool.{false≢true}
use Rattle.lx_anchor.proofs.CoanchorLemmas.{leaf-absent, leaf-there, no-leaf-more}
use Rattle.lx_anchor.proofs.coanchors.has_leaf.Goals as goal

pub returns-then-is_leaf : goal.returns-then-is_leaf
returns-then-is_leaf c = (λ h. leaf-there c.args.tree.now c.args.name.0 c.nodes.number c.get.result.now c.get.ensures (c.if-is_leaf.ensures.0 refl), λ h. refl)

pub nodes-preserved : goal.nodes-preserved
nodes-preserved c = no-leaf-more c.args.tree.now c.args.name.0 c.nodes.number c.get.result.now c.get.ensures c.nodes.invariant (λ leaf. false≢true (c.if-is_leaf.ensures.1 leaf))

pub returns : goal.returns
returns c = (λ h. absurd (false≢true h), λ h. absurd (leaf-absent c.args.tree.now c.args.name.0 c.nodes.number (omega arith) c.nodes.invariant h))
