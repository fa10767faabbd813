use Rattle.std.proofs.Common.{arith}
use Rattle.lx_anchor.proofs.RowLemmas.{done-all}
use Rattle.lx_anchor.proofs.anchoring.anchor_all.Goals as goal

pub returns-clause-trees : goal.returns-clause-trees
returns-clause-trees c = done-all c.args.grammar.now c.args.lexicon.now c.entries.number c.entries.trees (omega arith) c.entries.invariant.1
