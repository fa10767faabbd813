use Rattle.lx_anchor.proofs.RowLemmas.{done-none}
use Rattle.lx_anchor.proofs.anchoring.anchor_entry.Goals as goal

pub returns-in-None-clause-ok : goal.returns-in-None-clause-ok
returns-in-None-clause-ok c = done-none c.args.grammar.now c.args.lexicon.now c.args.number c.get.result.now c.get.ensures c.args.trees.now c.in-None.ensures.class c.requires.done
