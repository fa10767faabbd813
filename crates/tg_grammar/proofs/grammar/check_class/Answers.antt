use Rattle.td_canon.specs.TreeSets.{trees_of}
use Rattle.tg_grammar.specs.Shapes.{IsWellFormedTree}
use Rattle.tg_grammar.proofs.GrammarLemmas.{Each-take_more}
use Rattle.tg_grammar.proofs.grammar.check_class.Goals as goal

pub loop-at-preserved : goal.loop-at-preserved
loop-at-preserved c = Each-take_more IsWellFormedTree (trees_of c.args.class.now.trees) c.loop-at.at c.get.result.now c.get.ensures.tree c.loop-at.invariant c.in_default.ensures
