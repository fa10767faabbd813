use Rattle.gr_base.specs.Lists.{Each}
use Rattle.tg_model.specs.LexicalTrees.{IsLexical}
use Rattle.sm_match.proofs.tests.lexical_trees.Given as goal

abbrev pub invariant-loop-text : goal.invariant-loop-text
invariant-loop-text l = Each IsLexical l.trees
