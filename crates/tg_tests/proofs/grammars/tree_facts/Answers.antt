use Rattle.td_canon.specs.TreeSets.{trees_of}
use Rattle.tg_grammar.specs.Shapes.{IsWellFormedTree}
use Rattle.tg_grammar.proofs.GrammarLemmas.{Each-slice_get}
use Rattle.tg_tests.proofs.grammars.tree_facts.Goals as goal

pub anchor-requires : goal.anchor-requires
anchor-requires c = Each-slice_get IsWellFormedTree (trees_of c.in_ok-class.class.now.trees) 0 c.get-tree.result.now c.in_ok-class.ensures.well_formed c.get-tree.ensures.tree

pub foot-requires : goal.foot-requires
foot-requires c = Each-slice_get IsWellFormedTree (trees_of c.in_ok-class.class.now.trees) 0 c.get-tree.result.now c.in_ok-class.ensures.well_formed c.get-tree.ensures.tree

pub root_category-requires : goal.root_category-requires
root_category-requires c = Each-slice_get IsWellFormedTree (trees_of c.in_ok-class.class.now.trees) 0 c.get-tree.result.now c.in_ok-class.ensures.well_formed c.get-tree.ensures.tree
