use Rattle.td_canon.specs.TreeSets.{trees_of}
use Rattle.lx_anchor.specs.Counts.{IsTreeBelow}
use Rattle.lx_anchor.proofs.CountLemmas.{tree-grows, one-more}
use Rattle.lx_anchor.proofs.counts.count_class.Goals as goal

pub trees-preserved : goal.trees-preserved
trees-preserved c = one-more IsTreeBelow tree-grows c.args.count c.trees.more c.in_ok-more.more (trees_of c.args.class.now.trees) c.trees.place c.get.result.now c.get.ensures.tree c.trees.invariant c.in_ok-more.ensures
