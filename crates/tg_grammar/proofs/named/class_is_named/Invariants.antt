use Rattle.std.proofs.Common.{take}
use Rattle.gr_base.specs.Lists.{Each}
use Rattle.td_canon.specs.TreeSets.{trees_of}
use Rattle.tg_grammar.specs.NamedMarks.{HasNamedMarks}
use Rattle.tg_grammar.proofs.named.class_is_named.Given as goal

abbrev pub invariant-trees : goal.invariant-trees
invariant-trees l = Each HasNamedMarks (take l.at (trees_of l.class.trees))
