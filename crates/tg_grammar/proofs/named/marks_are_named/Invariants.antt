use Rattle.std.proofs.Common.{take}
use Rattle.gr_base.specs.Lists.{Each}
use Rattle.tg_grammar.specs.Marks.{node_lists}
use Rattle.tg_grammar.specs.NamedMarks.{IsNamedMark}
use Rattle.tg_grammar.proofs.named.marks_are_named.Given as goal

abbrev pub invariant-nodes : goal.invariant-nodes
invariant-nodes l = Each IsNamedMark (take l.number (node_lists l.tree.nodes))
