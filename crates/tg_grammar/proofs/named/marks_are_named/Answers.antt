use Rattle.std.proofs.Common.{refl}
use Rattle.tg_grammar.specs.Marks.{lists_at, node_lists}
use Rattle.tg_grammar.proofs.GrammarLemmas.{Each-take_more}
use Rattle.tg_grammar.specs.NamedMarks.{IsNamedMark}
use Rattle.tg_grammar.proofs.NamedLemmas.{lists-there, not-each}
use Rattle.tg_grammar.proofs.named.marks_are_named.Goals as goal

pub returns-then-not-is_named : goal.returns-then-not-is_named
returns-then-not-is_named c =
    not-each IsNamedMark (node_lists c.args.tree.now.nodes) c.nodes.number (lists_at c.get.result.now) (lists-there c.args.tree.now.nodes c.nodes.number c.get.result.now c.get.ensures) c.if-not-is_named.ensures

pub nodes-preserved : goal.nodes-preserved
nodes-preserved c =
    Each-take_more IsNamedMark (node_lists c.args.tree.now.nodes) c.nodes.number (lists_at c.get.result.now) (lists-there c.args.tree.now.nodes c.nodes.number c.get.result.now c.get.ensures) c.nodes.invariant
    (c.if-not-is_named.ensures.0 refl)
