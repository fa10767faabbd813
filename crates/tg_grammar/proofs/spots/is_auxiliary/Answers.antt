use Rattle.std.proofs.Common.{sym, ◌∙◌}
use Rattle.tg_grammar.proofs.SpotLemmas.{foot_here, foot_later}
use Rattle.tg_grammar.proofs.spots.is_auxiliary.Goals as goal

pub returns-then-has_mark : goal.returns-then-has_mark
returns-then-has_mark c =
    sym (c.nodes.invariant ∙ foot_here c.args.tree.now.nodes c.nodes.number c.get.result.now c.get.ensures (sym c.has_mark.ensures ∙ c.if-has_mark.true))

pub nodes-preserved : goal.nodes-preserved
nodes-preserved c =
    c.nodes.invariant ∙ foot_later c.args.tree.now.nodes c.nodes.number c.get.result.now c.get.ensures (sym c.has_mark.ensures ∙ c.if-has_mark.false)
