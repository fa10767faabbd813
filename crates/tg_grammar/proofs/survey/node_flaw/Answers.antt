use Rattle.std.proofs.Common.{sym, subst}
use Rattle.tg_grammar.specs.Marks.{lists_at, IsMarkOf}
use Rattle.tg_grammar.specs.Surveys.{HasLowest, HasNodeFlaw, number_of}
use Rattle.tg_grammar.proofs.FlawLemmas.{bare_node}
use Rattle.tg_grammar.proofs.survey.node_flaw.Goals as goal

pub returns-in-None : goal.returns-in-None
returns-in-None c =
    subst (HasLowest (HasNodeFlaw (number_of c.args.root) (c.args.has_children, lists_at c.args.node.now))) (sym c.leaf_flaw-in-None.ensures)
    (bare_node (number_of c.args.root) c.args.has_children (lists_at c.args.node.now) (subst (IsMarkOf (lists_at c.args.node.now)) c.in-None.is c.requires.mark))
