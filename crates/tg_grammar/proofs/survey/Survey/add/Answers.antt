use Rattle.std.proofs.Common.{refl, ap, ◌+◌}
use Rattle.tg_grammar.specs.Marks.{lists_at}
use Rattle.tg_grammar.proofs.SurveyLemmas.{IsSurvey-push}
use Rattle.tg_grammar.proofs.survey.Survey.add.Goals as goal

pub returns-clause-seen : goal.returns-clause-seen
returns-clause-seen c = λ seen s.
    IsSurvey-push seen (c.args.has_children, lists_at c.args.node.now) c.args.self.now _ c.node_flaw.result s refl c.lower.ensures c.node_flaw.ensures
    (ap (λ n. c.args.self.now.anchors + n) (c.tally-anchors.ensures.anchors (lists_at c.args.node.now) c.mark_of-mark.ensures))
    (ap (λ n. c.args.self.now.feet + n) (c.tally-anchors.ensures.feet (lists_at c.args.node.now) c.mark_of-mark.ensures))
