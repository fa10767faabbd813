use Rattle.tg_grammar.proofs.SurveyLemmas.{lowest_seen}
use Rattle.tg_grammar.proofs.survey.Survey.first_flaw.Goals as goal

pub returns : goal.returns
returns c = λ seen h.
    lowest_seen seen c.args.self.now c.root_flaw.result c.count_flaw.result c.lower.result c.lower-2.result h c.root_flaw.ensures c.count_flaw.ensures c.lower.ensures c.lower-2.ensures
