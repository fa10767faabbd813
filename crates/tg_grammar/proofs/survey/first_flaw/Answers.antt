use Rattle.std.proofs.Common.{ap, ◌∙◌, subst}
use Rattle.tg_grammar.specs.Marks.{first_name}
use Rattle.tg_grammar.specs.Surveys.{IsSurvey, sights}
use Rattle.tg_grammar.proofs.SurveyLemmas.{first_flaw_seen}
use Rattle.tg_grammar.proofs.survey.first_flaw.Goals as goal

pub returns : goal.returns
returns c =
    first_flaw_seen c.args.tree.now c.requires _ c.first_flaw.result (c.survey_of.ensures.root ∙ ap first_name c.as_slice.ensures)
    (c.first_flaw.ensures (sights 0 c.args.tree.now.nodes) (subst (λ xs. IsSurvey (sights 0 xs) c.survey_of.result) c.as_slice.ensures c.survey_of.ensures.seen))
