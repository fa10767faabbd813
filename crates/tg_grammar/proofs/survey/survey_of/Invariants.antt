use Rattle.std.proofs.Common.{◌≡◌, take}
use Rattle.tg_grammar.specs.Marks.{first_name}
use Rattle.tg_grammar.specs.Surveys.{IsSurvey, number_of, sights}
use Rattle.tg_grammar.proofs.survey.survey_of.Given as goal

abbrev pub invariant-loop-number : goal.invariant-loop-number
invariant-loop-number l = record {
  root : number_of l.survey.root ≡ first_name l.nodes;
  seen : IsSurvey (take l.number (sights 0 l.nodes)) l.survey;
}
