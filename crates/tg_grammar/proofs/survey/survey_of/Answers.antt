use Rattle.std.proofs.Common.{◌≤◌, ◌+◌, length, refl, ap, ◌∙◌, subst, arith}
use Rattle.std.proofs.lemmas.List.{take_all}
use Rattle.std.proofs.lemmas.Option.{slice_get_read}
use Rattle.tg_grammar.specs.Surveys.{IsSurvey, number_of, sights}
use Rattle.tg_grammar.proofs.SightLemmas.{length-sights, sights-one_more}
use Rattle.tg_grammar.proofs.SurveyLemmas.{counts_≤}
use Rattle.tg_grammar.proofs.survey.survey_of.Goals as goal

pub add-requires : goal.add-requires
add-requires c =
    let few : c.loop-number.survey.anchors + c.loop-number.survey.feet ≤ c.loop-number.number + c.loop-number.number =
    counts_≤ c.loop-number.number (sights 0 c.args.nodes.now) c.loop-number.survey c.loop-number.invariant.seen in
    record { few = omega (arith, c.requires) }

pub loop-number-preserved : goal.loop-number-preserved
loop-number-preserved c =
    let at =
    slice_get_read c.args.nodes.now (length c.args.nodes.now) c.loop-number.number c.index-nodes-number.result refl c.loop-number-test.true c.index-nodes-number.is in
    record {
      root = ap number_of c.add.ensures.root ∙ c.loop-number.invariant.root;
      seen = subst (λ xs. IsSurvey xs c.add.new.self) (sights-one_more c.args.nodes.now c.loop-number.number c.index-nodes-number.result c.has_children.result at c.has_children.ensures) (c.add.ensures.seen _ c.loop-number.invariant.seen);
    }

pub returns-clause-seen : goal.returns-clause-seen
returns-clause-seen c =
    let done : length (sights 0 c.args.nodes.now) ≤ c.loop-number.number = omega (arith, length-sights 0 c.args.nodes.now, c.loop-number-test.false) in
    subst (λ xs. IsSurvey xs c.loop-number.survey) (take_all c.loop-number.number (sights 0 c.args.nodes.now) done) c.loop-number.invariant.seen
