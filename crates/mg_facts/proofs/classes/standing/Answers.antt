use Rattle.std.proofs.Common.{◌++◌, ap, ◌∙◌}
use Rattle.gr_base.specs.Lists.{gathered}
use Rattle.mg_facts.specs.Numbered.{stand_in}
use Rattle.mg_facts.proofs.LoopLemmas.{gathered-step, taken_all}
use Rattle.mg_facts.proofs.classes.standing.Goals as goal

pub loop-fact-preserved : goal.loop-fact-preserved
loop-fact-preserved c =
    gathered-step stand_in c.args.facts.now c.loop-fact.fact-index c.fact-item.result c.loop-fact.standing.items c.add_standing.new.standing.items c.loop-fact-test.true c.loop-fact.invariant
    (c.in_ok-add_standing.ensures ∙ ap (λ f. c.loop-fact.standing.items ++ stand_in f) c.fact-item.is)

pub returns : goal.returns
returns c = c.loop-fact.invariant ∙ ap (gathered stand_in) (taken_all c.args.facts.now c.loop-fact.fact-index c.loop-fact-test.false)
