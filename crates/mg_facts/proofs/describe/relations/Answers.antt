use Rattle.std.proofs.Common.{◌++◌, map, ap, ◌∙◌}
use Rattle.std.proofs.lemmas.List.{map-append}
use Rattle.gr_base.specs.Lists.{gathered}
use Rattle.mg_facts.specs.Numbered.{relations_in}
use Rattle.mg_facts.specs.Classes.{relation_at}
use Rattle.mg_facts.proofs.LoopLemmas.{gathered-mapped, taken_all}
use Rattle.mg_facts.proofs.describe.relations.Goals as goal

pub loop-fact-preserved : goal.loop-fact-preserved
loop-fact-preserved c =
    gathered-mapped relations_in (relation_at c.args.roots.now c.args.places.now) c.args.facts.now c.loop-fact.fact-index c.fact-item.result c.loop-fact.list c.add_relation.new.list c.loop-fact-test.true
    (map-append (relation_at c.args.roots.now c.args.places.now)) c.loop-fact.invariant
    (c.in_ok-add_relation.ensures ∙ ap (λ f. c.loop-fact.list ++ map (relation_at c.args.roots.now c.args.places.now) (relations_in f)) c.fact-item.is)

pub returns : goal.returns
returns c = c.loop-fact.invariant ∙ ap (λ z. map (relation_at c.args.roots.now c.args.places.now) (gathered relations_in z)) (taken_all c.args.facts.now c.loop-fact.fact-index c.loop-fact-test.false)
