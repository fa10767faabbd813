use Rattle.std.proofs.Common.{refl, subst, sym}
use Rattle.gr_base.specs.Lists.{gathered}
use Rattle.mg_facts.specs.Numbered.{values_in}
use Rattle.mg_facts.specs.Classes.{HasMarked}
use Rattle.mg_facts.proofs.LoopLemmas.{no_mark_more, mark_found, taken_all, false_is_no_true}
use Rattle.mg_facts.proofs.classes.has_value_node.Goals as goal

pub loop-fact-preserved : goal.loop-fact-preserved
loop-fact-preserved c =
    no_mark_more c.args.roots.now values_in c.args.stands.now c.args.facts.now c.loop-fact.fact-index c.fact-item.result c.loop-fact-test.true c.loop-fact.invariant
    (λ m. false_is_no_true (c.if-is_value_node.ensures.1 (subst (λ f. HasMarked c.args.roots.now c.args.stands.now (values_in f)) (sym c.fact-item.is) m)))

pub returns-then-is_value_node : goal.returns-then-is_value_node
returns-then-is_value_node c = (
  (λ e. mark_found c.args.roots.now values_in c.args.stands.now c.args.facts.now c.loop-fact.fact-index c.fact-item.result c.loop-fact-test.true
      (subst (λ f. HasMarked c.args.roots.now c.args.stands.now (values_in f)) c.fact-item.is (c.if-is_value_node.ensures.0 refl))),
  (λ m. refl),
)

pub returns : goal.returns
returns c = (
  (λ e. false_is_no_true e),
  (λ m. absurd (c.loop-fact.invariant (subst (λ z. HasMarked c.args.roots.now c.args.stands.now (gathered values_in z)) (sym (taken_all c.args.facts.now c.loop-fact.fact-index c.loop-fact-test.false)) m))),
)
