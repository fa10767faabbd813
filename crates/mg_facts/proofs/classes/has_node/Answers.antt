use Rattle.std.proofs.Common.{refl, subst, sym}
use Rattle.gr_base.specs.Lists.{gathered}
use Rattle.mg_facts.specs.Numbered.{variable_in}
use Rattle.mg_facts.specs.Classes.{HasMarked}
use Rattle.mg_facts.proofs.LoopLemmas.{no_mark_more, mark_found, taken_all, false_is_no_true}
use Rattle.mg_facts.proofs.classes.has_node.Goals as goal

pub loop-term-preserved : goal.loop-term-preserved
loop-term-preserved c =
    no_mark_more c.args.roots.now variable_in c.args.stands.now c.args.terms.now c.loop-term.term-index _ c.loop-term-test.true c.loop-term.invariant
    (λ m. false_is_no_true (c.if-is_node.ensures.1 m))

pub returns-then-is_node : goal.returns-then-is_node
returns-then-is_node c = (
  (λ e. mark_found c.args.roots.now variable_in c.args.stands.now c.args.terms.now c.loop-term.term-index _ c.loop-term-test.true (c.if-is_node.ensures.0 refl)),
  (λ m. refl),
)

pub returns : goal.returns
returns c = (
  (λ e. false_is_no_true e),
  (λ m. absurd (c.loop-term.invariant (subst (λ z. HasMarked c.args.roots.now c.args.stands.now (gathered variable_in z)) (sym (taken_all c.args.terms.now c.loop-term.term-index c.loop-term-test.false)) m))),
)
