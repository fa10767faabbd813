use Rattle.std.proofs.Common.{◌++◌, refl, subst, sym, ap, ◌∙◌}
use Rattle.gr_terms.specs.Networks.{Agrees}
use Rattle.gr_terms.specs.Views.{network_of}
use Rattle.mg_facts.specs.Ledgers.{Kept}
use Rattle.mg_facts.proofs.LoopLemmas.{taken_all, false_is_no_true}
use Rattle.mg_facts.proofs.StatedLemmas.{first_agrees}
use Rattle.mg_facts.proofs.ledger.Ledger.accept_all.Goals as goal

pub returns-in-Ok-false-clause-agrees : goal.returns-in-Ok-false-clause-agrees
returns-in-Ok-false-clause-agrees c = (
  (λ e. false_is_no_true e),
  (λ agrees. sym c.in-Ok-false.field-0-test ∙ c.in-Ok-false.ensures.agrees.1
      (first_agrees c.args.self.now.accepted c.loop-assertion.self.accepted c.args.assertions.now c.loop-assertion.assertion-index _ c.loop-assertion-test.true
      (ap (λ (k : Kept). k.accepted) c.loop-assertion.invariant.so_far) agrees)),
)

pub returns-clause-agrees : goal.returns-clause-agrees
returns-clause-agrees c = (
  (λ e. subst (λ z. Agrees (network_of z))
      (ap (λ (k : Kept). k.accepted) c.loop-assertion.invariant.so_far ∙ ap (λ z. c.args.self.now.accepted ++ z) (taken_all c.args.assertions.now c.loop-assertion.assertion-index c.loop-assertion-test.false))
      c.loop-assertion.invariant.agrees),
  (λ a. refl),
)
