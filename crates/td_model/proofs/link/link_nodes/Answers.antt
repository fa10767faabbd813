use Rattle.std.proofs.lemmas.Bool.{false≢true}
use Rattle.td_model.proofs.LoadSteps.{first_of_three, two_of_three}
use Rattle.td_model.proofs.link.link_nodes.Goals as goal

pub returns-then-not-own-clause-agrees : goal.returns-then-not-own-clause-agrees
returns-then-not-own-clause-agrees c =
    let refused = rw (c.counted_slot.ensures, c.counted_slot-2.ensures) at c.if-not-own.ensures.agrees in
    (λ no. absurd (false≢true no), λ all. refused.1 (first_of_three c.args.store.now.accepted _ _ _ all))

pub returns-then-not-top-clause-agrees : goal.returns-then-not-top-clause-agrees
returns-then-not-top-clause-agrees c =
    let one = rw (c.counted_slot.ensures, c.counted_slot-2.ensures) at c.if-not-own.ensures.accepted in
    let refused = rw (one, c.counted_slot-3.ensures, c.counted_slot-4.ensures) at c.if-not-top.ensures.agrees in
    (λ no. absurd (false≢true no), λ all. refused.1 (two_of_three c.args.store.now.accepted _ _ _ all))
