use Rattle.std.proofs.Common.{◌++◌, IfOk, IsTrue, ◌↔◌, subst}
use Rattle.gr_terms.specs.Networks.{Agrees}
use Rattle.gr_terms.specs.Views.{network_of}
use Rattle.mg_facts.proofs.StatedLemmas.{one_of-made}
use Rattle.mg_facts.proofs.stated.make_one.Goals as goal

pub returns-clause-agrees : goal.returns-clause-agrees
returns-clause-agrees c =
    subst (λ z. IfOk c.accept_all.result (λ b. IsTrue b ↔ Agrees (network_of (c.args.network.now.accepted ++ z))))
    (one_of-made c.args.x c.args.y c.own_slot.result c.own_slot-2.result c.top_slot.result c.top_slot-2.result c.bottom_slot.result c.bottom_slot-2.result
    c.own_slot.ensures c.own_slot-2.ensures c.top_slot.ensures c.top_slot-2.ensures c.bottom_slot.ensures c.bottom_slot-2.ensures)
    c.accept_all.ensures.agrees
