use Rattle.mg_facts.proofs.FactsLemmas.{own_at, own_fresh}
use Rattle.mg_facts.proofs.facts.own_slot_at.Goals as goal

pub returns-clause-slot : goal.returns-clause-slot
returns-clause-slot c = own_at c.number.new.self.names c.own_slot.result.0 c.in_ok-number.number c.args.x c.own_slot.ensures c.in_ok-number.ensures.named

pub returns-clause-fresh : goal.returns-clause-fresh
returns-clause-fresh c = own_fresh c.args.stated.now c.number.new.self c.own_slot.result.0 c.in_ok-number.number c.own_slot.ensures c.in_ok-number.ensures.fresh
