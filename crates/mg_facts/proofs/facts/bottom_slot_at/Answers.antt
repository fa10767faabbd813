use Rattle.mg_facts.proofs.FactsLemmas.{bottom_at, bottom_fresh}
use Rattle.mg_facts.proofs.facts.bottom_slot_at.Goals as goal

pub returns-clause-slot : goal.returns-clause-slot
returns-clause-slot c = bottom_at c.number.new.self.names c.bottom_slot.result.0 c.in_ok-number.number c.args.x c.bottom_slot.ensures c.in_ok-number.ensures.named

pub returns-clause-fresh : goal.returns-clause-fresh
returns-clause-fresh c = bottom_fresh c.args.stated.now c.number.new.self c.bottom_slot.result.0 c.in_ok-number.number c.bottom_slot.ensures c.in_ok-number.ensures.fresh
