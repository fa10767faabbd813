use Rattle.mg_facts.proofs.FactsLemmas.{top_at, top_fresh}
use Rattle.mg_facts.proofs.facts.top_slot_at.Goals as goal

pub returns-clause-slot : goal.returns-clause-slot
returns-clause-slot c = top_at c.number.new.self.names c.top_slot.result.0 c.in_ok-number.number c.args.x c.top_slot.ensures c.in_ok-number.ensures.named

pub returns-clause-fresh : goal.returns-clause-fresh
returns-clause-fresh c = top_fresh c.args.stated.now c.number.new.self c.top_slot.result.0 c.in_ok-number.number c.top_slot.ensures c.in_ok-number.ensures.fresh
