use Rattle.mg_facts.proofs.FactsLemmas as lemmas
use Rattle.mg_facts.proofs.facts.variable_at.Goals as goal

pub returns-clause-term : goal.returns-clause-term
returns-clause-term c = lemmas.variable_at c.number.new.self.names c.in_ok-number.number c.args.x c.in_ok-number.ensures.named
