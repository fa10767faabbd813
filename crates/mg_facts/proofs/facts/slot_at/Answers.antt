use Rattle.std.proofs.Common.{[]}
use Rattle.mg_facts.proofs.NumberLemmas.{Keeps-refl}
use Rattle.mg_facts.proofs.FactsLemmas.{nothing_fresh}
use Rattle.mg_facts.proofs.facts.slot_at.Goals as goal

pub returns-in-Interface-clause-fresh : goal.returns-in-Interface-clause-fresh
returns-in-Interface-clause-fresh c = nothing_fresh c.args.stated.now []

pub returns-in-Interface-clause-keeps : goal.returns-in-Interface-clause-keeps
returns-in-Interface-clause-keeps c = Keeps-refl c.args.stated.now
