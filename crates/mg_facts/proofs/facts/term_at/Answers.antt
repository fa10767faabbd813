use Rattle.std.proofs.Common.{[]}
use Rattle.mg_facts.proofs.NumberLemmas.{Keeps-refl}
use Rattle.mg_facts.proofs.FactsLemmas.{nothing_fresh}
use Rattle.mg_facts.proofs.facts.term_at.Goals as goal

pub returns-in-Name-clause-fresh : goal.returns-in-Name-clause-fresh
returns-in-Name-clause-fresh c = nothing_fresh c.args.stated.now []

pub returns-in-Name-clause-keeps : goal.returns-in-Name-clause-keeps
returns-in-Name-clause-keeps c = Keeps-refl c.args.stated.now
