use Rattle.std.proofs.Common.{◌≡◌, take, map}
use Rattle.gr_base.specs.Lists.{gathered}
use Rattle.mg_facts.specs.Numbered.{relations_in}
use Rattle.mg_facts.specs.Classes.{relation_at}
use Rattle.mg_facts.proofs.describe.relations.Given as goal

abbrev pub invariant-loop-fact : goal.invariant-loop-fact
invariant-loop-fact l = l.list ≡ map (relation_at l.roots l.places) (gathered relations_in (take l.fact-index l.facts))
