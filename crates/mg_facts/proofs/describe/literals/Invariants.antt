use Rattle.std.proofs.Common.{◌≡◌, take}
use Rattle.gr_base.specs.Lists.{gathered}
use Rattle.mg_facts.specs.Numbered.{literals_in}
use Rattle.mg_facts.proofs.describe.literals.Given as goal

abbrev pub invariant-loop-fact : goal.invariant-loop-fact
invariant-loop-fact l = l.list ≡ gathered literals_in (take l.fact-index l.facts)
