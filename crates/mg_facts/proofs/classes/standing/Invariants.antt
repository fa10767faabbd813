use Rattle.std.proofs.Common.{◌≡◌, take}
use Rattle.gr_base.specs.Lists.{gathered}
use Rattle.mg_facts.specs.Numbered.{stand_in}
use Rattle.mg_facts.proofs.classes.standing.Given as goal

abbrev pub invariant-loop-fact : goal.invariant-loop-fact
invariant-loop-fact l = l.standing.items ≡ gathered stand_in (take l.fact-index l.facts)
