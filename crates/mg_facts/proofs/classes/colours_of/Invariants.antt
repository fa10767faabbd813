use Rattle.std.proofs.Common.{take}
use Rattle.gr_base.specs.Lists.{gathered}
use Rattle.mg_facts.specs.Numbered.{colours_in}
use Rattle.mg_facts.specs.Classes.{AreColours}
use Rattle.mg_facts.proofs.classes.colours_of.Given as goal

abbrev pub invariant-loop-fact : goal.invariant-loop-fact
invariant-loop-fact l = AreColours l.roots (gathered colours_in (take l.fact-index l.facts)) l.table.items
