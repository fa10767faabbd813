use Rattle.std.proofs.Common.{take}
use Rattle.gr_base.specs.Lists.{gathered}
use Rattle.mg_facts.specs.Numbered.{values_in}
use Rattle.mg_facts.specs.Classes.{HasMarked}
use Rattle.mg_facts.proofs.classes.has_value_node.Given as goal

abbrev pub invariant-loop-fact : goal.invariant-loop-fact
invariant-loop-fact l = HasMarked l.roots l.stands (gathered values_in (take l.fact-index l.facts)) → ⊥
