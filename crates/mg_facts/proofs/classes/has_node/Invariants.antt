use Rattle.std.proofs.Common.{take}
use Rattle.gr_base.specs.Lists.{gathered}
use Rattle.mg_facts.specs.Numbered.{variable_in}
use Rattle.mg_facts.specs.Classes.{HasMarked}
use Rattle.mg_facts.proofs.classes.has_node.Given as goal

abbrev pub invariant-loop-term : goal.invariant-loop-term
invariant-loop-term l = HasMarked l.roots l.stands (gathered variable_in (take l.term-index l.terms)) → ⊥
