use Rattle.mg_facts.specs.Classes.{AreRoots}
use Rattle.mg_facts.proofs.classes.roots_of.Given as goal

abbrev pub invariant-loop-x : goal.invariant-loop-x
invariant-loop-x l = AreRoots l.stated.facts l.x l.roots.items
