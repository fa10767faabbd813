use Rattle.std.proofs.Common.{[], take}
use Rattle.mg_facts.specs.Classes.{AreFirstOnes, AreMarked}
use Rattle.mg_facts.proofs.classes.firsts.Given as goal

abbrev pub invariant-loop-x : goal.invariant-loop-x
invariant-loop-x l = record {
  firsts : AreFirstOnes l.roots [] (take l.x-index l.standing) l.found.nodes.items;
  marks : AreMarked l.roots (take l.x-index l.standing) l.found.stands.items;
}
