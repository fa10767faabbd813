use Rattle.std.proofs.Common.{◌≡◌, take, length}
use Rattle.mg_facts.proofs.LoopLemmas.{AreStanding}
use Rattle.mg_facts.proofs.classes.places.Given as goal

abbrev pub invariant-loop-x : goal.invariant-loop-x
invariant-loop-x l = record {
  place : l.place ≡ l.x-index;
  size : length l.places.items ≡ length l.roots;
  stand : AreStanding l.roots l.nodes l.places.items (take l.x-index l.nodes);
}
