use Rattle.std.proofs.Common.{◌≡◌, take, map}
use Rattle.mg_facts.specs.Classes.{node_at}
use Rattle.mg_facts.proofs.describe.described.Given as goal

abbrev pub invariant-loop-x : goal.invariant-loop-x
invariant-loop-x l = l.list.items ≡ map (node_at l.roots l.colours) (take l.x-index l.nodes)
