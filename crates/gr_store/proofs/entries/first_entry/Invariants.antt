use Rattle.std.proofs.Common.{take}
use Rattle.gr_store.specs.Rings.{ring_of, HasWalked}
use Rattle.gr_store.specs.Index.{IsLeastNode}
use Rattle.gr_store.specs.State.{assertions_of}
use Rattle.gr_store.proofs.entries.first_entry.Given as goal

abbrev pub invariant-walk : goal.invariant-walk
invariant-walk l =
    record {
      walked : HasWalked l.nodes l.root l.at l.counter;
      least : IsLeastNode l.base (assertions_of l.kept) l.attr (take l.counter (ring_of l.nodes.1 l.root)) l.found;
    }
