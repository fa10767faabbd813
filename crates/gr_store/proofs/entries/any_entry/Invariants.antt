use Rattle.std.proofs.Common.{take}
use Rattle.gr_store.specs.Rings.{ring_of, HasWalked}
use Rattle.gr_store.specs.Index.{HasNoEntryNode}
use Rattle.gr_store.specs.State.{assertions_of}
use Rattle.gr_store.proofs.entries.any_entry.Given as goal

abbrev pub invariant-walk : goal.invariant-walk
invariant-walk l =
    record {
      walked : HasWalked l.nodes l.root l.at l.counter;
      none : HasNoEntryNode l.base (assertions_of l.kept) l.attr (take l.counter (ring_of l.nodes.1 l.root));
    }
