use Rattle.std.proofs.Common.{◌≡◌, ℕ, take}
use Rattle.gr_base.specs.Lists.{IsAmong}
use Rattle.gr_store.specs.Roots.{root_by, slot_root, Extends}
use Rattle.gr_store.specs.Rings.{ring_of, HasWalked}
use Rattle.gr_store.specs.Solution.{ArePooled}
use Rattle.gr_store.specs.Index.{InClass, JoinsLinked, SharesNode}
use Rattle.gr_store.specs.State.{assertions_of}
use Rattle.gr_store.proofs.pool.pool.Given as goal

abbrev pub invariant-walk : goal.invariant-walk
invariant-walk l =
    record {
      walked : HasWalked l.nodes l.from l.at l.counter;
      size : l.terms.0 ≡ l.fn.terms.0;
      extends : Extends l.fn.terms.1 l.terms.1;
      is_linked : JoinsLinked l.base (assertions_of l.kept) l.nodes.1 l.fn.terms.1 l.terms.1 l.from l.into;
      shares : ArePooled (assertions_of l.kept) (root_by l.fn.terms.1) (slot_root l.nodes.1)
          → (x : ℕ) → IsAmong (take l.counter (ring_of l.nodes.1 l.from)) x → SharesNode l.base (assertions_of l.kept) (root_by l.terms.1) (InClass l.nodes.1 l.into) x;
    }
