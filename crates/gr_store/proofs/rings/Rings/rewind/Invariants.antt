use Rattle.std.proofs.Common.{◌≡◌, ◌≤◌, ◌-◌, length, take}
use Rattle.gr_store.proofs.rings.Rings.rewind.Given as goal

abbrev pub invariant-loop-self : goal.invariant-loop-self
invariant-loop-self l = record {
  size : l.self.0 ≡ l.initial.self.0;
  above : l.kept ≤ length l.self.1;
  same : take l.kept l.self.1 ≡ take l.kept l.initial.self.1;
}

abbrev pub decreases-loop-self : goal.decreases-loop-self
decreases-loop-self l = length l.self.1 - l.kept
