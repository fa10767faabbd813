use Rattle.std.proofs.Common.{◌≡◌, ◌+◌}
use Rattle.gr_store.specs.Contents.{Grows}
use Rattle.td_check.proofs.load.make_slots.Given as goal

abbrev pub invariant-loop-made : goal.invariant-loop-made
invariant-loop-made l = record {
  vars : l.store.vars ≡ l.fn.store.vars;
  slots : l.store.slots ≡ l.fn.store.slots + l._made;
  accepted : l.store.accepted ≡ l.fn.store.accepted;
  grows : Grows l.fn.store l.store;
}
