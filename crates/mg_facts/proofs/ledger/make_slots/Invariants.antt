use Rattle.std.proofs.Common.{◌≡◌, ◌+◌, ◌-◌}
use Rattle.mg_facts.proofs.ledger.make_slots.Given as goal

abbrev pub invariant-loop : goal.invariant-loop
invariant-loop l = l.store ≡ record l.initial.store {
  slots = l.initial.store.slots + l.counter;
  spare = record l.initial.store.spare { slots = l.initial.store.spare.slots - l.counter };
}
