use Rattle.std.proofs.Common.{◌≡◌, ◌+◌, ◌-◌}
use Rattle.mg_facts.proofs.ledger.make_variables.Given as goal

abbrev pub invariant-loop : goal.invariant-loop
invariant-loop l = l.store ≡ record l.initial.store {
  vars = l.initial.store.vars + l.counter;
  spare = record l.initial.store.spare { vars = l.initial.store.spare.vars - l.counter };
}
