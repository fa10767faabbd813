use Rattle.std.proofs.Common.{◌≡◌, ◌-◌, take}
use Rattle.gr_store.specs.Contents.{entry_count}
use Rattle.mg_facts.proofs.ledger.assert_all.Given as goal

abbrev pub invariant-loop-assertion : goal.invariant-loop-assertion
invariant-loop-assertion l = l.store ≡ record l.initial.store {
  accepted = take l.assertion-index l.list;
  spare = record l.initial.store.spare {
    entries = l.initial.store.spare.entries - entry_count (take l.assertion-index l.list);
    assertions = l.initial.store.spare.assertions - l.assertion-index;
  };
}
