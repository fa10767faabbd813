use Rattle.mg_facts.proofs.LedgerLemmas.{entries_left, accepts}
use Rattle.mg_facts.proofs.ledger.assert_all.Goals as goal

pub assert_in-requires-clause-entries : goal.assert_in-requires-clause-entries
assert_in-requires-clause-entries c =
    let few = entries_left c.args.list.now c.loop-assertion.assertion-index _ c.loop-assertion-test.true c.args.store.now.spare.entries c.requires.entries in
    rw c.loop-assertion.invariant few

pub loop-assertion-preserved : goal.loop-assertion-preserved
loop-assertion-preserved c =
    accepts c.args.store.now c.loop-assertion.store c.assert_in.new.store c.args.list.now c.loop-assertion.assertion-index _ c.assert_in.result
    c.loop-assertion-test.true c.loop-assertion.invariant c.requires.agrees c.assert_in.ensures.agrees c.assert_in.ensures.accepted
