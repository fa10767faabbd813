use Rattle.std.proofs.Common.{sym, ◌∙◌, ap}
use Rattle.mg_facts.specs.Ledgers.{Kept}
use Rattle.mg_facts.proofs.LedgerLemmas.{accepted_in, tells_of}
use Rattle.mg_facts.proofs.ledger.Ledger.accept.Goals as goal

pub invariant_of-self-else-not-agrees : goal.invariant_of-self-else-not-agrees
invariant_of-self-else-not-agrees c =
    accepted_in c.self.inside.list.items c.make_room.new.store c.args.assertion c.assert_in-agrees.new.store c.push.new.self.items
    (c.self.invariant.0 ∙ sym (ap (λ (k : Kept). k.accepted) c.in_ok-make_room.ensures.kept))
    c.in_ok-make_room.ensures.spare c.in_ok-push.ensures.items c.if-not-agrees.ensures.accepted

pub returns-then-not-agrees-clause-agrees : goal.returns-then-not-agrees-clause-agrees
returns-then-not-agrees-clause-agrees c =
    tells_of c.args.self.now c.make_room.new.store c.args.assertion c.assert_in-agrees.result (c.in_ok-make_room.ensures.kept ∙ c.self.view_is) c.assert_in-agrees.ensures.agrees
