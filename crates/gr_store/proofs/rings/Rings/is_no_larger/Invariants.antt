use Rattle.gr_store.specs.Rings.{HasWalked}
use Rattle.gr_store.proofs.rings.Rings.is_no_larger.Given as goal

abbrev pub invariant-walk : goal.invariant-walk
invariant-walk l = record { first : HasWalked l.self l.one l.at l.counter; second : HasWalked l.self l.two l.beside l.counter }
