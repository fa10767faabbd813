use Rattle.gr_terms.proofs.BagLemmas.{FitsAt-lacks, StandsAt-read}
use Rattle.gr_terms.proofs.bag.Bag.get.Goals as goal

pub returns-in-Ok-clause-value : goal.returns-in-Ok-clause-value
returns-in-Ok-clause-value c =
    let stands = rw c.deref.ensures at c.in-Ok.ensures in
    rw c.deref-in-Ok.ensures (rw (← c.self.view_is) (StandsAt-read _ _ _ _ stands))

pub returns-in-Err-clause-value : goal.returns-in-Err-clause-value
returns-in-Err-clause-value c =
    let fits = rw c.deref.ensures at c.in-Err.ensures in
    rw (← c.self.view_is) (FitsAt-lacks _ _ _ fits)
