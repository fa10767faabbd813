use Rattle.std.proofs.Common.{take, drop, sym}
use Rattle.std.proofs.lemmas.List.{take-append-drop}
use Rattle.gr_terms.proofs.BagLemmas.{FitsAt-lacks, IsListed-insert, StandsAt-has, on_err}
use Rattle.gr_terms.proofs.bag.Bag.add.Goals as goal

pub invariant_of-self-in-Err : goal.invariant_of-self-in-Err
invariant_of-self-in-Err c =
    let fits = rw c.deref.ensures at c.in-Err.ensures in
    rw c.in_ok-insert-in-Err.ensures.ok (IsListed-insert _ _ _ _ c.self.invariant fits)

pub returns-in-Ok-clause-there : goal.returns-in-Ok-clause-there
returns-in-Ok-clause-there c =
    let stands = rw c.deref.ensures at c.in-Ok.ensures in
    rw (← c.self.view_is) (StandsAt-has _ _ _ stands)

pub returns-in_err-insert-in-Err-clause-fresh : goal.returns-in_err-insert-in-Err-clause-fresh
returns-in_err-insert-in-Err-clause-fresh c =
    let fits = rw c.deref.ensures at c.in-Err.ensures in
    on_err c.from_residual.result _ (rw (← c.self.view_is) (FitsAt-lacks _ _ _ fits))

pub returns-in_ok-insert-in-Err-clause-absent : goal.returns-in_ok-insert-in-Err-clause-absent
returns-in_ok-insert-in-Err-clause-absent c =
    let fits = rw c.deref.ensures at c.in-Err.ensures in
    rw (← c.self.view_is) (FitsAt-lacks _ _ _ fits)

pub returns-in_ok-insert-in-Err-clause-added : goal.returns-in_ok-insert-in-Err-clause-added
returns-in_ok-insert-in-Err-clause-added c =
    let old = c.self.inside.pairs.items in
    rw (← c.self.view_is) (take c.in-Err.place old, drop c.in-Err.place old, sym (take-append-drop c.in-Err.place old), c.in_ok-insert-in-Err.ensures.ok)

pub returns-in_ok-insert-in-Err-clause-listed : goal.returns-in_ok-insert-in-Err-clause-listed
returns-in_ok-insert-in-Err-clause-listed c = invariant_of-self-in-Err c
