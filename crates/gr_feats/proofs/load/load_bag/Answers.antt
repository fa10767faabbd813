use Rattle.std.proofs.Common.{refl}
use Rattle.std.proofs.lemmas.Bool.{false≢true}
use Rattle.gr_feats.proofs.LoadLemmas.{IsLoaded-more, entries_within}
use Rattle.gr_feats.proofs.load.load_bag.Goals as goal

pub returns-then-not-put-clause-agrees : goal.returns-then-not-put-clause-agrees
returns-then-not-put-clause-agrees c =
    let refused = rw c.counted_from_first-value.ensures at c.if-not-put.ensures.agrees in
    (λ no. absurd (false≢true no), λ all. refused.1 (entries_within _ _ _ _ _ _ _ c.at-pair.ensures.pair c.pairs.invariant.is all))

pub pairs-preserved : goal.pairs-preserved
pairs-preserved c =
    let agrees = rw c.counted_from_first-value.ensures at c.if-not-put.ensures.agrees in
    let accepted = rw c.counted_from_first-value.ensures at c.if-not-put.ensures.accepted in
    IsLoaded-more _ _ _ _ _ _ _ _ c.at-pair.ensures.pair c.pairs.invariant accepted c.if-not-put.ensures.grows (agrees.0 refl)
