use Rattle.gr_store.proofs.Values.{HasValue-first}
use Rattle.gr_feats.proofs.CanonicalLemmas.{least_stands}
use Rattle.gr_feats.proofs.canonical.missing.Goals as goal

pub returns-in-Some-entry : goal.returns-in-Some-entry
returns-in-Some-entry c = record {
  lacks = c.in-None.ensures.value;
  of = _;
  has = HasValue-first _ _ _ _ c.in-Some-entry.ensures;
  stands = least_stands _ _ _ c.least.ensures.is_linked c.least.ensures.least;
}

pub returns-in-None-entry : goal.returns-in-None-entry
returns-in-None-entry c = λ x h. absurd (c.in-None-entry.ensures x h)
