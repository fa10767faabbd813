use Rattle.std.proofs.Common.{◌≤◌, take}
use Rattle.gr_base.specs.Lists.{Each}
use Rattle.gr_store.specs.Contents.{IsMade}
use Rattle.lx_anchor.proofs.counts.count_terms.Given as goal

abbrev pub invariant-terms : goal.invariant-terms
invariant-terms l = (l.fn.count ≤ l.more) × Each (IsMade l.more) (take l.place l.terms)
