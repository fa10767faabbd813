use Rattle.std.proofs.Common.{take}
use Rattle.gr_base.specs.Lists.{Each}
use Rattle.lx_anchor.specs.Counts.{HasFewFeatures}
use Rattle.lx_anchor.proofs.counts.most_features.Given as goal

abbrev pub invariant-entries : goal.invariant-entries
invariant-entries l = Each (HasFewFeatures l.count) (take l.number l.lexicon)
