use Rattle.std.proofs.Common.{take}
use Rattle.gr_base.specs.Lists.{Each}
use Rattle.lx_anchor.specs.Counts.{IsEntryBelow}
use Rattle.lx_anchor.proofs.counts.count_lexicon.Given as goal

abbrev pub invariant-entries : goal.invariant-entries
invariant-entries l = Each (IsEntryBelow l.count) (take l.number l.lexicon)
