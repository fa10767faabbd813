use Rattle.std.proofs.Common.{take}
use Rattle.gr_base.specs.Lists.{Each}
use Rattle.lx_anchor.specs.Counts.{IsClassBelow}
use Rattle.lx_anchor.proofs.counts.count_grammar.Given as goal

abbrev pub invariant-classes : goal.invariant-classes
invariant-classes l = Each (IsClassBelow l.count) (take l.place l.grammar)
