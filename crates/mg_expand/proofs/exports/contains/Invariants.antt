use Rattle.std.proofs.Common.{take}
use Rattle.gr_base.specs.Lists.{IsAmong}
use Rattle.mg_expand.proofs.exports.contains.Given as goal

abbrev pub invariant-loop-one : goal.invariant-loop-one
invariant-loop-one l = IsAmong (take l.one-index l.names) l.name → ⊥
