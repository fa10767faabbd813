use Rattle.std.proofs.Common.{take}
use Rattle.gr_base.specs.Lists.{IsAmong}
use Rattle.sm_match.proofs.search.is_among.Given as goal

abbrev pub invariant-loop-used : goal.invariant-loop-used
invariant-loop-used l = IsAmong (take l.used-index l.places) l.place → ⊥
