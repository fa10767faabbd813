use Rattle.std.proofs.Common.{◌-◌, ◌++◌, ℕ, List, [], length, take, drop}
use Rattle.gr_tokens.specs.declared.Token.{Token}
use Rattle.gr_tokens.specs.Fronts.{IsHere}
use Rattle.gr_tokens.specs.Tokens.{HasNoGap, IsCut}
use Rattle.gr_tokens.proofs.cut.cut.Given as goal

abbrev pub invariant-loop-here : goal.invariant-loop-here
invariant-loop-here l = record {
  stands : IsHere l.bytes l.here;
  past : HasNoGap (drop l.here.at l.bytes);
  forth : (ts : List Token) (left : List ℕ) → IsCut (take l.here.at l.bytes) (drop l.here.at l.bytes) ts left → IsCut [] l.bytes (l.found.items ++ ts) left;
}

abbrev pub decreases-loop-here : goal.decreases-loop-here
decreases-loop-here l = length l.bytes - l.here.at
