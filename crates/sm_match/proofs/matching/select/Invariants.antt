use Rattle.std.proofs.Common.{◌≡◌, []}
use Rattle.sm_match.specs.Listings.{Adds}
use Rattle.sm_match.proofs.MatchLemmas.{IsEarly}
use Rattle.sm_match.proofs.matching.select.Given as goal

abbrev pub invariant-loop-number : goal.invariant-loop-number
invariant-loop-number l = record {
  finds : Adds (IsEarly l.trees l.fn.input.literals l.number) [] l.state.found;
  places : l.state.places.items ≡ [];
  bindings : l.state.bindings.items ≡ [];
}
