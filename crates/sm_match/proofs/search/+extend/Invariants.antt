use Rattle.std.proofs.Common.{◌≡◌, ◌-◌, length, take}
use Rattle.sm_match.specs.Listings.{Adds}
use Rattle.sm_match.proofs.SearchLemmas.{IsAmongFrom}
use Rattle.sm_match.proofs.search.+extend.Given as goal

abbrev pub decreases-extend : goal.decreases-extend
decreases-extend l = length l.task.now.tree.now.sem - l.at

abbrev pub invariant-loop-place : goal.invariant-loop-place
invariant-loop-place l = record {
  finds : Adds (IsAmongFrom l.task l.initial.state.places.items (take l.place-index l.place-items)) l.initial.state.found l.state.found;
  places : l.state.places.items ≡ l.initial.state.places.items;
  bindings : l.state.bindings.items ≡ l.initial.state.bindings.items;
}
