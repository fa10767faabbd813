use Rattle.std.proofs.Common.{◌≡◌, ◌++◌, map, drop}
use Rattle.mg_facts.specs.Said.{term_of}
use Rattle.mg_deeds.specs.Sayings.{side_term}
use Rattle.mg_deeds.proofs.terms.values.Given as goal

abbrev pub invariant-loop-side : goal.invariant-loop-side
invariant-loop-side l = map term_of l.values.items ++ map (side_term l.here) (drop l.side-index l.sides) ≡ map (side_term l.here) l.sides
