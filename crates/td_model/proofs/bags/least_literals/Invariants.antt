use Rattle.std.specs.List.{AllZip}
use Rattle.std.proofs.Common.{map, take}
use Rattle.gr_terms.specs.LiteralViews.{literal_of}
use Rattle.gr_terms.specs.Views.{network_of}
use Rattle.td_model.specs.CanonicalTrees.{StandsForLiteral}
use Rattle.td_model.proofs.bags.least_literals.Given as goal

abbrev pub invariant-literals : goal.invariant-literals
invariant-literals l = AllZip (StandsForLiteral (network_of l.store.accepted)) (map literal_of (take l.place l.literals)) l.least.items
