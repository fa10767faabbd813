use Rattle.std.proofs.Common.{◌≡◌, ◌++◌, take}
use Rattle.gr_base.specs.Lists.{gathered}
use Rattle.mg_scope.specs.Uses.{property_uses, bag_uses, properties_of}
use Rattle.mg_scope.proofs.UseLemmas.{properties}
use Rattle.mg_scope.proofs.uses.push_properties.Given as goal

abbrev pub invariant-loop-pair : goal.invariant-loop-pair
invariant-loop-pair l = l.uses.items ≡ l.initial.uses.items ++ gathered property_uses (take l.pair-index l.pair-items)
