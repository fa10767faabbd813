use Rattle.std.proofs.Common.{take}
use Rattle.td_model.specs.Reading.{HasAttributesOf}
use Rattle.td_model.proofs.listing.first_values.Given as goal

abbrev pub invariant-network : goal.invariant-network
invariant-network l = HasAttributesOf (take l.place l.network) l.bag
