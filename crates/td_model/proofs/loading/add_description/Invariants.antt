use Rattle.std.proofs.Common.{take}
use Rattle.td_model.proofs.LoadSteps.{IsAdded}
use Rattle.td_model.proofs.loading.add_description.Given as goal

abbrev pub invariant-network : goal.invariant-network
invariant-network l = IsAdded l.fn.store l.fn.d (take l.place l.fn.d.network) l.store
