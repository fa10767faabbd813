use Rattle.gr_store.proofs.Trails.{IsTrail-falls}
use Rattle.gr_store.proofs.bindings.Bindings.root.Goals as goal

pub returns-in-Var-clause-falls : goal.returns-in-Var-clause-falls
returns-in-Var-clause-falls c = rw (← c.self.view_is) (IsTrail-falls c.self.inside.to.items c.self.inside.trail.items c.self.inside.used c.self.invariant)
