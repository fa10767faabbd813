use Rattle.std.proofs.Common.{◌≡◌, sym, ◌∙◌, ap, take}
use Rattle.gr_store.specs.Roots.{root_by}
use Rattle.gr_store.proofs.Trails.{root_by-name, IsTrail-falls}
use Rattle.gr_store.proofs.bindings.Bindings.made_root.Goals as goal

pub returns-in_default-clause-value : goal.returns-in_default-clause-value
returns-in_default-clause-value c =
    let trail = take c.self.inside.used c.self.inside.trail.items in
    let here : root_by trail c.walk.at ≡ c.walk.at = rw c.in_default.is (root_by-name trail c.in_default.field-0) in
    sym here ∙ c.walk.invariant.joined ∙ ap (λ v. root_by v.1 c.args.t) c.self.view_is

pub returns-in_default-clause-root : goal.returns-in_default-clause-root
returns-in_default-clause-root c = rw c.in_default.is (root_by-name c.args.self.now.1 c.in_default.field-0)

pub returns-in_default-clause-falls : goal.returns-in_default-clause-falls
returns-in_default-clause-falls c = rw (← c.self.view_is) (IsTrail-falls c.self.inside.to.items c.self.inside.trail.items c.self.inside.used c.self.invariant)

pub returns-then-eq-clause-falls : goal.returns-then-eq-clause-falls
returns-then-eq-clause-falls c = rw (← c.self.view_is) (IsTrail-falls c.self.inside.to.items c.self.inside.trail.items c.self.inside.used c.self.invariant)
