use Rattle.std.proofs.Common.{◌-◌, ◌<◌, List, [], ◌∷◌, ◌++◌, length, take, sym, ◌∙◌, ap, subst, arith}
use Rattle.std.proofs.lemmas.List.{length-set, take_more}
use Rattle.gr_store.specs.declared.bindings.Bound.{Bound}
use Rattle.gr_store.specs.Trail.{IsTrail}
use Rattle.gr_store.proofs.Trails.{IsTrail-pop, length-first}
use Rattle.gr_store.proofs.bindings.Bindings.pop.Goals as goal

pub index_mut-requires : goal.index_mut-requires
index_mut-requires c =
    let fields = c.self.inside in
    let some = length-first fields.trail.items fields.used (rw (← c.self.view_is) at c.requires) in
    let popped = IsTrail-pop fields.to.items fields.trail.items (fields.used - 1) c.index-last.result.now (subst (IsTrail fields.to.items fields.trail.items) some c.self.invariant) c.index-last.ensures in
    omega (arith, popped.0)

pub invariant_of-self : goal.invariant_of-self
invariant_of-self c =
    let fields = c.self.inside in
    let some = length-first fields.trail.items fields.used (rw (← c.self.view_is) at c.requires) in
    (IsTrail-pop fields.to.items fields.trail.items (fields.used - 1) c.index-last.result.now (subst (IsTrail fields.to.items fields.trail.items) some c.self.invariant) c.index-last.ensures).1

pub returns : goal.returns
returns c =
    let fields = c.self.inside in
    let some = length-first fields.trail.items fields.used (rw (← c.self.view_is) at c.requires) in
    let within : fields.used - 1 < length fields.trail.items = omega (arith, some, c.self.invariant.within) in
    rw (← c.self.view_is) (rw (length-set fields.to.items c.index-last.result.now.var _)
    (ap (λ n. (length fields.to.items, take n fields.trail.items)) some
    ∙ ap (λ (list : List Bound). (length fields.to.items, list)) (take_more fields.trail.items (fields.used - 1) c.index-last.result.now within
    ∙ ap (λ x. take (fields.used - 1) fields.trail.items ++ x ∷ []) (sym c.index-last.ensures))))
