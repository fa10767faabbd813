use Rattle.std.proofs.Common.{◌≡◌, ℕ, ◌<◌, List, length, sym, ◌∙◌, ap, subst, take, arith}
use Rattle.std.proofs.lemmas.List.{take_all}
use Rattle.gr_terms.specs.declared.Term.TheVariants.{Const, Var}
use Rattle.gr_store.specs.declared.bindings.Bound.{Bound}
use Rattle.gr_store.specs.Contents.{rank}
use Rattle.gr_store.specs.Roots.{root_by}
use Rattle.gr_store.specs.Rings.{HasRing}
use Rattle.gr_store.proofs.RingLemmas.{root_by-node}
use Rattle.gr_store.proofs.rings.Rings.root.Goals as goal

pub unreachable-requires : goal.unreachable-requires
unreachable-requires c =
    let v = c.self.inside.roots in
    let node = root_by-node v.0 v.1 c.self.invariant.steps c.args.node in
    let clash : Const c.in-Const.field-0 ≡ Var node.0 = sym c.in-Const.is ∙ c.root.ensures.value ∙ node.1 in
    cc

pub returns-clause-ring : goal.returns-clause-ring
returns-clause-ring c =
    let v = c.self.inside.roots in
    let r : ℕ = c.in-Var.root in
    let node_in = rw (← c.self.view_is) at c.requires in
    let r_in : r < v.0 = omega (arith, node_in, c.root.ensures.below, ap rank c.in-Var.is) in
    let r_root : root_by v.1 (Var r) ≡ Var r = rw c.in-Var.is at c.root.ensures.root in
    let whole : take (length v.1) v.1 ≡ v.1 = take_all (length v.1) v.1 (omega arith) in
    rw (← c.self.view_is) (subst (λ (trail : List Bound). HasRing (v.0, trail) r) whole (c.self.invariant.always (length v.1) r (omega arith) r_in (rw whole r_root)))
