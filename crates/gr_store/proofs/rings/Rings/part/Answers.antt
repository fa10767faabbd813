use Rattle.std.proofs.Common.{◌≡◌, ℕ, List, [], ◌∷◌, length, sym, ◌∙◌, ap, subst, arith}
use Rattle.std.proofs.lemmas.List.{length-append, take_at}
use Rattle.std.specs.List.{swap}
use Rattle.gr_terms.specs.declared.Term.TheVariants.{Const, Var}
use Rattle.gr_store.specs.declared.bindings.Bound.{Bound}
use Rattle.gr_store.specs.Rings.{AreRings, node_of}
use Rattle.gr_store.proofs.RingLemmas.{AreRings-pop, length-next_of}
use Rattle.gr_store.proofs.rings.Rings.part.Goals as goal

pub swap-requires-clause-i_in_bounds : goal.swap-requires-clause-i_in_bounds
swap-requires-clause-i_in_bounds c =
    let popped = AreRings-pop _ _ _ _ (rw c.pop-last.ensures at c.self.invariant) in
    omega (arith, popped.0.in_range, ap length c.self.invariant.is_next, length-next_of c.self.inside.roots, ap (λ v. v.0) c.pop-last.ensures)

pub swap-requires-clause-j_in_bounds : goal.swap-requires-clause-j_in_bounds
swap-requires-clause-j_in_bounds c =
    let popped = AreRings-pop _ _ _ _ (rw c.pop-last.ensures at c.self.invariant) in
    omega (arith, popped.0.in_range, popped.0.lower, ap node_of c.in-Var.is, ap length c.self.invariant.is_next, length-next_of c.self.inside.roots, ap (λ v. v.0) c.pop-last.ensures)

pub unreachable-requires : goal.unreachable-requires
unreachable-requires c =
    let popped = AreRings-pop _ _ _ _ (rw c.pop-last.ensures at c.self.invariant) in
    let clash : Const c.in-Const.field-0 ≡ Var (node_of c.pop-last.result.to) = sym c.in-Const.is ∙ popped.0.is_node in
    cc

pub invariant_of-self : goal.invariant_of-self
invariant_of-self c =
    let popped = AreRings-pop _ _ _ _ (rw c.pop-last.ensures at c.self.invariant) in
    rw c.swap.ensures.items (subst (λ (r : ℕ). AreRings c.pop-last.new.self (swap c.self.inside.next.items c.pop-last.result.var r)) (ap node_of c.in-Var.is) popped.1)

pub returns : goal.returns
returns c =
    let rest = c.pop-last.new.self in
    let was = sym c.self.view_is ∙ c.pop-last.ensures in
    rw was (ap (λ (trail : List Bound). (rest.0, trail)) (sym (take_at rest.1 (c.pop-last.result ∷ []) _ (omega (arith, length-append rest.1 (c.pop-last.result ∷ []))))))
