use Rattle.std.proofs.Common.{ℕ, ◌+◌, subst}
use Rattle.gr_terms.specs.Networks.{HasValue}
use Rattle.gr_terms.specs.Networks as net
use Rattle.gr_terms.specs.Views.{term_of}
use Rattle.td_check.specs.Sides.{network_in, IsFitting}
use Rattle.gr_store.proofs.Values.{HasValue-first}
use Rattle.td_check.proofs.Passing.{pair_found, pair_missing, fitting_respects}
use Rattle.td_check.proofs.sides.Sides.fitting_pair.Goals as goal

pub returns-in-Some : goal.returns-in-Some
returns-in-Some c =
    let N = network_in c.args.self.now in
    let p = c.args.pair.now in
    let has : HasValue N (c.args.self.now.slots + c.args.slot.0) p.0.0 (term_of c.in-Some.found) =
    subst (λ s. HasValue N s p.0.0 (term_of c.in-Some.found)) c.slot.ensures (HasValue-first N c.slot.result.0 p.0.0 (term_of c.in-Some.found) c.in-Some.ensures) in
    pair_found N (IsFitting c.args.self.now) (c.args.self.now.slots + c.args.slot.0) p (term_of c.in-Some.found) c.fits.result
    (fitting_respects (network_in c.args.self.now) c.args.self.now.d.now c.args.self.now.tree.now c.args.self.now.heads c.args.self.now.vars c.args.self.now.slots) has c.fits.ensures

pub returns-in-None : goal.returns-in-None
returns-in-None c =
    let N = network_in c.args.self.now in
    pair_missing N (IsFitting c.args.self.now) (c.args.self.now.slots + c.args.slot.0) c.args.pair.now
    (subst (λ s. (x : net.Term ℕ) → HasValue N s c.args.pair.now.0.0 x → ⊥) c.slot.ensures c.in-None.ensures)
