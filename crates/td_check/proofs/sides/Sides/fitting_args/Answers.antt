use Rattle.std.proofs.Common.{arith, ◌≡◌, Some}
use Rattle.std.specs.Prelude.{slice_get}
use Rattle.gr_terms.specs.Views.{term_of}
use Rattle.td_check.specs.Sides.{network_in, IsFitting}
use Rattle.gr_terms.specs.declared.Term.{Term}
use Rattle.td_check.specs.Places.{AtBoth, PassesTerm}
use Rattle.td_check.proofs.Passing.{first_none, keyed_more, first_all, yes_to, no_to, is_not}
use Rattle.td_check.proofs.sides.Sides.fitting_args.Goals as goal

pub loop-place-init : goal.loop-place-init
loop-place-init c = first_none c.args.found.now.args (λ k x. (y : Term) → slice_get c.args.literal.now.args k ≡ Some y → (PassesTerm (IsFitting c.args.self.now) c.args.self.now.vars) x y)

pub loop-place-preserved : goal.loop-place-preserved
loop-place-preserved c =
    keyed_more c.args.found.now.args (λ k. slice_get c.args.literal.now.args k) (PassesTerm (IsFitting c.args.self.now) c.args.self.now.vars) c.loop-place.place c.get.result.now c.get-in-loop-place.result.now
    c.loop-place.invariant c.get.ensures c.get-in-loop-place.ensures (c.fitting_term.ensures.0 c.if-not-fitting_term.false)

pub returns-then-not-fitting_term : goal.returns-then-not-fitting_term
returns-then-not-fitting_term c =
    no_to (AtBoth c.args.found.now.args c.args.literal.now.args (PassesTerm (IsFitting c.args.self.now) c.args.self.now.vars))
    (λ all. is_not c.fitting_term.result ((PassesTerm (IsFitting c.args.self.now) c.args.self.now.vars) c.get.result.now c.get-in-loop-place.result.now) c.fitting_term.ensures c.if-not-fitting_term.true
    (all c.loop-place.place c.get.result.now c.get.ensures c.get-in-loop-place.result.now c.get-in-loop-place.ensures))

pub returns : goal.returns
returns c =
    yes_to (AtBoth c.args.found.now.args c.args.literal.now.args (PassesTerm (IsFitting c.args.self.now) c.args.self.now.vars))
    (first_all c.args.found.now.args (λ k x. (y : Term) → slice_get c.args.literal.now.args k ≡ Some y → (PassesTerm (IsFitting c.args.self.now) c.args.self.now.vars) x y) c.loop-place.place (omega (arith, c.len-place-end.ensures, c.loop-place-test.false)) c.loop-place.invariant)
