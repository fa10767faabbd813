use Rattle.std.proofs.Common.{arith, ◌≡◌, Some}
use Rattle.std.specs.Prelude.{slice_get}
use Rattle.gr_terms.specs.Views.{term_of}
use Rattle.td_check.specs.Sides.{network_in, IsFitting}
use Rattle.gr_terms.specs.declared.Literal.{Literal}
use Rattle.td_check.specs.Places.{AtBoth, PassesLiteral}
use Rattle.td_check.proofs.Passing.{first_none, keyed_more, first_all, yes_to, no_to, is_not}
use Rattle.td_check.proofs.sides.Sides.fitting_literals.Goals as goal

pub loop-place-init : goal.loop-place-init
loop-place-init c = first_none c.args.self.now.tree.now.sem (λ k x. (y : Literal) → slice_get c.args.self.now.d.now.sem k ≡ Some y → (PassesLiteral (IsFitting c.args.self.now) c.args.self.now.vars) x y)

pub loop-place-preserved : goal.loop-place-preserved
loop-place-preserved c =
    keyed_more c.args.self.now.tree.now.sem (λ k. slice_get c.args.self.now.d.now.sem k) (PassesLiteral (IsFitting c.args.self.now) c.args.self.now.vars) c.loop-place.place c.get.result.now c.get-in-loop-place.result.now
    c.loop-place.invariant c.get.ensures c.get-in-loop-place.ensures (c.fitting_literal.ensures.0 c.if-not-fitting_literal.false)

pub returns-then-not-fitting_literal : goal.returns-then-not-fitting_literal
returns-then-not-fitting_literal c =
    no_to (AtBoth c.args.self.now.tree.now.sem c.args.self.now.d.now.sem (PassesLiteral (IsFitting c.args.self.now) c.args.self.now.vars))
    (λ all. is_not c.fitting_literal.result ((PassesLiteral (IsFitting c.args.self.now) c.args.self.now.vars) c.get.result.now c.get-in-loop-place.result.now) c.fitting_literal.ensures c.if-not-fitting_literal.true
    (all c.loop-place.place c.get.result.now c.get.ensures c.get-in-loop-place.result.now c.get-in-loop-place.ensures))

pub returns : goal.returns
returns c =
    yes_to (AtBoth c.args.self.now.tree.now.sem c.args.self.now.d.now.sem (PassesLiteral (IsFitting c.args.self.now) c.args.self.now.vars))
    (first_all c.args.self.now.tree.now.sem (λ k x. (y : Literal) → slice_get c.args.self.now.d.now.sem k ≡ Some y → (PassesLiteral (IsFitting c.args.self.now) c.args.self.now.vars) x y) c.loop-place.place (omega (arith, c.len-place-end.ensures, c.loop-place-test.false)) c.loop-place.invariant)
