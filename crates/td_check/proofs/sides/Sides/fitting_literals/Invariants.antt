use Rattle.std.proofs.Common.{◌≡◌, Some}
use Rattle.std.specs.Prelude.{slice_get}
use Rattle.gr_terms.specs.Views.{term_of}
use Rattle.td_check.specs.Sides.{network_in, IsFitting}
use Rattle.gr_terms.specs.declared.Literal.{Literal}
use Rattle.td_check.specs.Places.{AtFirst, PassesLiteral}
use Rattle.td_check.proofs.sides.Sides.fitting_literals.Given as goal

abbrev pub invariant-loop-place : goal.invariant-loop-place
invariant-loop-place l = AtFirst l.place l.self.tree.now.sem (λ k x. (y : Literal) → slice_get l.self.d.now.sem k ≡ Some y → (PassesLiteral (IsFitting l.self) l.self.vars) x y)
