use Rattle.std.proofs.Common.{◌≡◌, Some}
use Rattle.std.specs.Prelude.{slice_get}
use Rattle.gr_terms.specs.Views.{term_of}
use Rattle.td_check.specs.Sides.{network_in, Fits}
use Rattle.gr_terms.specs.declared.Literal.{Literal}
use Rattle.td_check.specs.Places.{AtFirst, PassesLiteral}
use Rattle.td_check.proofs.sides.Sides.beside_literals.Given as goal

abbrev pub invariant-loop-place : goal.invariant-loop-place
invariant-loop-place l = AtFirst l.place l.self.tree.now.sem (λ k x. (y : Literal) → slice_get l.self.d.now.sem k ≡ Some y → (PassesLiteral (Fits l.self (term_of l.value) (term_of l.term)) l.self.vars) x y)
