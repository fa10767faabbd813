use Rattle.std.proofs.Common.{◌≡◌, Some}
use Rattle.std.specs.Prelude.{slice_get}
use Rattle.gr_terms.specs.Views.{term_of}
use Rattle.td_check.specs.Sides.{network_in, Fits}
use Rattle.gr_terms.specs.declared.Term.{Term}
use Rattle.td_check.specs.Places.{AtFirst, PassesTerm}
use Rattle.td_check.proofs.sides.Sides.beside_args.Given as goal

abbrev pub invariant-loop-place : goal.invariant-loop-place
invariant-loop-place l = AtFirst l.place l.found.args (λ k x. (y : Term) → slice_get l.literal.args k ≡ Some y → (PassesTerm (Fits l.self (term_of l.value) (term_of l.term)) l.self.vars) x y)
