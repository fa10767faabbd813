use Rattle.std.proofs.Common.{◌+◌}
use Rattle.gr_terms.specs.Views.{term_of}
use Rattle.td_check.specs.Sides.{network_in, IsFitting}
use Rattle.td_check.specs.Places.{AtFirst, PassesPair}
use Rattle.td_check.proofs.sides.Sides.fitting_bag.Given as goal

abbrev pub invariant-loop-place : goal.invariant-loop-place
invariant-loop-place l = AtFirst l.place l.bag (λ k p. PassesPair (network_in l.self) (IsFitting l.self) (l.self.slots + l.slot.0) p)
