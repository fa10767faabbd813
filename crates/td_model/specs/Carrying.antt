-- When a store's assertions say the same as a network.
use Rattle.std.specs.Prelude.{ℕ, List}
use Rattle.gr_base.specs.Lists.{IsWithin}
use Rattle.gr_terms.specs.Networks as net
use Rattle.gr_terms.specs.Views.{network_of}
use Rattle.gr_terms.specs.declared.Assertion.{Assertion}

-- the accepted assertions are those of the network, up to order and repetition
pub record Carries (accepted : List Assertion) (N : List (net.Assertion ℕ ℕ)) : Type 0 where
  pub all : IsWithin N (network_of accepted)
  pub only : IsWithin (network_of accepted) N
