use Rattle.std.proofs.Common.{◌≡◌, Some}
use Rattle.std.specs.Prelude.{slice_get, slice_index}
use Rattle.gr_terms.specs.Views.{term_of}
use Rattle.td_check.specs.Sides.{network_in, Fits}
use Rattle.td_desc.specs.declared.DescribedNode.{DescribedNode}
use Rattle.td_check.specs.Places.{AtFirst, PassesNode}
use Rattle.td_check.proofs.sides.Sides.beside_nodes.Given as goal

abbrev pub invariant-loop-at : goal.invariant-loop-at
invariant-loop-at l =
    AtFirst l.at l.self.tree.now.nodes (λ k n. (m : DescribedNode) → slice_get l.self.d.now.nodes (slice_index l.self.heads k) ≡ Some m → PassesNode (network_in l.self) (Fits l.self (term_of l.value) (term_of l.term)) l.self.slots n m)
