use Rattle.std.proofs.Common.{arith, ◌≡◌, Some}
use Rattle.std.specs.Prelude.{slice_get, slice_index}
use Rattle.gr_terms.specs.Views.{term_of}
use Rattle.td_check.specs.Sides.{network_in, IsFitting}
use Rattle.td_desc.specs.declared.DescribedNode.{DescribedNode}
use Rattle.td_check.specs.Places.{PassesNode, PassesNodes}
use Rattle.td_check.proofs.Passing.{first_none, keyed_more, first_all, yes_to, no_to, is_not}
use Rattle.td_check.proofs.sides.Sides.fitting_nodes.Goals as goal

pub loop-at-init : goal.loop-at-init
loop-at-init c =
    first_none c.args.self.now.tree.now.nodes (λ k n. (m : DescribedNode) → slice_get c.args.self.now.d.now.nodes (slice_index c.args.self.now.heads k) ≡ Some m → PassesNode (network_in c.args.self.now) (IsFitting c.args.self.now) c.args.self.now.slots n m)

pub loop-at-preserved : goal.loop-at-preserved
loop-at-preserved c =
    keyed_more c.args.self.now.tree.now.nodes (λ k. slice_get c.args.self.now.d.now.nodes (slice_index c.args.self.now.heads k)) (λ n m. PassesNode (network_in c.args.self.now) (IsFitting c.args.self.now) c.args.self.now.slots n m) c.loop-at.at c.get.result.now c.node.result.now
    c.loop-at.invariant c.get.ensures c.node.ensures.is (c.fitting_node.ensures.0 c.if-not-fitting_node.false)

pub returns-then-not-fitting_node : goal.returns-then-not-fitting_node
returns-then-not-fitting_node c =
    no_to (PassesNodes (network_in c.args.self.now) (IsFitting c.args.self.now) c.args.self.now.d.now c.args.self.now.tree.now c.args.self.now.heads c.args.self.now.slots)
    (λ all. is_not c.fitting_node.result (PassesNode (network_in c.args.self.now) (IsFitting c.args.self.now) c.args.self.now.slots c.get.result.now c.node.result.now) c.fitting_node.ensures c.if-not-fitting_node.true
    (all c.loop-at.at c.get.result.now c.get.ensures c.node.result.now c.node.ensures.is))

pub returns : goal.returns
returns c =
    yes_to (PassesNodes (network_in c.args.self.now) (IsFitting c.args.self.now) c.args.self.now.d.now c.args.self.now.tree.now c.args.self.now.heads c.args.self.now.slots)
    (first_all c.args.self.now.tree.now.nodes (λ k n. (m : DescribedNode) → slice_get c.args.self.now.d.now.nodes (slice_index c.args.self.now.heads k) ≡ Some m → PassesNode (network_in c.args.self.now) (IsFitting c.args.self.now) c.args.self.now.slots n m)
    c.loop-at.at (omega (arith, c.len-at-end.ensures, c.loop-at-test.false)) c.loop-at.invariant)
