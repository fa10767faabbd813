use Rattle.td_tests.specs.Sketches.{AddsNodes}
use Rattle.td_tests.proofs.sketch.add_nodes.Given as goal

abbrev pub invariant-loop-one : goal.invariant-loop-one
invariant-loop-one l = AddsNodes l.colour l.fn.nodes l.nodes
