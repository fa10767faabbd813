use Rattle.td_tests.proofs.SketchLemmas.{added_in_order, added_slots}
use Rattle.td_tests.proofs.sketch.nodes.Goals as goal

pub returns-clause-order : goal.returns-clause-order
returns-clause-order c = added_in_order c.new-nodes.result c.add_nodes.new.nodes c.add_nodes-2.new.nodes c.add_nodes-3.new.nodes c.new-nodes.ensures c.in_ok-add_nodes.ensures c.in_ok-add_nodes-2.ensures c.in_ok-add_nodes-3.ensures

pub returns-clause-slots : goal.returns-clause-slots
returns-clause-slots c = added_slots c.new-nodes.result c.add_nodes.new.nodes c.add_nodes-2.new.nodes c.add_nodes-3.new.nodes c.new-nodes.ensures c.in_ok-add_nodes.ensures c.in_ok-add_nodes-2.ensures c.in_ok-add_nodes-3.ensures
