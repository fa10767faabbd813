use Rattle.gr_terms.specs.Views.{network_of}
use Rattle.td_forest.specs.Steps.{forest_of}
use Rattle.td_desc.specs.Descriptions.{description_of}
use Rattle.td_model.specs.Reading.{AreModelNodes}
use Rattle.td_model.proofs.tree.nodes_of.Given as goal

abbrev pub invariant-nodes : goal.invariant-nodes
invariant-nodes l = AreModelNodes (network_of l.store.accepted) (description_of l.d) (forest_of l.forest) l.place l.nodes.items
