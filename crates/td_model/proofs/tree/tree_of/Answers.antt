use Rattle.td_forest.specs.Steps.{forest_of}
use Rattle.td_model.proofs.ReadTrees.{model_tree_read}
use Rattle.td_model.proofs.ReadingLemmas.{covers}
use Rattle.td_model.proofs.tree.tree_of.Goals as goal

pub nodes_of-requires-clause-attributes : goal.nodes_of-requires-clause-attributes
nodes_of-requires-clause-attributes c = covers c.args.d.now (forest_of c.args.forest.now) c.args.store.now.accepted c.args.attributes.now c.requires.attributes c.requires.carries

pub bag_of-requires-clause-attributes : goal.bag_of-requires-clause-attributes
bag_of-requires-clause-attributes c = covers c.args.d.now (forest_of c.args.forest.now) c.args.store.now.accepted c.args.attributes.now c.requires.attributes c.requires.carries

pub returns : goal.returns
returns c =
    model_tree_read c.args.d.now (forest_of c.args.forest.now) c.args.store.now.accepted _ c.requires.one c.in_ok-nodes_of.ensures.few c.in_ok-nodes_of.ensures.nodes c.in_ok-bag_of.ensures c.in_ok-least_literals.ensures c.requires.carries
