use Rattle.td_forest.specs.Steps.{forest_of}
use Rattle.td_desc.specs.Descriptions.{node_of}
use Rattle.td_model.proofs.ReadingLemmas.{head_there, slots_there}
use Rattle.td_model.proofs.tree.node_at.Goals as goal

pub get-node-requires : goal.get-node-requires
get-node-requires c = head_there c.args.d.now (forest_of c.args.forest.now) c.args.place c.head.result c.requires.nodes c.head.ensures

pub returns : goal.returns
returns c = record {
  parent = c.parent.ensures;
  slots = (node_of c.get-node.result.now).slots;
  there = slots_there c.args.d.now (forest_of c.args.forest.now) c.args.place c.head.result c.get-node.result.now c.head.ensures c.get-node.ensures;
  bags = record { own = c.in_ok-bag_of.ensures; top = c.in_ok-bag_of-2.ensures; bottom = c.in_ok-bag_of-3.ensures };
}
