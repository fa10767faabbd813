use Rattle.std.proofs.Common.{◌≡◌, subst, arith}
use Rattle.gr_base.specs.Forests.{size}
use Rattle.gr_terms.specs.Views.{network_of}
use Rattle.td_forest.specs.Steps.{forest_of}
use Rattle.td_desc.specs.Descriptions.{description_of}
use Rattle.td_model.specs.Reading.{AreModelNodes}
use Rattle.td_model.proofs.ReadingLemmas.{nodes_push}
use Rattle.td_model.proofs.tree.nodes_of.Goals as goal

pub nodes-preserved : goal.nodes-preserved
nodes-preserved c =
    nodes_push (network_of c.args.store.now.accepted) c.args.d.now (forest_of c.args.forest.now) c.nodes.place c.nodes.nodes.items c.push.new.self.items c.in_ok-node_at.field-0 c.nodes.invariant c.in_ok-node_at.ensures c.in_ok-push.ensures.items

pub returns-clause-nodes : goal.returns-clause-nodes
returns-clause-nodes c =
    let all : c.nodes.place ≡ size (forest_of c.args.forest.now) = omega arith in
    rw c.from_vec.ensures
    (subst (λ k. AreModelNodes (network_of c.args.store.now.accepted) (description_of c.args.d.now) (forest_of c.args.forest.now) k c.nodes.nodes.items) all c.nodes.invariant)
