use Rattle.gr_base.specs.Lists.{gathered}
use Rattle.td_canon.specs.Renaming.{rename_node}
use Rattle.tg_model.specs.DenseTrees.{node_terms}
use Rattle.lx_anchor.proofs.NumberingLemmas.{gathered-push, numbered-push}
use Rattle.lx_anchor.proofs.numbering.Numbering.nodes.Goals as goal

pub nodes-preserved : goal.nodes-preserved
nodes-preserved c =
    numbered-push (gathered node_terms) rename_node c.args.nodes.now c.nodes.place c.get.result.now (node_terms c.get.result.now) c.args.self.now c.nodes.self c.node.new.self c.nodes.numbered.items c.push.new.self.items c.in_ok-node.field-0
    c.get.ensures (gathered-push node_terms c.get.result.now) c.nodes.invariant c.in_ok-node.ensures c.in_ok-push.ensures.items
