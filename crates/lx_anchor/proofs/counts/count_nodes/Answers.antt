use Rattle.lx_anchor.specs.Counts.{IsNodeBelow}
use Rattle.lx_anchor.proofs.CountLemmas.{node-grows, one-more}
use Rattle.lx_anchor.proofs.counts.count_nodes.Goals as goal

pub nodes-preserved : goal.nodes-preserved
nodes-preserved c = one-more IsNodeBelow node-grows c.args.count c.nodes.more c.in_ok-more.more c.args.nodes.now c.nodes.place c.get.result.now c.get.ensures c.nodes.invariant c.in_ok-more.ensures
