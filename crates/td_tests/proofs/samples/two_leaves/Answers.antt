use Rattle.std.proofs.Common.{subst, sym}
use Rattle.td_tree.specs.Trees.{AreTreeNodes}
use Rattle.td_tests.proofs.CheckLemmas.{three_nodes, pushed_three}
use Rattle.td_tests.proofs.samples.two_leaves.Goals as goal

pub returns : goal.returns
returns c =
    let a = c.in_ok-node.field-0 in
    let b = c.in_ok-node-2.field-0 in
    let d = c.in_ok-node-3.field-0 in
    subst AreTreeNodes
    (sym (pushed_three c.new-nodes.result c.push.new.self c.push-2.new.self c.push-3.new.self a b d c.new-nodes.ensures c.in_ok-push.ensures.ok c.in_ok-push-2.ensures.ok c.in_ok-push-3.ensures.ok))
    (three_nodes a b d c.in_ok-node.ensures c.in_ok-node-2.ensures c.in_ok-node-3.ensures)
