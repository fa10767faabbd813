use Rattle.std.proofs.Common.{◌≡◌, [], ◌∷◌, subst, sym}
use Rattle.td_tree.specs.Trees.{AreTreeNodes}
use Rattle.td_tree.specs.declared.TreeNode.{TreeNode}
use Rattle.td_tests.proofs.CheckLemmas.{two_nodes, pushed_two}
use Rattle.td_tests.proofs.samples.one_leaf.Goals as goal

pub returns : goal.returns
returns c =
    let a = c.in_ok-node.field-0 in
    let b = c.in_ok-node-2.field-0 in
    subst AreTreeNodes (sym (pushed_two c.new-nodes.result c.push.new.self c.push-2.new.self a b c.new-nodes.ensures c.in_ok-push.ensures.ok c.in_ok-push-2.ensures.ok))
    (two_nodes a b c.in_ok-node.ensures c.in_ok-node-2.ensures)
