use Rattle.std.proofs.Common.{arith, length, ◌≤◌, subst, sym, ◌∙◌}
use Rattle.std.proofs.lemmas.Bool.{false≢true}
use Rattle.td_tree.specs.declared.TreeNode.{TreeNode}
use Rattle.td_check.specs.Places.{IsFrom}
use Rattle.td_check.proofs.Ends.{tree_ends, none_from, more_from, read_node, past_nodes}
use Rattle.td_check.proofs.shape.behind.Goals as goal

pub loop-end-init : goal.loop-end-init
loop-end-init c = none_from c.args.nodes.now c.args.at

pub loop-end-preserved : goal.loop-end-preserved
loop-end-preserved c =
    more_from c.args.nodes.now c.args.at c.loop-end.end c.index-nodes-end.result c.loop-end.invariant c.index-nodes-end.is c.loop-end-test.true (c.is_inside.ensures.0 c.if-not-is_inside.false)

pub returns-then-not-is_inside : goal.returns-then-not-is_inside
returns-then-not-is_inside c =
    let low = c.loop-end.auto.end in
    tree_ends c.args.nodes.now c.args.at c.loop-end.end c.requires.within (omega arith) (omega arith) c.loop-end.invariant
    (λ x e from. false≢true (sym c.if-not-is_inside.true ∙ c.is_inside.ensures.1 (subst (λ (z : TreeNode). IsFrom c.args.at z.parent) (sym (read_node c.args.nodes.now c.loop-end.end x c.index-nodes-end.result c.index-nodes-end.is c.loop-end-test.true e)) from)))

pub returns : goal.returns
returns c f =
    let low = c.loop-end.auto.end in
    let most : length c.args.nodes.now ≤ c.loop-end.end = c.loop-end-test.false in
    tree_ends c.args.nodes.now c.args.at (length c.args.nodes.now) c.requires.within c.requires.within (omega arith)
    (λ r x a b e. c.loop-end.invariant r x a (omega arith) e)
    (λ x e from. past_nodes c.args.nodes.now (length c.args.nodes.now) x (omega arith) e) f
