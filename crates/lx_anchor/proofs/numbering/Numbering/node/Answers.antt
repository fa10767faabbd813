use Rattle.std.proofs.Common.{◌++◌}
use Rattle.td_tree.specs.Trees.{BagPairs}
use Rattle.td_tree.specs.declared.TreeNode.{TreeNode}
use Rattle.td_canon.specs.Renaming.{rename_bag}
use Rattle.tg_model.specs.DenseTrees.{bag_terms}
use Rattle.lx_anchor.proofs.NumberingLemmas.{numbered-both}
use Rattle.lx_anchor.proofs.numbering.Numbering.node.Goals as goal

pub returns : goal.returns
returns c =
    let node = c.args.node.now in
    numbered-both {C = TreeNode} (λ (k : BagPairs → TreeNode) (bot : BagPairs). k bot) c.args.self.now c.bag-2.new.self c.bag-3.new.self (bag_terms node.own ++ bag_terms node.top) (bag_terms node.bot)
    (λ f bot. record { parent = node.parent; own = rename_bag f node.own; top = rename_bag f node.top; bot = bot }) (λ f. rename_bag f node.bot) (λ bot. record { parent = node.parent; own = c.in_ok-own.own; top = c.in_ok-top.top; bot = bot }) c.in_ok-bot.bot
    (numbered-both {C = BagPairs → TreeNode} (λ (own top bot : BagPairs). record { parent = node.parent; own = own; top = top; bot = bot }) c.args.self.now c.bag.new.self c.bag-2.new.self (bag_terms node.own) (bag_terms node.top) (λ f. rename_bag f node.own)
    (λ f. rename_bag f node.top) c.in_ok-own.own c.in_ok-top.top c.in_ok-own.ensures c.in_ok-top.ensures) c.in_ok-bot.ensures
