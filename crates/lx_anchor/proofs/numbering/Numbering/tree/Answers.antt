use Rattle.std.proofs.Common.{List, [], ◌++◌, map, subst}
use Rattle.gr_base.specs.Lists.{gathered}
use Rattle.gr_terms.specs.declared.Literal.{Literal}
use Rattle.td_tree.specs.Trees.{BagPairs}
use Rattle.td_tree.specs.declared.Tree.{Tree}
use Rattle.td_tree.specs.declared.TreeNode.{TreeNode}
use Rattle.td_canon.specs.Renaming.{rename_bag, rename_literal, rename_node}
use Rattle.tg_model.specs.DenseTrees.{bag_terms, literal_terms, node_terms}
use Rattle.lx_anchor.specs.Numberings.{IsNumbered}
use Rattle.lx_anchor.proofs.DenseLemmas.{numbered-tree}
use Rattle.lx_anchor.proofs.NumberingLemmas.{numbered-both}
use Rattle.lx_anchor.proofs.numbering.Numbering.tree.Goals as goal

pub returns : goal.returns
returns c =
    let t = c.args.tree.now in
    let nodes = subst (λ old. IsNumbered old c.nodes.new.self (gathered node_terms t.nodes) (λ f. map (rename_node f) t.nodes) c.in_ok-nodes.nodes) c.forget.ensures c.in_ok-nodes.ensures in
    numbered-tree t (record { nodes = c.in_ok-nodes.nodes; iface = c.in_ok-iface.iface; sem = c.in_ok-sem.sem }) c.literals.new.self
    (numbered-both {C = Tree} (λ (k : List Literal → Tree) (sem : List Literal). k sem) [] c.bag.new.self c.literals.new.self (gathered node_terms t.nodes ++ bag_terms t.iface) (gathered literal_terms t.sem)
    (λ f sem. record { nodes = map (rename_node f) t.nodes; iface = rename_bag f t.iface; sem = sem }) (λ f. map (rename_literal f) t.sem) (λ sem. record { nodes = c.in_ok-nodes.nodes; iface = c.in_ok-iface.iface; sem = sem }) c.in_ok-sem.sem
    (numbered-both {C = List Literal → Tree} (λ (nodes : List TreeNode) (iface : BagPairs) (sem : List Literal). record { nodes = nodes; iface = iface; sem = sem }) [] c.nodes.new.self c.bag.new.self (gathered node_terms t.nodes) (bag_terms t.iface)
    (λ f. map (rename_node f) t.nodes) (λ f. rename_bag f t.iface) c.in_ok-nodes.nodes c.in_ok-iface.iface nodes c.in_ok-iface.ensures) c.in_ok-sem.ensures)
