use Rattle.std.proofs.Common.{◌≡◌, ◌∙◌, ◌++◌, List, length, sym, rules, subst, ap, arith, Err}
use Rattle.std.specs.Prelude.{None}
use Rattle.gr_symbols.proofs.NumberLemmas.{Grows-trans}
use Rattle.td_tree.specs.Trees.{BagPairs}
use Rattle.td_tree.specs.declared.TreeNode.{TreeNode}
use Rattle.gr_base.specs.Lists.{gathered}
use Rattle.tg_reader.proofs.Rows.{table_then}
use Rattle.tg_reader.specs.Naming.{forest_names, literal_names, pair_names}
use Rattle.tg_reader.specs.Reading.{AppendsForest, AreKnownNodes, IsKnownBag, PutsPairs}
use Rattle.tg_reader.proofs.Steps.{stops}
use Rattle.tg_reader.proofs.TreeTexts.{behind_nodes, interface_text, literals_text, no_interface, nothing_behind, tree_regroup}
use Rattle.tg_reader.proofs.reader.Reader.tree.Goals as goal

pub returns-in_err-node-clause-takes : goal.returns-in_err-node-clause-takes
returns-in_err-node-clause-takes c = λ text d rest can end e.
    let is : c.from_residual.result ≡ Err c.in_err-node.field-0.0 = search rules in
    rw is (stops c.in_err-node.field-0.0 _ _ (c.in_err-node.ensures.takes text d.nodes (interface_text text d.interface ++ (literals_text text d.literals ++ rest))
    (record { one = can.one; trees = record { few = let few = can.few in omega (arith, few, ap (λ (z : List TreeNode). length z) c.new-nodes.ensures); nodes = can.nodes } })
    (behind_nodes text d.interface d.literals rest end) (e ∙ tree_regroup text d rest)))

pub returns-in_err-enclosed-clause-takes : goal.returns-in_err-enclosed-clause-takes
returns-in_err-enclosed-clause-takes c = λ text d rest can end e.
    let is : c.from_residual-in_err-enclosed.result ≡ Err c.in_err-enclosed.field-0.0 = search rules in
    let nodes = c.in_ok-node.ensures.takes text d.nodes (interface_text text d.interface ++ (literals_text text d.literals ++ rest))
    (record { one = can.one; trees = record { few = let few = can.few in omega (arith, few, ap (λ (z : List TreeNode). length z) c.new-nodes.ensures); nodes = can.nodes } })
    (behind_nodes text d.interface d.literals rest end) (e ∙ tree_regroup text d rest) in
    rw is (stops c.in_err-enclosed.field-0.0 _ _ (c.in_err-enclosed.ensures.takes text d.interface (literals_text text d.literals ++ rest) can.interface (no_interface text d.literals rest can.literals end) nodes.0))

pub returns-in_err-sem-clause-takes : goal.returns-in_err-sem-clause-takes
returns-in_err-sem-clause-takes c = λ text d rest can end e.
    let is : c.from_residual-in_err-sem.result ≡ Err c.in_err-sem.field-0.0 = search rules in
    let nodes = c.in_ok-node.ensures.takes text d.nodes (interface_text text d.interface ++ (literals_text text d.literals ++ rest))
    (record { one = can.one; trees = record { few = let few = can.few in omega (arith, few, ap (λ (z : List TreeNode). length z) c.new-nodes.ensures); nodes = can.nodes } })
    (behind_nodes text d.interface d.literals rest end) (e ∙ tree_regroup text d rest) in
    let interface = c.in_ok-enclosed.ensures.takes text d.interface (literals_text text d.literals ++ rest) can.interface (no_interface text d.literals rest can.literals end) nodes.0 in
    rw is (stops c.in_err-sem.field-0.0 _ _ (c.in_err-sem.ensures.takes text d.literals rest can.literals (nothing_behind rest end) interface.0))

pub returns-clause-takes : goal.returns-clause-takes
returns-clause-takes c = λ text d rest can end e.
    let nodes = c.in_ok-node.ensures.takes text d.nodes (interface_text text d.interface ++ (literals_text text d.literals ++ rest))
    (record { one = can.one; trees = record { few = let few = can.few in omega (arith, few, ap (λ (z : List TreeNode). length z) c.new-nodes.ensures); nodes = can.nodes } })
    (behind_nodes text d.interface d.literals rest end) (e ∙ tree_regroup text d rest) in
    let interface = c.in_ok-enclosed.ensures.takes text d.interface (literals_text text d.literals ++ rest) can.interface (no_interface text d.literals rest can.literals end) nodes.0 in
    let literals = c.in_ok-sem.ensures.takes text d.literals rest can.literals (nothing_behind rest end) interface.0 in (
      literals.0,
      record {
        table = table_then _ _ _ (forest_names text d.nodes ++ gathered (pair_names text) d.interface) (gathered (literal_names text) d.literals)
            (table_then _ _ _ (forest_names text d.nodes) (gathered (pair_names text) d.interface) nodes.1.table interface.1.table) literals.1.table;
        later = λ later grows.
            let grows_interface = Grows-trans _ _ later c.literals.ensures.passes.grows grows in
            let grows_nodes = Grows-trans _ _ later c.enclosed.ensures.passes.grows grows_interface in
            record {
              nodes = subst (λ (zs : List TreeNode). AppendsForest text later None d.nodes zs c.node.new.nodes) c.new-nodes.ensures (nodes.1.later later grows_nodes);
              interface = subst (λ (zs : BagPairs). PutsPairs text later d.interface zs c.enclosed.new.bag) c.new-iface.ensures (interface.1.later later grows_interface);
              literals = literals.1.later later grows;
            };
      },
    )

pub returns-clause-known : goal.returns-clause-known
returns-clause-known c = λ first later grows.
    let grows_interface = Grows-trans _ _ later c.literals.ensures.passes.grows grows in
    let grows_nodes = Grows-trans _ _ later c.enclosed.ensures.passes.grows grows_interface in
    record {
      nodes = c.in_ok-node.ensures.known first (λ texts g. subst (λ zs. AreKnownNodes zs texts) (sym c.new-nodes.ensures) tt) later grows_nodes;
      iface = c.in_ok-enclosed.ensures.known (λ texts g. subst (λ zs. IsKnownBag zs texts) (sym c.new-iface.ensures) (record { listed = tt; pairs = tt })) later grows_interface;
      sem = c.in_ok-sem.ensures.known later grows;
    }
