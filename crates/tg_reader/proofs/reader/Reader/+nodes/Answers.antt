use Rattle.std.proofs.Common.{◌≡◌, ◌+◌, ◌∙◌, ◌++◌, ◌∷◌, [], List, length, sym, rules, refl, subst, arith, ap, length-append, append-nil, Err}
use Rattle.std.specs.Prelude.{Some}
use Rattle.gr_base.specs.Forests.{Forest, empty}
use Rattle.gr_symbols.specs.Numbers.{first_texts, with_texts}
use Rattle.gr_symbols.proofs.NumberLemmas.{Grows-trans}
use Rattle.gr_terms.specs.Canonical.{Node, Pairs}
use Rattle.td_canon.specs.Writing.{slots_of}
use Rattle.td_tree.specs.declared.TreeNode.{TreeNode}
use Rattle.tg_reader.proofs.Rows.{table_then}
use Rattle.tg_reader.specs.Naming.{forest_names, node_names}
use Rattle.tg_reader.specs.Reading.{AppendsForest, CanReadBehind, IsKnownNode, Lays, Gets}
use Rattle.tg_reader.proofs.Enclosed.{stops_differs}
use Rattle.tg_reader.proofs.Forests.{AppendsForest-length, AppendsForest-more, all_nodes, appends_node, first_node, is_node, kids_end, kids_text, lays_longer, lays_more, lays_nothing, lays_one, lays_under, next_node, no_kids, no_nodes, nodes_row, one_node, row_end, some_kids, names-beside, names-tree}
use Rattle.tg_reader.proofs.Steps.{ate, known_more, now, ok_any, ok_weaker, passes_then, reads_weaker, stops}
use Rattle.tg_reader.proofs.reader.Reader.+nodes.Goals as goal

pub kids-returns-in_err-node-clause-takes : goal.kids-returns-in_err-node-clause-takes
kids-returns-in_err-node-clause-takes t c = λ text f rest can end e.
    let is : c.from_residual.result ≡ Err c.in_err-node.field-0.0 = search rules in
    let one = first_node text (length c.args.nodes.now) f can in
    rw is (stops c.in_err-node.field-0.0 _ _ (c.in_err-node.ensures.takes text one.first (nodes_row text one.more ++ 41 ∷ rest) one.can (row_end text one.more rest) (e ∙ one.joined rest)))

pub kids-row-init : goal.kids-row-init
kids-row-init t c = record {
  so_far = λ text f rest can e. no_nodes text (Some c.args.parent) f (41 ∷ rest) c.node.new.nodes c.node.new.symbols c.node.new.self.rest.now e;
  known = λ first h. h;
  lays = lays_nothing (Some c.args.parent) c.node.new.nodes;
  few = c.in_ok-node.ensures.few;
  more = omega arith;
  passes = search rules;
}

pub kids-row-preserved : goal.kids-row-preserved
kids-row-preserved t c = record {
  so_far = λ text f rest can e.
      let n = next_node text (Some c.args.parent) f (41 ∷ rest) _ _ _ _ _ c.eat.new.self.rest.now can (stops_differs 32 [] (41 ∷ rest) refl) c.row-test.ensures.yes (c.row.invariant.so_far text f rest can e) in
      let read = c.in_ok-node-2.ensures.takes text n.item (nodes_row text n.left ++ 41 ∷ rest) n.can (row_end text n.left rest) n.behind in
      n.on _ _ _ c.node-in-row.ensures.passes.grows read.0 read.1;
  known = λ first h. c.in_ok-node-2.ensures.known (Grows-trans first_texts _ _ first c.row.invariant.passes.grows) (c.row.invariant.known first h);
  lays = lays_more _ _ _ _ c.row.invariant.lays (lays_one _ _ _ c.in_ok-node-2.ensures.lays);
  few = c.in_ok-node-2.ensures.few;
  more = omega (arith, c.row.invariant.more, lays_longer _ _ _ (lays_one _ _ _ c.in_ok-node-2.ensures.lays));
  passes = passes_then _ _ _ _ _ _ c.row.invariant.passes (passes_then _ _ _ _ _ _ (ate _ (32 ∷ []) _ _ c.row-test.ensures.yes) c.node-in-row.ensures.passes);
}

pub kids-returns-in_err-node-2-clause-takes : goal.kids-returns-in_err-node-2-clause-takes
kids-returns-in_err-node-2-clause-takes t c = λ text f rest can end e.
    let is : c.from_residual-in_err-node-2.result ≡ Err c.in_err-node-2.field-0.0 = search rules in
    let one = first_node text (length c.args.nodes.now) f can in
    let read = c.in_ok-node.ensures.takes text one.first (nodes_row text one.more ++ 41 ∷ rest) one.can (row_end text one.more rest) (e ∙ one.joined rest) in
    let count = AppendsForest-length text (Some c.args.parent) c.node.new.symbols one.first c.args.nodes.now c.node.new.nodes (now c.node.new.symbols (λ texts. AppendsForest text texts (Some c.args.parent) one.first c.args.nodes.now c.node.new.nodes) read.1.later) in
    let can_more = subst (λ k. CanReadBehind text k one.more) (sym count) one.can_more in
    let n = next_node text (Some c.args.parent) one.more (41 ∷ rest) _ _ _ _ _ c.eat.new.self.rest.now can_more (stops_differs 32 [] (41 ∷ rest) refl) c.row-test.ensures.yes (c.row.invariant.so_far text one.more rest can_more read.0) in
    rw is (stops c.in_err-node-2.field-0.0 _ _ (c.in_err-node-2.ensures.takes text n.item (nodes_row text n.left ++ 41 ∷ rest) n.can (row_end text n.left rest) n.behind))

pub kids-returns-clause-takes : goal.kids-returns-clause-takes
kids-returns-clause-takes t c = λ text f rest can end e.
    let one = first_node text (length c.args.nodes.now) f can in
    let read = c.in_ok-node.ensures.takes text one.first (nodes_row text one.more ++ 41 ∷ rest) one.can (row_end text one.more rest) (e ∙ one.joined rest) in
    let count = AppendsForest-length text (Some c.args.parent) c.node.new.symbols one.first c.args.nodes.now c.node.new.nodes (now c.node.new.symbols (λ texts. AppendsForest text texts (Some c.args.parent) one.first c.args.nodes.now c.node.new.nodes) read.1.later) in
    let can_more = subst (λ k. CanReadBehind text k one.more) (sym count) one.can_more in
    let a = all_nodes text (Some c.args.parent) one.more (41 ∷ rest) _ _ _ _ _ c.row-test.ensures.no (c.row.invariant.so_far text one.more rest can_more read.0) in
    reads_weaker c.expect.result _ _ (λ x same. (
      same,
      subst (λ (g : Forest (Node Pairs)). Gets c.args.symbols.now c.row.symbols (forest_names text g) (λ texts. AppendsForest text texts (Some c.args.parent) g c.args.nodes.now c.row.nodes)) (sym one.is)
          (record {
            table = table_then _ _ _ (forest_names text one.first) (forest_names text one.more) read.1.table a.appended.table ∙ ap (with_texts c.args.symbols.now) (sym (names-beside text one.first one.more));
            later = λ later grows.
                AppendsForest-more text (Some c.args.parent) later one.first one.more c.args.nodes.now c.node.new.nodes c.row.nodes (read.1.later later (Grows-trans _ _ later c.row.invariant.passes.grows grows)) (a.appended.later later grows);
          }),
    ))
    (c.expect.ensures.takes rest (c.row-test.ensures.same ∙ a.bytes_are))

pub kids-returns-clause-known : goal.kids-returns-clause-known
kids-returns-clause-known t c = ok_any c.expect.result _ (λ first h. c.row.invariant.known (Grows-trans first_texts _ _ first c.node.ensures.passes.grows) (c.in_ok-node.ensures.known first h))

pub kids-returns-clause-lays : goal.kids-returns-clause-lays
kids-returns-clause-lays t c = ok_any c.expect.result _ (lays_more _ _ _ _ (lays_one _ _ _ c.in_ok-node.ensures.lays) c.row.invariant.lays)

pub node-returns-then-eat-clause-takes : goal.node-returns-then-eat-clause-takes
node-returns-then-eat-clause-takes t c = λ text f rest can end e.
    let one = one_node text (length c.args.nodes.now) f can in
    let read = c.in_ok-node.ensures.takes text one.node (kids_text text one.kids ++ rest) one.can (kids_end text one.kids rest end) (e ∙ one.split rest) in
    let some = some_kids text one.kids c.eat.new.self.rest.now rest end (sym c.if-eat.ensures.yes ∙ read.0) in
    let count : length c.push.new.self ≡ length c.args.nodes.now + 1 = ap (λ (z : List TreeNode). length z) c.in_ok-push.ensures.ok ∙ length-append c.args.nodes.now (c.in_ok-node.node ∷ []) in
    let few = one.few in
    reads_weaker c.kids.result _ _ (λ x under. (
      under.0,
      subst (λ (g : Forest (Node Pairs)). Gets c.args.symbols.now c.kids.new.symbols (forest_names text g) (λ texts. AppendsForest text texts c.args.parent g c.args.nodes.now c.kids.new.nodes)) (sym one.is)
          (record {
            table = table_then _ _ _ (node_names text one.node) (forest_names text one.kids) read.1.table under.1.table ∙ ap (with_texts c.args.symbols.now) (sym (names-tree text one.node one.kids));
            later = λ later grows.
                appends_node text later c.args.parent c.len-number.result c.args.nodes.now c.push.new.self c.kids.new.nodes c.in_ok-node.node one.node one.kids (read.1.later later (Grows-trans _ _ later c.kids.ensures.passes.grows grows)) c.in_ok-node.ensures.parent
                c.in_ok-push.ensures.ok c.len-number.ensures (under.1.later later grows);
          }),
    ))
    (c.kids.ensures.takes text one.kids rest (record { some = some.some; trees = record { few = omega (arith, few, count); nodes = one.can_kids } }) tt some.behind)

pub node-returns-then-eat-clause-known : goal.node-returns-then-eat-clause-known
node-returns-then-eat-clause-known t c = ok_weaker c.kids.result _ _ (λ known first h.
    known (Grows-trans first_texts _ _ first c.labelled.ensures.passes.grows)
    (known_more (λ n texts. IsKnownNode texts n) _ _ _ _ _ c.labelled.ensures.passes.grows c.in_ok-push.ensures.ok h (c.in_ok-node.ensures.known first))) c.kids.ensures.known

pub node-returns-then-eat-clause-lays : goal.node-returns-then-eat-clause-lays
node-returns-then-eat-clause-lays t c = ok_weaker c.kids.result _ _ (λ lays.
    lays_under c.args.parent c.args.nodes.now c.push.new.self c.kids.new.nodes c.in_ok-node.node (slots_of c.in_ok-node.node) (is_node c.in_ok-node.node c.args.parent c.in_ok-node.ensures.parent) c.in_ok-push.ensures.ok
    (subst (λ k. Lays (Some k) c.push.new.self c.kids.new.nodes) c.len-number.ensures lays)) c.kids.ensures.lays

pub node-returns-else-eat-clause-takes : goal.node-returns-else-eat-clause-takes
node-returns-else-eat-clause-takes t c = λ text f rest can end e.
    let one = one_node text (length c.args.nodes.now) f can in
    let read = c.in_ok-node.ensures.takes text one.node (kids_text text one.kids ++ rest) one.can (kids_end text one.kids rest end) (e ∙ one.split rest) in
    let none = no_kids text one.kids c.labelled.new.self.rest.now rest c.if-eat.ensures.no read.0 in (
      c.if-eat.ensures.same ∙ none.same,
      subst (λ (g : Forest (Node Pairs)). Gets c.args.symbols.now c.labelled.new.symbols (forest_names text g) (λ texts. AppendsForest text texts c.args.parent g c.args.nodes.now c.push.new.self)) (sym one.is)
          (record {
            table = read.1.table ∙ ap (with_texts c.args.symbols.now) (sym (append-nil (node_names text one.node)) ∙ ap (λ g. node_names text one.node ++ forest_names text g) (sym none.none) ∙ sym (names-tree text one.node one.kids));
            later = λ later grows.
                appends_node text later c.args.parent c.len-number.result c.args.nodes.now c.push.new.self c.push.new.self c.in_ok-node.node one.node one.kids (read.1.later later grows) c.in_ok-node.ensures.parent
                c.in_ok-push.ensures.ok c.len-number.ensures (subst (λ (g : Forest (Node Pairs)). AppendsForest text later (Some c.len-number.result) g c.push.new.self c.push.new.self) (sym none.none) (empty, tt, sym (append-nil c.push.new.self)));
          }),
    )

pub node-returns-else-eat-clause-known : goal.node-returns-else-eat-clause-known
node-returns-else-eat-clause-known t c = λ first h. known_more (λ n texts. IsKnownNode texts n) _ _ _ _ _ c.labelled.ensures.passes.grows c.in_ok-push.ensures.ok h (c.in_ok-node.ensures.known first)

pub node-returns-else-eat-clause-lays : goal.node-returns-else-eat-clause-lays
node-returns-else-eat-clause-lays t c =
    lays_under c.args.parent c.args.nodes.now c.push.new.self c.push.new.self c.in_ok-node.node (slots_of c.in_ok-node.node) (is_node c.in_ok-node.node c.args.parent c.in_ok-node.ensures.parent) c.in_ok-push.ensures.ok
    (lays_nothing (Some (length c.args.nodes.now)) c.push.new.self)
