use Rattle.std.proofs.Common.{◌≤◌, length, sym, subst}
use Rattle.std.proofs.lemmas.Result.{on_ok_weaker}
use Rattle.td_canon.specs.CanonicalTexts.{text_in}
use Rattle.td_canon.proofs.NodeLemmas.{has_category, named_category, ordered_node, splits_bag, writes_node}
use Rattle.td_canon.proofs.writing.push_node.Goals as goal

pub push_category-requires : goal.push_category-requires
push_category-requires c = named_category (length c.args.symbols.now) c.args.node.now.own c.get-category.result c.requires.own (has_category c.args.node.now.own c.get-category.result c.get-category.ensures.value)

pub push_bag-requires-clause-within : goal.push_bag-requires-clause-within
push_bag-requires-clause-within c =
    subst (λ k. k ≤ length c.args.node.now.own) (sym c.before_properties-first_property.ensures)
    (splits_bag (text_in c.args.symbols.now) c.args.node.now.own c.get-category.result c.get-category.ensures.listed (has_category c.args.node.now.own c.get-category.result c.get-category.ensures.value)).within

pub returns-clause-writes : goal.returns-clause-writes
returns-clause-writes c =
    on_ok_weaker c.push_bag-3.result
    (writes_node (text_in c.args.symbols.now) c.args.node.now c.get-category.result c.args.draft.now c.push_category.new.draft c.push_bag.new.draft c.push_bag-2.new.draft c.push_bag-3.new.draft c.before_properties-first_property.result
    (splits_bag (text_in c.args.symbols.now) c.args.node.now.own c.get-category.result c.get-category.ensures.listed (has_category c.args.node.now.own c.get-category.result c.get-category.ensures.value))
    c.before_properties-first_property.ensures c.in_ok-push_category.ensures c.in_ok-push_bag.ensures.writes c.in_ok-push_bag-2.ensures.writes)
    c.push_bag-3.ensures.writes

pub returns-clause-ordered : goal.returns-clause-ordered
returns-clause-ordered c =
    on_ok_weaker c.push_bag-3.result
    (ordered_node c.args.symbols.now c.args.node.now c.get-category.result c.before_properties-first_property.result c.before_properties-first_property.ensures c.requires c.get-category.ensures.listed c.push_bag-2.ensures.listed c.push_bag-3.ensures.listed
    c.in_ok-push_bag.ensures.distinct c.in_ok-push_bag-2.ensures.distinct)
    c.push_bag-3.ensures.distinct
