use Rattle.std.proofs.Common.{length}
use Rattle.td_desc.specs.Descriptions.{description_of}
use Rattle.td_check.proofs.Deciding.{mentions_of, counted_lawful, same_relations, undo_earlier, undo_gives, no_onto, yes_onto, no_lawful, no_relations, all_decide}
use Rattle.td_check.proofs.is_minimal_model.Goals as goal

pub returns-then-not-is_onto-clause-model : goal.returns-then-not-is_onto-clause-model
returns-then-not-is_onto-clause-model c = no_onto c.args.d.now c.args.tree.now c.args.map.now c.count.result c.len.result c.is_onto.result c.count.ensures c.len.ensures c.is_onto.ensures c.if-not-is_onto.true

pub returns-then-not-all_lawful-clause-model : goal.returns-then-not-all_lawful-clause-model
returns-then-not-all_lawful-clause-model c = no_lawful c.args.d.now c.args.tree.now c.args.map.now c.all_lawful.result (counted_lawful c.all_lawful.result c.len-count.result (length c.args.tree.now.nodes) (description_of c.args.d.now).nodes c.args.map.now c.len-count.ensures c.all_lawful.ensures) c.if-not-all_lawful.true

pub returns-then-not-all_hold-clause-model : goal.returns-then-not-all_hold-clause-model
returns-then-not-all_hold-clause-model c = no_relations c.args.d.now c.args.tree.now c.args.map.now c.all_hold.result (same_relations c.args.d.now c.as_slice.result.now c.args.tree.now.nodes c.args.map.now c.all_hold.result c.as_slice.ensures c.all_hold.ensures) c.if-not-all_hold.true

pub is_tree_of-answer-requires-clause-mentions : goal.is_tree_of-answer-requires-clause-mentions
is_tree_of-answer-requires-clause-mentions c = mentions_of c.args.store.now c.mark-before.result c.mark-before.ensures.numbers c.mark-before.ensures.earlier

pub undo-requires : goal.undo-requires
undo-requires c = undo_earlier c.args.store.now c.is_tree_of-answer.new.store c.mark-before.result c.mark-before.ensures.numbers c.mark-before.ensures.earlier c.is_tree_of-answer.ensures.grows

pub returns-clause-model : goal.returns-clause-model
returns-clause-model c =
    all_decide c.args.d.now c.args.tree.now c.args.map.now c.is_tree_of-answer.result c.all_lawful.result c.all_hold.result
    (yes_onto c.args.d.now c.args.tree.now c.args.map.now c.count.result c.len.result c.is_onto.result c.count.ensures c.len.ensures c.is_onto.ensures c.if-not-is_onto.false)
    (counted_lawful c.all_lawful.result c.len-count.result (length c.args.tree.now.nodes) (description_of c.args.d.now).nodes c.args.map.now c.len-count.ensures c.all_lawful.ensures) c.if-not-all_lawful.false (same_relations c.args.d.now c.as_slice.result.now c.args.tree.now.nodes c.args.map.now c.all_hold.result c.as_slice.ensures c.all_hold.ensures) c.if-not-all_hold.false c.is_tree_of-answer.ensures.tree

pub returns-clause-kept : goal.returns-clause-kept
returns-clause-kept c = undo_gives c.args.store.now c.is_tree_of-answer.new.store c.undo.new.self c.mark-before.result c.mark-before.ensures.numbers c.is_tree_of-answer.ensures.grows c.undo.ensures
