use Rattle.tg_grammar.specs.Marks.{lists_at}
use Rattle.tg_grammar.proofs.spots.kind_of.Goals as goal

pub returns : goal.returns
returns c = c.kind_by.ensures (lists_at c.args.node.now) c.mark_of.ensures c.has_category.ensures
