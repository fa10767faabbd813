use Rattle.tg_text.proofs.NextTree.{next_after}
use Rattle.tg_text.proofs.reading.is_next.Goals as goal

pub returns-else-count-eq0-clause-next : goal.returns-else-count-eq0-clause-next
returns-else-count-eq0-clause-next c = (next_after c.args.trees.now c.text.result.now c.args.text.now c.len-count.result c.lt.result c.len-count.ensures.set c.len-count.ensures.number c.if-count-eq0.false c.text.ensures.text c.lt.ensures).0

pub returns-else-count-eq0-clause-other : goal.returns-else-count-eq0-clause-other
returns-else-count-eq0-clause-other c = (next_after c.args.trees.now c.text.result.now c.args.text.now c.len-count.result c.lt.result c.len-count.ensures.set c.len-count.ensures.number c.if-count-eq0.false c.text.ensures.text c.lt.ensures).1
