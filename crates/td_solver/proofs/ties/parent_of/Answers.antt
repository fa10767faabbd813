use Rattle.td_solver.proofs.Told.{told_at}
use Rattle.td_solver.proofs.ties.parent_of.Goals as goal

pub returns-in-Some : goal.returns-in-Some
returns-in-Some c = told_at c.args.relations.now c.loop-related.related-index c.in-Some.parent c.args.kid c.loop-related-test.true c.in-Some.ensures
