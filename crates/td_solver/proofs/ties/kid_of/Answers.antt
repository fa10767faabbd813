use Rattle.td_solver.proofs.Told.{told_at}
use Rattle.td_solver.proofs.ties.kid_of.Goals as goal

pub returns-in-Some : goal.returns-in-Some
returns-in-Some c = (c.in-Some.ensures.0, told_at c.args.relations.now c.loop-related.related-index c.args.node c.in-Some.kid c.loop-related-test.true c.in-Some.ensures.1)
