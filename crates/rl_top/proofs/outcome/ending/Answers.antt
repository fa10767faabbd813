use Rattle.rl_top.proofs.Stopping.{cut_ends, whole_ends}
use Rattle.rl_top.proofs.outcome.ending.Goals as goal

pub returns-then-class : goal.returns-then-class
returns-then-class c = λ texts. cut_ends texts c.args.classes.now c.loop-class.class-index c.class-item.result c.loop-class-test.true c.class-item.is c.if-class.true

pub returns : goal.returns
returns c = λ texts. whole_ends texts c.args.classes.now c.loop-class.class-index c.loop-class-test.false c.loop-class.invariant
