use Rattle.std.proofs.Common.{arith}
use Rattle.lx_anchor.specs.Counts.{IsClassBelow}
use Rattle.lx_anchor.proofs.CountLemmas.{class-grows, one-more}
use Rattle.lx_anchor.proofs.counts.count_grammar.Goals as goal

pub classes-preserved : goal.classes-preserved
classes-preserved c =
    (one-more IsClassBelow class-grows 0 c.classes.count c.in_ok-count.count c.args.grammar.now c.classes.place c.at.result.now c.at.ensures.class (omega arith, c.classes.invariant) c.in_ok-count.ensures).1
