use Rattle.lx_anchor.specs.Counts.{IsLiteralBelow}
use Rattle.lx_anchor.proofs.CountLemmas.{literal-grows, one-more}
use Rattle.lx_anchor.proofs.counts.count_literals.Goals as goal

pub literals-preserved : goal.literals-preserved
literals-preserved c = one-more IsLiteralBelow literal-grows c.args.count c.literals.more c.in_ok-more.more c.args.literals.now c.literals.place c.get.result.now c.get.ensures c.literals.invariant c.in_ok-more.ensures
