use Rattle.std.proofs.Common.{arith}
use Rattle.lx_anchor.specs.Counts.{HasFewFeatures}
use Rattle.lx_anchor.proofs.CountLemmas.{features-grow, one-more}
use Rattle.lx_anchor.proofs.counts.most_features.Goals as goal

pub entries-preserved : goal.entries-preserved
entries-preserved c = (one-more HasFewFeatures features-grow 0 c.entries.count c.in_ok-count.count c.args.lexicon.now c.entries.number c.get.result.now c.get.ensures (omega arith, c.entries.invariant) c.in_ok-count.ensures).1
