use Rattle.td_model.proofs.ReadingLemmas.{keys_more}
use Rattle.td_model.proofs.listing.keys.Goals as goal

pub pairs-preserved : goal.pairs-preserved
pairs-preserved c = keys_more c.args.bag.now c.pairs.place c.at.result.now c.pairs.keys c.push.new.self c.at.ensures.pair c.pairs.invariant c.in_ok-push.ensures.ok
