use Rattle.td_model.proofs.ReadingLemmas.{attributes_ok}
use Rattle.td_model.proofs.listing.attributes.Goals as goal

pub returns : goal.returns
returns c = attributes_ok c.args.network.now c.in_ok-bag.bag c.keys.result c.in_ok-bag.ensures c.keys.ensures
