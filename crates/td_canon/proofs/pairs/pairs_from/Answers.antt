use Rattle.std.proofs.Common.{refl}
use Rattle.td_canon.proofs.PairLemmas.{Collected-next}
use Rattle.td_canon.proofs.pairs.pairs_from.Goals as goal

pub loop-place-preserved : goal.loop-place-preserved
loop-place-preserved c =
    Collected-next c.args.symbols.now c.args.bag.now c.args.from c.loop-place.place c.loop-place.pairs.items c.push.new.self.items c.at.result.now _ c.text.ensures.distinct c.requires.named c.at.ensures.pair c.text.ensures.text refl c.in_ok-push.ensures.items
    c.loop-place.invariant
