use Rattle.std.proofs.Common.{arith}
use Rattle.lx_anchor.proofs.AnchoringLemmas.{store-serves}
use Rattle.lx_anchor.proofs.anchoring.store_for.Goals as goal

pub returns : goal.returns
returns c =
    store-serves c.args.lexicon.now c.args.first c.in_ok-count.count c.in-Some.vars _ c.in_ok-store.store c.make_variables.new.store c.in_ok-count.ensures c.in_ok-most_features.ensures (omega (arith, c.in-Some.ensures)) c.in_ok-store.ensures
    c.make_variables.ensures
