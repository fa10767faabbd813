use Rattle.std.proofs.Common.{◌<◌, subst}
use Rattle.gr_base.proofs.ListLemmas.{Each-whole}
use Rattle.mg_scope.specs.Orders.{rank_of}
use Rattle.mg_scope.proofs.LoopLemmas.{Each-more}
use Rattle.mg_scope.proofs.ranks.are_below.Goals as goal

pub loop-name-preserved : goal.loop-name-preserved
loop-name-preserved c =
    Each-more (λ x. rank_of c.args.ranks.now x < c.args.rank_above) c.args.names.now c.loop-name.name-index _ c.loop-name-test.true c.loop-name.invariant
    (subst (λ n. n < c.args.rank_above) c.rank.ensures c.if-rank-rank_above.false)

pub returns : goal.returns
returns c = λ _. Each-whole (λ x. rank_of c.args.ranks.now x < c.args.rank_above) c.args.names.now c.loop-name.name-index c.loop-name-test.false c.loop-name.invariant
