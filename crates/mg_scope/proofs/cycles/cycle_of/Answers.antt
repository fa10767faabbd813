use Rattle.std.proofs.Common.{◌<◌, List, subst}
use Rattle.gr_terms.specs.declared.Sym.{Sym}
use Rattle.gr_base.specs.Lists.{Each}
use Rattle.mg_scope.specs.Classes.{mentioned}
use Rattle.mg_scope.specs.Orders.{rank_of}
use Rattle.mg_scope.proofs.RankLemmas.{no_way_back}
use Rattle.mg_scope.proofs.cycles.cycle_of.Goals as goal

pub returns-then-are_below : goal.returns-then-are_below
returns-then-are_below c = no_way_back (mentioned c.args.directory.now) c.args.ranks.now c.args.goal c.requires.ranks
    (subst (λ n. Each (λ x. rank_of c.args.ranks.now x < n) (mentioned c.args.directory.now c.args.goal)) c.rank.ensures
    (subst (Each (λ x. rank_of c.args.ranks.now x < c.rank.result)) c.mentioned.ensures (c.are_below.ensures c.if-are_below.true)))
