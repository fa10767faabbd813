use Rattle.std.proofs.Common.{rules}
use Rattle.td_check.proofs.Standing.{stands_decided}
use Rattle.td_check.proofs.shape.stands.Goals as goal

pub returns : goal.returns
returns c =
    stands_decided c.args.nodes.now c.args.a c.args.b c.relation.result c.args.how c.eq.result c.relation.ensures (λ e. search rules) (λ e. search rules)
